use Rattle.hb_desk.proofs.Interleave.{between-more}
use Rattle.hb_desk.proofs.laws.what_others_do_adds_up.Goals as goal

pub returns : goal.returns
returns c = between-more
