use Rattle.hb_desk.proofs.Interleave.{one-between}
use Rattle.hb_desk.proofs.laws.one_event_is_what_others_may_do.Goals as goal

pub returns : goal.returns
returns c = one-between
