use Rattle.hb_desk.proofs.Interleave.{none-between}
use Rattle.hb_desk.proofs.laws.others_may_rest.Goals as goal

pub returns : goal.returns
returns c = none-between
