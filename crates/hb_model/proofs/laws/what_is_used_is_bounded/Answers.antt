use Rattle.hb_model.proofs.UsedBound.{used-bound}
use Rattle.hb_model.proofs.laws.what_is_used_is_bounded.Goals as goal

pub returns : goal.returns
returns c = used-bound
