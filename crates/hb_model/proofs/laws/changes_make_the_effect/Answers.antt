use Rattle.hb_model.proofs.Batches.{changes-effect}
use Rattle.hb_model.proofs.laws.changes_make_the_effect.Goals as goal

pub returns : goal.returns
returns c = changes-effect
