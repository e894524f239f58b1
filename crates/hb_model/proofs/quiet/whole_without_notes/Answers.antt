use Rattle.hb_model.proofs.WholeSteps.{whole-without_notes}
use Rattle.hb_model.proofs.quiet.whole_without_notes.Goals as goal

pub returns : goal.returns
returns c = whole-without_notes
