use Rattle.hb_model.proofs.WholeSteps.{quiet-whole}
use Rattle.hb_model.proofs.quiet.quiet_entries_keep_the_registry_whole.Goals as goal

pub returns : goal.returns
returns c = quiet-whole
