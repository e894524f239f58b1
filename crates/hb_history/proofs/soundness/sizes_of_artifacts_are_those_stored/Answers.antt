use Rattle.hb_history.proofs.ArtifactSizes.{artifact-sizes-stored}
use Rattle.hb_history.proofs.soundness.sizes_of_artifacts_are_those_stored.Goals as goal

pub returns : goal.returns
returns c = artifact-sizes-stored
