use Rattle.hb_history.proofs.NamedArtifacts.{tags-there}
use Rattle.hb_history.proofs.artifacts.tags_name_artifacts.Goals as goal

pub returns : goal.returns
returns c = tags-there
