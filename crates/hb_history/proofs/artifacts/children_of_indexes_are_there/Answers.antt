use Rattle.hb_history.proofs.NamedArtifacts.{children-there}
use Rattle.hb_history.proofs.artifacts.children_of_indexes_are_there.Goals as goal

pub returns : goal.returns
returns c = children-there
