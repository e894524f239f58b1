use Rattle.hb_history.proofs.Sizes.{sizes-stored}
use Rattle.hb_history.proofs.soundness.sizes_of_pairs_are_those_stored.Goals as goal

pub returns : goal.returns
returns c = sizes-stored
