use Rattle.hb_history.proofs.KeptWhole.{kept-whole}
use Rattle.hb_history.proofs.soundness.content_that_is_held_may_be_named.Goals as goal

pub returns : goal.returns
returns c = kept-whole
