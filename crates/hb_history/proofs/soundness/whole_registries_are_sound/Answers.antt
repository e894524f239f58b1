use Rattle.hb_history.proofs.WholeSound.{sound-whole}
use Rattle.hb_history.proofs.soundness.whole_registries_are_sound.Goals as goal

pub returns : goal.returns
returns c = sound-whole
