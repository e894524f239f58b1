use Rattle.hb_manifest.proofs.Sound.{sound}
use Rattle.hb_manifest.proofs.laws.manifests_are_sound.Goals as goal

pub returns : goal.returns
returns c = sound
