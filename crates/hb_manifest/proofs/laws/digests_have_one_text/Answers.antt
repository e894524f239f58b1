use Rattle.hb_manifest.proofs.DigestTexts.{named, names}
use Rattle.hb_manifest.proofs.laws.digests_have_one_text.Goals as goal

pub returns : goal.returns
returns c = λ text d. (λ e. let is = names text d e in record { written = is.0; digest = is.1 }, λ is. named text d is.digest is.written)
