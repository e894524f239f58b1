use Rattle.std.proofs.Common.{◌≡◌, ◌≢◌, ◌∙◌, List, ℕ, Option, Some, None, refl, sym, ap}
use Rattle.hb_text.specs.declared.digests.Digest.{Digest}
use Rattle.hb_text.specs.Digests.{digest_text, IsDigest}
use Rattle.hb_manifest.specs.Descriptors.{digest_in}
use Rattle.hb_manifest.proofs.DigestTexts.{named, names}
use Rattle.hb_manifest.proofs.descriptors.digest_in.Goals as goal

-- a text that names no digest
unnamed : (text : List ℕ) (r : Option Digest) → digest_in text ≡ r → ((d : Digest) → IsDigest d → text ≢ digest_text d) → None ≡ r
unnamed text None e none = refl
unnamed text (Some d) e none = let is = names text d e in absurd (none d is.1 is.0)

pub returns-in_err-digest : goal.returns-in_err-digest
returns-in_err-digest c = c.from_residual.ensures ∙ unnamed c.args.text.now (digest_in c.args.text.now) refl c.in_err-digest.ensures.none

pub returns : goal.returns
returns c =
    ap Some c.known.ensures.same
    ∙ sym (named c.args.text.now c.in_ok-digest.digest c.known.ensures.whole c.in_ok-digest.ensures.some)
