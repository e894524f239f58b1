-- Content descriptors (OCI Image Specification 1.1, "OCI Content Descriptors").
use Rattle.std.specs.Prelude.{◌^◌, ℕ, Bool, false, nat_le, List, codes, drop, bytes_eq, Option, Some, None, option_and_then, if◌then◌else◌}
use Rattle.std.specs.Option.{option_map_or}
use Rattle.std.specs.Result.{result_ok}
use Rattle.hex.specs.Hex.{decode_sized}
use Rattle.serde_json.specs.Data.{Data}
use Rattle.hb_text.specs.declared.digests.Digest.{Digest}
use Rattle.hb_text.specs.Digests.{digest_text}
use Rattle.hb_manifest.specs.Json.{text_at, whole_at}

-- this digest, where the text is the one that is written for it
abbrev pub when_written : List ℕ → Digest → Option Digest
when_written text d = if bytes_eq (digest_text d) text then Some d else None

-- The digest that a text names: of the 32 bytes whose hexadecimal digits stand behind `sha256:`. What
-- is written for them has to be the text again, so that its digits are in lower case.
abbrev pub digest_in : List ℕ → Option Digest
digest_in text = option_and_then (λ bytes. when_written text (record { 0 = bytes })) (result_ok (decode_sized (drop 7 text) 32))

-- the most bytes of a blob
abbrev pub most_of_blob : ℕ
most_of_blob = 2 ^ 36

-- `size` is an integer from 0 to the most bytes of a blob
abbrev pub has_size : Data → Bool
has_size d = option_map_or (λ n. nat_le n most_of_blob) (whole_at (codes "size") d) false

-- The digest that a descriptor names. `None` for what is no descriptor: it has no such `size`, or no
-- `digest` that is the text of one. Its other members may be anything.
abbrev pub descriptor : Data → Option Digest
descriptor d = if has_size d then option_and_then digest_in (text_at (codes "digest") d) else None
