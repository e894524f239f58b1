-- SHA-256 digests, and the texts that name them.
use Rattle.std.specs.Prelude.{◌≡◌, ℕ, List, ◌++◌, length, codes}
use Rattle.sha2.specs.Sha256.{sha256}
use Rattle.hex.specs.Hex.{encode_lower, IsBytes}
use Rattle.hb_text.specs.declared.digests.Digest.{Digest}

-- SHA-256 of these bytes (FIPS 180-4)
abbrev pub digest_of : List ℕ → Digest
digest_of bytes = record { 0 = sha256 bytes }

-- `sha256:` and the bytes' hexadecimal digits in lower case
abbrev pub digest_text : Digest → List ℕ
digest_text d = codes "sha256:" ++ encode_lower d.0

-- In definitions the bytes of a digest are a list of numbers: this says that they are 32 bytes.
pub record IsDigest (d : Digest) : Type 0 where
  pub long : length d.0 ≡ 32
  pub bytes : IsBytes d.0
