-- The promise about stored bytes.
use Rattle.std.specs.Prelude.{◌≡◌, ℕ, List, length, Contains, IsSome, IfSome, IsSomeAnd}
use Rattle.std.specs.List.{AllByRecursion}
use Rattle.hb_text.specs.declared.digests.Digest.{Digest}
use Rattle.hb_text.specs.Digests.{digest_of}
use Rattle.hb_store.specs.declared.rows.Placed.{Placed}
use Rattle.hb_store.specs.Contents.{Contents, bytes_of}
use Rattle.hb_model.specs.Registry.{Registry, pair_in}
use Rattle.hb_model.specs.Presence.{needed}

-- bytes are held under the digest, and have it
abbrev pub IsHeld : Contents → Digest → Type 0
IsHeld c d = IsSomeAnd (bytes_of c d) (λ bytes. digest_of bytes ≡ d)

-- what is held under the digest has so many bytes
abbrev pub HasLength : Contents → Digest → ℕ → Type 0
HasLength c d size = IfSome (bytes_of c d) (λ bytes. length bytes ≡ size)

-- No digest stands for two lengths among all contents that were ever placed. SHA-256 can't promise it, so
-- what is said of lengths stands under it.
abbrev pub OneLength : Contents → Type 0
OneLength c = (a b : Placed) → Contains c.placed a → Contains c.placed b → a.digest ≡ b.digest → a.size ≡ b.size

-- Each digest that a project has is held with bytes of that digest, and a project has what its artifacts
-- need: so a visible artifact can be pulled whole.
pub record IsSound (m : Registry) (c : Contents) : Type 0 where
  pub stored : AllByRecursion (λ pair. IsHeld c pair.digest) m.pairs
  pub complete : (p : List ℕ) → AllByRecursion (λ d. IsSome (pair_in m p d)) (needed m p)
  pub lengths : OneLength c → AllByRecursion (λ pair. HasLength c pair.digest pair.size) m.pairs
