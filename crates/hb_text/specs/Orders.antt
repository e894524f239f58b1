-- The orders of keys. A text is ordered by its bytes: the first byte that differs decides, and where
-- none does the shorter text comes first. A digest is ordered by its 32 bytes in the same way.
use Rattle.std.specs.Prelude.{◌≡◌, ℕ, List}
use Rattle.std.specs.declared.cmp.Ordering.{Ordering}
use Rattle.std.specs.declared.cmp.Ordering.TheVariants.{Equal}
use Rattle.std.specs.Ordering.{nat_cmp}
use Rattle.std.specs.Cmp.{IsTotalOrder}
use Rattle.std.specs.Cmp.Lexicographic.{slice_cmp}
use Rattle.hb_text.specs.declared.digests.Digest.{Digest}

abbrev pub text_cmp : List ℕ → List ℕ → Ordering
text_cmp = slice_cmp nat_cmp

abbrev pub digest_cmp : Digest → Digest → Ordering
digest_cmp a b = text_cmp a.0 b.0

-- An order that tables can keep their rows in. It is total: each of two keys answers the opposite of
-- the other, what is below a key is below all that the key is below, and keys that tie compare alike
-- to every third. And only equal keys tie.
pub record IsKeyOrder {K : Type 0} (compare : K → K → Ordering) : Type 0 where
  pub total : IsTotalOrder compare
  pub ties : (a b : K) → compare a b ≡ Equal → a ≡ b
