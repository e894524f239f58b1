-- Patterns over texts, and the texts that they match.
use Rattle.std.specs.Prelude.{◌≡◌, ℕ, ◌+◌, Bool, true, ◌&&◌, not, List, [], ◌∷◌, ◌++◌, length, take, drop, IsTrue, nat_eq}
use Rattle.std.specs.List.{list_any, range_with_len}
use Rattle.std.specs.Cmp.Lexicographic.{pointwise}

-- A part of a pattern: this byte; `?`, one byte that isn't a slash; `*`, any bytes without a slash; `**`,
-- any bytes; `{a,b}`, one of these texts.
pub data Part : Type 0 where
  Literal : (byte : ℕ) → Part
  One : Part
  Several : Part
  Any : Part
  Either : (texts : List (List ℕ)) → Part

abbrev pub has_no_slash : List ℕ → Bool
has_no_slash s = not (list_any (nat_eq 47) s)

-- whether the part matches the piece
abbrev pub is_piece : Part → List ℕ → Bool
is_piece (Literal byte) s = pointwise nat_eq s (byte ∷ [])
is_piece One s = nat_eq (length s) 1 && has_no_slash s
is_piece Several s = has_no_slash s
is_piece Any s = true
is_piece (Either texts) s = list_any (λ text. pointwise nat_eq s text) texts

-- The parts match a text that is pieces, one behind another, one for each part.
abbrev pub Matches : List Part → List ℕ → Type 0
Matches [] s = s ≡ []
Matches (part ∷ parts) s = (piece : List ℕ) × (rest : List ℕ) × (s ≡ piece ++ rest) × IsTrue (is_piece part piece) × Matches parts rest

-- whether the text can be cut in two that pass the test
abbrev pub is_cut : (List ℕ → List ℕ → Bool) → List ℕ → Bool
is_cut test s = list_any (λ n. test (take n s) (drop n s)) (range_with_len 0 (length s + 1))

-- the same as a test, which tries each cut
abbrev pub matches : List Part → List ℕ → Bool
matches [] s = nat_eq (length s) 0
matches (part ∷ parts) s = is_cut (λ piece rest. is_piece part piece && matches parts rest) s
