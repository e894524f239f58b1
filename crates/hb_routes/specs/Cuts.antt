-- Texts that are cut at a byte, or at a front or an end that they have.
use Rattle.std.specs.Prelude.{◌==◌, ◌-◌, ℕ, Bool, List, length, take, drop, Option, Some, None, nat_eq, if◌then◌else◌}
use Rattle.std.specs.List.{before_first, after_first, slice_split}
use Rattle.std.specs.Cmp.Lexicographic.{pointwise}

-- the same text
abbrev pub is_same : List ℕ → List ℕ → Bool
is_same = pointwise nat_eq

-- the parts between the bytes c: one more than there are such bytes, and any of them may be empty
abbrev pub cut_at : ℕ → List ℕ → List (List ℕ)
cut_at c = slice_split (λ b. b == c)

-- what stands before the first byte c, or all where there is none
abbrev pub before : ℕ → List ℕ → List ℕ
before c = before_first (λ b. b == c)

-- what stands behind the first byte c, or nothing where there is none
abbrev pub behind : ℕ → List ℕ → List ℕ
behind c = after_first (λ b. b == c)

-- what stands behind this front, where the text begins with it
abbrev pub behind_front : List ℕ → List ℕ → Option (List ℕ)
behind_front front text = if is_same (take (length front) text) front then Some (drop (length front) text) else None

-- what stands before this end, where the text ends with it
abbrev pub before_end : List ℕ → List ℕ → Option (List ℕ)
before_end end text = if is_same (drop (length text - length end) text) end then Some (take (length text - length end) text) else None
