-- How many lines of a text are whole.
use Rattle.std.specs.Prelude.{◌≡◌, ◌+◌, ◌==◌, ◌||◌, ℕ, List, [], ◌∷◌, ◌++◌, fold, Bool, true, false, if◌then◌else◌}

abbrev pub is_newline : ℕ → Bool
is_newline c = c == 10 || c == 13

-- whether a line has begun, and how many have ended since, after one byte more
abbrev pub after_byte : Bool × ℕ → ℕ → Bool × ℕ
after_byte s c = if s.0 then (true, if c == 10 then s.1 + 1 else s.1) else (if is_newline c then s else (true, s.1))

-- how many lines are whole, without the empty ones in front
abbrev pub whole_lines : List ℕ → ℕ
whole_lines b = (fold after_byte (false, 0) b).1

-- the bytes end with a line feed
abbrev pub EndsLine : List ℕ → Type 0
EndsLine b = (before : List ℕ) × (b ≡ before ++ 10 ∷ [])
