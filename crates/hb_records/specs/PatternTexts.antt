-- The text of a pattern: 1 to 128 bytes, which are a list of parts. It is read byte by byte. `**` is one
-- part, so three stars in a row are none, and what stands between braces are texts of one literal or more.
use Rattle.std.specs.Prelude.{ℕ, Bool, false, ◌&&◌, ◌||◌, List, [], ◌∷◌, ◌++◌, length, Option, Some, None, nat_eq, nat_le, if◌then◌else◌}
use Rattle.hb_text.specs.Grammar.{is_within}
use Rattle.hb_records.specs.Patterns.{Part, matches}
use Rattle.hb_records.specs.Patterns.Part.{Literal, One, Several, Any, Either}

-- [A-Za-z0-9._/-]
abbrev pub is_literal : ℕ → Bool
is_literal b = is_within 97 122 b || is_within 65 90 b || is_within 45 57 b || nat_eq 95 b

-- What the text so far leaves open: nothing; a star, which may be the first of two; two stars; braces with
-- the texts that are whole and the one that is begun. Or it is no front of a pattern.
pub data Reading : Type 0 where
  Between : Reading
  OneStar : Reading
  TwoStars : Reading
  InBraces : (texts : List (List ℕ)) (text : List ℕ) → Reading
  NoPattern : Reading

-- what a byte opens where nothing is open
abbrev pub opened : ℕ → Reading
opened b = if nat_eq b 42 then OneStar else (if nat_eq b 123 then InBraces [] [] else (if nat_eq b 63 || is_literal b then Between else NoPattern))

-- a byte between braces, where this is the text that is begun
abbrev pub in_braces : List (List ℕ) → List ℕ → ℕ → Reading
in_braces texts [] b = if is_literal b then InBraces texts (b ∷ []) else NoPattern
in_braces texts (x ∷ xs) b = if is_literal b then InBraces texts ((x ∷ xs) ++ b ∷ []) else (if nat_eq b 44 then InBraces (texts ++ (x ∷ xs) ∷ []) [] else (if nat_eq b 125 then Between else NoPattern))

-- what is open behind one byte more
abbrev pub reading_after : Reading → ℕ → Reading
reading_after Between b = opened b
reading_after OneStar b = if nat_eq b 42 then TwoStars else opened b
reading_after TwoStars b = if nat_eq b 42 then NoPattern else opened b
reading_after (InBraces texts text) b = in_braces texts text b
reading_after NoPattern b = NoPattern

-- the part that a byte is by itself, if it is one
abbrev pub whole_part : ℕ → List Part
whole_part b = if nat_eq b 63 then One ∷ [] else (if is_literal b then Literal b ∷ [] else [])

-- the parts that a byte makes whole
abbrev pub parts_ended : Reading → ℕ → List Part
parts_ended Between b = whole_part b
parts_ended OneStar b = if nat_eq b 42 then [] else Several ∷ whole_part b
parts_ended TwoStars b = Any ∷ whole_part b
parts_ended (InBraces texts text) b = if nat_eq b 125 then Either (texts ++ text ∷ []) ∷ [] else []
parts_ended NoPattern b = []

-- the parts that the end of the text makes whole, where a pattern can end
abbrev pub parts_at_end : Reading → Option (List Part)
parts_at_end Between = Some []
parts_at_end OneStar = Some (Several ∷ [])
parts_at_end TwoStars = Some (Any ∷ [])
parts_at_end (InBraces texts text) = None
parts_at_end NoPattern = None

abbrev pub behind : List Part → Option (List Part) → Option (List Part)
behind first None = None
behind first (Some rest) = Some (first ++ rest)

abbrev pub parts_from : Reading → List ℕ → Option (List Part)
parts_from reading [] = parts_at_end reading
parts_from reading (b ∷ s) = behind (parts_ended reading b) (parts_from (reading_after reading b) s)

-- the parts of a pattern, if the text is one
abbrev pub parts_of : List ℕ → Option (List Part)
parts_of s = if nat_le 1 (length s) && nat_le (length s) 128 then parts_from Between s else None

abbrev pub matches_where_some : Option (List Part) → List ℕ → Bool
matches_where_some None s = false
matches_where_some (Some parts) s = matches parts s

-- whether the pattern of this text matches; a text that is no pattern matches nothing
abbrev pub matches_text : List ℕ → List ℕ → Bool
matches_text pattern s = matches_where_some (parts_of pattern) s
