-- Tags: the grammar of `<reference>` as a tag in the OCI Distribution Specification 1.1, "Pulling
-- manifests": [a-zA-Z0-9_][a-zA-Z0-9._-]{0,127}.
use Rattle.std.specs.Prelude.{◌≤◌, ◌||◌, ℕ, Bool, List, [], ◌∷◌, length, IsTrue, nat_eq}
use Rattle.std.specs.List.{list_all}
use Rattle.hb_text.specs.Grammar.{is_within}

-- [a-zA-Z0-9_]
abbrev pub is_tag_start : ℕ → Bool
is_tag_start b = is_within 97 122 b || is_within 65 90 b || is_within 48 57 b || nat_eq 95 b

-- [a-zA-Z0-9._-]
abbrev pub is_in_tag : ℕ → Bool
is_in_tag b = is_tag_start b || nat_eq 46 b || nat_eq 45 b

-- a first byte, and at most 127 more
abbrev pub IsTag : List ℕ → Type 0
IsTag [] = ⊥
IsTag (first ∷ rest) = IsTrue (is_tag_start first) × IsTrue (list_all is_in_tag rest) × (length rest ≤ 127)
