-- How the code reads a name byte by byte. No public contract speaks of it: `proofs/NameScan` proves
-- that what ends within a word is exactly what the grammar of names has.
use Rattle.std.specs.Prelude.{ℕ, Bool, true, false, ◌&&◌, List, nat_eq, fold, if◌then◌else◌}
use Rattle.hb_text.specs.Grammar.{is_lower_or_digit}
use Rattle.hb_text.specs.declared.names.Place.{Place}
use Rattle.hb_text.specs.declared.names.Place.TheVariants.{Before, Within, Underscore, Dashes, Outside}

-- The place after a byte behind a word that doesn't go on with it. A slash may stand there only where
-- a name has several components.
abbrev pub behind_word : Bool → ℕ → Place
behind_word slash b = if nat_eq 46 b then Before else (if nat_eq 95 b then Underscore else (if nat_eq 45 b then Dashes else (if slash && nat_eq 47 b then Before else Outside)))

-- within the word if the test of its bytes passed, and else the other place
abbrev pub in_word : Bool → Place → Place
in_word true place = Within
in_word false place = place

-- the place after one byte more
abbrev pub next_place : Bool → Place → ℕ → Place
next_place slash Outside b = Outside
next_place slash Before b = in_word (is_lower_or_digit b) Outside
next_place slash Within b = in_word (is_lower_or_digit b) (behind_word slash b)
next_place slash Underscore b = in_word (is_lower_or_digit b) (if nat_eq 95 b then Before else Outside)
next_place slash Dashes b = in_word (is_lower_or_digit b) (if nat_eq 45 b then Dashes else Outside)

-- the place after a text
abbrev pub place_after : Bool → Place → List ℕ → Place
place_after slash = fold (next_place slash)

-- a name may end here
abbrev pub is_within_word : Place → Bool
is_within_word Before = false
is_within_word Within = true
is_within_word Underscore = false
is_within_word Dashes = false
is_within_word Outside = false
