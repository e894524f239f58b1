-- Numbers as decimal digits.
use Rattle.std.specs.Prelude.{◌≡◌, ◌≢◌, ◌<◌, ◌+◌, ◌-◌, ◌*◌, ◌^◌, ℕ, Bool, List, length, slice_index, IsTrue, fold}
use Rattle.std.specs.List.{list_all}
use Rattle.hb_text.specs.Grammar.{is_within}

-- [0-9]
abbrev pub is_digit : ℕ → Bool
is_digit b = is_within 48 57 b

-- the number that decimal digits stand for, the first of which weighs most
abbrev pub value_of : List ℕ → ℕ
value_of = fold (λ value b. 10 * value + (b - 48)) 0

-- The text is the number in decimal digits, without a needless leading zero, and the number is below
-- 2^64.
pub record IsNumber (s : List ℕ) (n : ℕ) : Type 0 where
  pub some_digit : 0 < length s
  pub digits : IsTrue (list_all is_digit s)
  pub no_zero : 1 < length s → slice_index s 0 ≢ 48
  pub value : value_of s ≡ n
  pub fits : n < 2 ^ 64
