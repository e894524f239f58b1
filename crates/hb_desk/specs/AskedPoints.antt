-- The points of an operation that makes one ask.
use Rattle.std.specs.Prelude.{◌≡◌, ℕ, List, [], ◌∷◌, Option, Some, None, Result}
use Rattle.hb_desk.specs.Calls.{Asked, Tells, plain}
use Rattle.hb_desk.specs.Points.{Point, outcome_at}
use Rattle.hb_desk.specs.declared.asks.Ask.{Ask}
use Rattle.hb_desk.specs.declared.told.Told.{Told}
use Rattle.hb_desk.specs.declared.refusals.Refusal.{Refusal}

abbrev pub left_of : Option (Result Told Refusal) → ℕ
left_of None = 1
left_of (Some x) = 0

-- nothing yet, or one point of the ask, whose outcome is the answer
abbrev pub Went : Ask → Ask → Option (Result Told Refusal) → List Point → Type 0
Went begun ask None [] = ask ≡ begun
Went begun ask None (p ∷ points) = ⊥
Went begun ask (Some result) [] = ⊥
Went begun ask (Some result) (p ∷ points) = (p.event.call ≡ Asked begun) × (outcome_at p ≡ plain Tells result) × (points ≡ [])
