-- A desk with the clock whose readings its events are handed.
use Rattle.std.specs.Prelude.{◌≡◌, ℕ, Option, IfSome}
use Rattle.hb_outside.specs.Clocks.{behind}
use Rattle.hb_desk.specs.Clause.{View}
use Rattle.hb_desk.specs.Points.{IsBetween, IsTimely, Point}

-- what contracts see of a desk, and what the clock's readings give from then on, where it tells them
pub record ClockedDesk : Type 0 where
  pub view : View
  pub readings : Option (ℕ → ℕ)

abbrev pub clocked : View → Option (ℕ → ℕ) → ClockedDesk
clocked view readings = record { view = view; readings = readings }

-- the event of the point stands between these two, and was handed the next reading of the clock
pub record HappensBetween (p : Point) (old new : ClockedDesk) : Type 0 where
  pub between : IsBetween p old.view new.view
  pub timely : IfSome old.readings (λ reading. IsTimely (reading 0) old.view p)
  pub goes_on : new.readings ≡ behind old.readings
