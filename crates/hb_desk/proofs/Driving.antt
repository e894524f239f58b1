-- An operation that is driven, step by step.
use Rattle.std.proofs.Common.{◌≡◌, ◌↔◌, ℕ, Bool, true, false, List, [], ◌∷◌, Option, Some, None, IfSome, refl, subst}
use Rattle.hb_outside.specs.Clocks.{behind}
use Rattle.hb_desk.specs.Points.{IsTimely, Point, Steps}
use Rattle.hb_desk.specs.ClockedDesks.{ClockedDesk}
use Rattle.hb_desk.specs.declared.ops.Progress.TheVariants.{More, Done}
use Rattle.hb_desk.specs.declared.refusals.Refusal.{Refusal}
use Rattle.hb_desk.specs.Chains.{Driven}

-- no event yet
pub driven-none : (Streams : Option Refusal → Type 0) (start : ClockedDesk) (Went : List Point → Type 0) → Went [] → Driven Streams start start Went
driven-none Streams start Went went = record { points = []; chain = refl; streams = tt; went = went }

-- a step that was handed the next reading makes its chain longer
pub driven-step : {O : Type 0} (Streams : Option Refusal → Type 0) (start old new : ClockedDesk) (now : ℕ) (went went' : O → List Point → Type 0) (begun : O) → Driven Streams start old (went begun) → IfSome old.readings (λ reading. now ≡ reading 0) → new.readings ≡ behind old.readings → Steps Streams now old.view new.view went went' → Driven Streams start new (went' begun)
driven-step Streams start old new now went went' begun driven reads goes_on steps = record {
  points = steps.point ∷ driven.points;
  chain = (old, driven.chain, record { between = steps.between; timely = timely old.readings reads; goes_on = goes_on });
  streams = (steps.stream, driven.streams);
  went = steps.goes begun driven.points driven.went;
}
  where
    timely : (readings : Option (ℕ → ℕ)) → IfSome readings (λ reading. now ≡ reading 0) → IfSome readings (λ reading. IsTimely (reading 0) old.view steps.point)
    timely None is = tt
    timely (Some reading) is = subst (λ n. IsTimely n old.view steps.point) is steps.timely

-- an operation that has more to do isn't done
pub not-done : (done : Bool) → ((More ≡ Done) ↔ (done ≡ true)) → done ≡ false
not-done false is = refl
not-done true is = absurd (let both : More ≡ Done = is.1 refl in cc both)
