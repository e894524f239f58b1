-- How a route or a refusal follows from texts that stand for values, or don't.
use Rattle.std.specs.Prelude.{◌≡◌, ◌≢◌, ◌⊎◌, ℕ, List, Result, Ok, Err}
use Rattle.hb_routes.specs.Values.{IsOutside}
use Rattle.hb_routes.specs.declared.routes.Route.{Route}
use Rattle.hb_routes.specs.declared.faults.RouteFault.{RouteFault}
use Rattle.hb_routes.specs.declared.faults.RouteFault.TheVariants.{Memory}

-- a fact about an answer
abbrev pub Answers : Type 1
Answers = Result Route RouteFault → Type 0

-- the answer is this one
abbrev pub Is : Result Route RouteFault → Answers
Is answer r = r ≡ answer

module _ {T : Type 0} where
  -- the text stands for a value, and the rest is true with it; or it stands for none, and is refused
  abbrev pub With : (List ℕ → T → Type 0) → RouteFault → List ℕ → (T → Answers) → Answers
  With StandsFor fault text Rest r =
      ((value : T) × StandsFor text value × Rest value r) ⊎ (IsOutside StandsFor text × (r ≡ Err fault))

  -- the rest is true with the value of which this is true
  abbrev pub For : (T → Type 0) → (T → Answers) → Answers
  For Holds Rest r = (value : T) × Holds value × Rest value r

-- the same of what the code answers, where want of memory is free
abbrev pub Gives : Answers → Result Route RouteFault → Type 0
Gives Holds (Ok route) = Holds (Ok route)
Gives Holds (Err fault) = fault ≢ Memory → Holds (Err fault)
