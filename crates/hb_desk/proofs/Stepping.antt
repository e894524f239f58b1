-- An event of a desk as a step of an operation.
use Rattle.std.proofs.Common.{◌≡◌, ◌&&◌, ◌||◌, ℕ, Bool, true, false, not, List, [], ◌∷◌, Option, Some, None, Result, IfSome, is_some, refl, ap, ◌∙◌}
use Rattle.hb_desk.specs.AskedPoints.{Went}
use Rattle.hb_desk.specs.Calls.{Asked, Call, Outcome, Tells, plain}
use Rattle.hb_desk.specs.Clause.{Causes, EventFrom, EventOf, View, gives_up_stage, is_memory, is_spent}
use Rattle.hb_desk.specs.Events.{after}
use Rattle.hb_desk.specs.Points.{IsBetween, IsTimely, Point, Steps, StoodAt, outcome_at, point_of}
use Rattle.hb_desk.specs.State.{State}
use Rattle.hb_desk.specs.declared.asks.Ask.{Ask}
use Rattle.hb_desk.specs.declared.told.Told.{Told}
use Rattle.hb_desk.specs.declared.refusals.Refusal.{Refusal}

-- ---- the point of an event
pub stood-at : (state : Option State) (old new : View) (call : Call) (outcome : Outcome) → IfSome state (λ s. EventFrom s old new call outcome) → (at : Option State) × StoodAt state old new call outcome at
stood-at None old new call outcome event = (None, refl)
stood-at (Some before) old new call outcome event = (Some (after event.others before), (event, refl))

pub between-by : (old new : View) (now : ℕ) (at : Option State) (call : Call) (outcome : Outcome) (fault : Option Refusal) → StoodAt old.state old new call outcome at → Causes old new now call outcome → IsBetween (point_of old new at call outcome fault) old new
between-by old new now at call outcome fault stood causes = record {
  is = refl;
  stood = stood;
  told = causes.told;
  caused = record { keeper = causes.keeper; storage = causes.storage };
  spent = causes.spent;
  moves = record { keeper_later = causes.keeper_later; store_later = causes.store_later; entries = causes.entries; rises = causes.rises; seat = causes.seat; sole = causes.sole; told_bytes = causes.told_bytes };
}

-- what was made of any seat was made of this one
made-of : (memory spent seat : Bool) → (memory || (spent && true)) ≡ false → (memory || (spent && seat)) ≡ false
made-of true spent seat made = made
made-of false false seat made = refl
made-of false true seat made = cc made

pub timely-by : (old new : View) (now : ℕ) (at : Option State) (call : Call) (outcome : Outcome) (fault : Option Refusal) → Causes old new now call outcome → IsTimely now old (point_of old new at call outcome fault)
timely-by old new now at call outcome fault causes = record {
  from = λ made. causes.moment (made-of (is_memory outcome && not (gives_up_stage call)) (is_spent outcome) new.spent made);
  to = causes.clock;
}

-- the operation goes on by it, wherever it stood
pub one-step : {O : Type 0} (Streams : Option Refusal → Type 0) (old new : View) (now : ℕ) (call : Call) (outcome : Outcome) (fault : Option Refusal) (went went' : O → List Point → Type 0) → EventOf old new call outcome → Causes old new now call outcome → Streams fault → ((at : Option State) (begun : O) (points : List Point) → went begun points → went' begun (point_of old new at call outcome fault ∷ points)) → Steps Streams now old new went went'
one-step Streams old new now call outcome fault went went' event causes stream goes =
    let stood = stood-at old.state old new call outcome event in
    record { point = point_of old new stood.0 call outcome fault; between = between-by old new now stood.0 call outcome fault stood.1 causes; timely = timely-by old new now stood.0 call outcome fault causes; stream = stream; goes = goes stood.0 }

-- ---- an operation that makes one ask
pub asked-once : (begun ask : Ask) (answer : Option (Result Told Refusal)) (result : Result Told Refusal) (points : List Point) (p : Point) → is_some answer ≡ false → p.event.call ≡ Asked ask → outcome_at p ≡ plain Tells result → Went begun ask answer points → Went begun ask (Some result) (p ∷ points)
asked-once begun ask None result [] p new call outcome h = (call ∙ ap Asked h, outcome, refl)
asked-once begun ask None result (q ∷ points) p new call outcome h = absurd h
asked-once begun ask (Some x) result points p new call outcome h = cc new
