-- The points of an operation's events: where each stood, and what it was. The newest stands first.
use Rattle.std.specs.Prelude.{◌≡◌, ◌≤◌, ◌⊎◌, ◌^◌, ℕ, min, max, true, false, List, ◌∷◌, Option, Some, None, Err, IfSome}
use Rattle.hb_outside.specs.Causes.{Rose}
use Rattle.hb_store.specs.Causes.{SomeRose}
use Rattle.hb_desk.specs.Calls.{Call, Outcome}
use Rattle.hb_records.specs.Entries.{LAST_MOMENT}
use Rattle.hb_desk.specs.Clause.{View, EventFrom, may_be_unmade, with_event}
use Rattle.hb_desk.specs.Events.{Event, after}
use Rattle.hb_desk.specs.State.{State}
use Rattle.hb_desk.specs.declared.refusals.Refusal.{Refusal}
use Rattle.hb_desk.specs.declared.refusals.Refusal.TheVariants.{Memory, Keeper, Storage, Spent}

pub record Point : Type 0 where
  -- what the event stood at, where the desk tells what was seen
  pub state : Option State
  pub event : Event
  -- the two counts of faults, before and after it
  pub keeper_before : ℕ
  pub keeper_after : ℕ
  pub store_before : ℕ
  pub store_after : ℕ
  -- the refusal of a call on the stage or the reader that it gave
  pub fault : Option Refusal

-- what the operation goes by: that refusal, and else what the event answered
abbrev pub outcome_of : Outcome → Option Refusal → Outcome
outcome_of outcome None = outcome
outcome_of outcome (Some refusal) = Err refusal

abbrev pub outcome_at : Point → Outcome
outcome_at p = outcome_of p.event.outcome p.fault

-- a device's fault is answered only where its count rose at this point
pub record IsCaused (p : Point) : Type 0 where
  pub keeper : p.event.outcome ≡ Err Keeper → Rose p.keeper_before p.keeper_after
  pub storage : p.event.outcome ≡ Err Storage → Rose p.store_before p.store_after

-- the point of an event between two views of a desk
abbrev pub point_of : View → View → Option State → Call → Outcome → Option Refusal → Point
point_of old new state call outcome fault = record {
  state = state;
  event = record { call = call; moment = new.moment; outcome = outcome };
  keeper_before = old.keeper_faults;
  keeper_after = new.keeper_faults;
  store_before = old.store_faults;
  store_after = new.store_faults;
  fault = fault;
}

-- the numbers of a desk over an event, whatever it was, and the seat, which stays spent
pub record Moves (old new : View) : Type 0 where
  pub keeper_later : old.keeper_faults ≤ new.keeper_faults
  pub store_later : old.store_faults ≤ new.store_faults
  pub entries : old.entries ≤ new.entries
  pub rises : old.moment ≤ new.moment
  pub seat : old.spent ≡ true → new.spent ≡ true
  pub sole : new.sole ≡ old.sole
  pub told_bytes : new.told_bytes ≡ old.told_bytes

-- where the event stood, if the desk tells what was seen: behind what others did before it
abbrev pub StoodAt : Option State → View → View → Call → Outcome → Option State → Type 0
StoodAt None old new call outcome at = at ≡ None
StoodAt (Some before) old new call outcome at = (event : EventFrom before old new call outcome) × (at ≡ Some (after event.others before))

-- The point is that of an event between these two views of a desk. A desk that doesn't tell what was seen tells at least
-- the causes of KEEPER, STORAGE and SPENT; one that tells its caller's events tells this one as the newest.
pub record IsBetween (p : Point) (old new : View) : Type 0 where
  pub is : p ≡ point_of old new p.state p.event.call p.event.outcome p.fault
  pub stood : StoodAt old.state old new p.event.call p.event.outcome p.state
  pub told : new.events ≡ with_event p.event old.events
  pub caused : IsCaused p
  pub spent : p.event.outcome ≡ Err Spent → (new.spent ≡ true) ⊎ (2 ^ 62 ≤ new.entries)
  pub moves : Moves old new

-- What a call on a stage or a reader is refused for: want of memory, or the storage's fault, where the count of faults of
-- such a one rose.
abbrev pub IsStreamFault : (Stage Reader : Type 0) → (Stage → ℕ) → (Reader → ℕ) → Option Refusal → Type 0
IsStreamFault Stage Reader stage_faults reader_faults fault =
    IfSome fault (λ refusal. (refusal ≡ Memory) ⊎ ((refusal ≡ Storage) × (SomeRose Stage stage_faults ⊎ SomeRose Reader reader_faults)))

-- the event stood at this moment or later, cut at the last that can be printed; unless it wasn't made
abbrev pub IsFrom : ℕ → Point → Type 0
IsFrom now p = may_be_unmade true p.event.call p.event.outcome ≡ false → min now LAST_MOMENT ≤ p.event.moment

-- It stood at the moment that it was handed or later; where nobody else acts, no later than that or the last event's.
pub record IsTimely (now : ℕ) (old : View) (p : Point) : Type 0 where
  pub from : IsFrom now p
  pub to : old.sole ≡ true → p.event.moment ≤ max old.moment (min now LAST_MOMENT)

-- One event of a desk, handed this moment, whose point joins those of an operation. Streams says of a call on the stage or the
-- reader that it gave what that may be refused for.
pub record Steps {O : Type 0} (Streams : Option Refusal → Type 0) (now : ℕ) (old new : View) (went went' : O → List Point → Type 0) : Type 0 where
  pub point : Point
  pub between : IsBetween point old new
  pub timely : IsTimely now old point
  pub stream : Streams point.fault
  pub goes : (begun : O) (points : List Point) → went begun points → went' begun (point ∷ points)
