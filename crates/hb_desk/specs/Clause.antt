-- The clause of every event of a desk: what contracts see of a desk, and what one event makes of it.
use Rattle.std.specs.Prelude.{◌≡◌, ◌≤◌, ◌<◌, ◌⊎◌, ◌^◌, ℕ, suc, min, max, Bool, true, false, not, ◌&&◌, ◌||◌, List, [], ◌∷◌, length, Option, Some, is_some, nat_eq, option_map, IfSome, Result, Ok, Err}
use Rattle.hb_outside.specs.Causes.{Rose}
use Rattle.hb_records.specs.Entries.{LAST_MOMENT}
use Rattle.hb_records.specs.declared.notes.Sealed.{Sealed}
use Rattle.hb_model.specs.History.{History, latest}
use Rattle.hb_desk.specs.Calls.{Call, Asked, StagePlaced, StageDropped, Outcome}
use Rattle.hb_desk.specs.Events.{Event, entry_of, happens, after}
use Rattle.hb_desk.specs.Notes.{sealed_at}
use Rattle.hb_desk.specs.Reply.{reply}
use Rattle.hb_desk.specs.State.{State}
use Rattle.hb_desk.specs.declared.asks.Ask.{Ask}
use Rattle.hb_desk.specs.declared.asks.Ask.TheVariants.{Seal, SealManifest}
use Rattle.hb_desk.specs.declared.refusals.Refusal.{Refusal}
use Rattle.hb_desk.specs.declared.refusals.Refusal.TheVariants.{Memory, Keeper, Storage, Spent}

-- What contracts see of a desk.
pub record View : Type 0 where
  -- the audit that the caller has seen and the notes, where the desk tells them
  pub state : Option State
  -- the caller's own events, the newest first, where the desk tells them
  pub events : Option (List Event)
  -- how many entries the caller has seen, told or not
  pub entries : ℕ
  -- the moment of the caller's last event
  pub moment : ℕ
  -- the numbers of the caller's own entries
  pub mine : ℕ → Bool
  -- the last of them, or 0
  pub last : ℕ
  -- what the caller sealed and hasn't placed
  pub sealed : List Sealed
  pub keeper_faults : ℕ
  pub store_faults : ℕ
  -- what is stored is told
  pub told_bytes : Bool
  -- nobody else acts on what the desk holds
  pub sole : Bool
  -- the caller's seat has drawn its last ticket
  pub spent : Bool

-- Want of memory, or a device's fault; that of an audit which is full is a reply, and that of a seat is none.
abbrev pub is_fault : Bool → Outcome → Bool
is_fault seat (Err Memory) = true
is_fault seat (Err Keeper) = true
is_fault seat (Err Storage) = true
is_fault seat (Err Spent) = seat
is_fault seat outcome = false

abbrev pub is_memory : Outcome → Bool
is_memory (Err Memory) = true
is_memory outcome = false

abbrev pub is_spent : Outcome → Bool
is_spent (Err Spent) = true
is_spent outcome = false

-- the call gives up a stage, whatever it is answered
abbrev pub gives_up_stage : Call → Bool
gives_up_stage (StagePlaced upload d) = true
gives_up_stage (StageDropped upload handed) = handed
gives_up_stage call = false

-- The event wasn't made, or it can't be told whether it was: memory was wanting before it, where it gives up no stage, or its
-- seat is spent.
abbrev pub may_be_unmade : Bool → Call → Outcome → Bool
may_be_unmade seat call outcome = (is_memory outcome && not (gives_up_stage call)) || (is_spent outcome && seat)

-- the outcome is the reply, or a fault
abbrev pub Fits : Bool → Event → State → Type 0
Fits seat ev s = is_fault seat ev.outcome ≡ false → ev.outcome ≡ (reply ev.call s ev.moment).outcome

-- each of these events was answered by the reply or by a fault, at a moment that doesn't fall
pub record FitsAt (ev : Event) (s : State) : Type 0 where
  pub answered : Fits false ev s
  pub later : latest s.audit ≤ ev.moment

abbrev pub AllFit : List Event → State → Type 0
AllFit [] s = Unit {0}
AllFit (ev ∷ events) s = FitsAt ev (after events s) × AllFit events s

-- What holds of every state that a desk tells.
pub record Known (v : View) (s : State) : Type 0 where
  pub history : History s.audit
  pub later : latest s.audit ≤ v.moment
  pub count : v.entries ≡ length s.audit

-- the call may change what is sealed of this upload: an Ok seals it, and a placing ends that
abbrev pub moves_seal : ℕ → Call → Outcome → Bool
moves_seal u (Asked (Seal upload d size)) (Ok gave) = nat_eq u upload
moves_seal u (Asked (SealManifest upload put)) (Ok gave) = nat_eq u upload
moves_seal u (StagePlaced upload d) outcome = nat_eq u upload
moves_seal u call outcome = false

-- with this event as the newest, where events are told
abbrev pub with_event : Event → Option (List Event) → Option (List Event)
with_event ev events = option_map (λ older. ev ∷ older) events

-- Its numbers and causes, which hold of every desk.
pub record Causes (old new : View) (now : ℕ) (call : Call) (outcome : Outcome) : Type 0 where
  pub keeper_later : old.keeper_faults ≤ new.keeper_faults
  pub store_later : old.store_faults ≤ new.store_faults
  pub keeper : outcome ≡ Err Keeper → Rose old.keeper_faults new.keeper_faults
  pub storage : outcome ≡ Err Storage → Rose old.store_faults new.store_faults
  pub spent : outcome ≡ Err Spent → (new.spent ≡ true) ⊎ (2 ^ 62 ≤ new.entries)
  pub seat : old.spent ≡ true → new.spent ≡ true
  pub entries : old.entries ≤ new.entries
  pub room : new.entries ≤ 2 ^ 62
  pub rises : old.moment ≤ new.moment
  pub sealed : (u : ℕ) (x : Sealed) → moves_seal u call outcome ≡ false → sealed_at u old.sealed ≡ Some x → sealed_at u new.sealed ≡ Some x
  pub moment : may_be_unmade new.spent call outcome ≡ false → min now LAST_MOMENT ≤ new.moment
  -- where nobody else acts, the moment is no later than the one that was handed, or the last event's
  pub clock : old.sole ≡ true → new.moment ≤ max old.moment (min now LAST_MOMENT)
  pub told : new.events ≡ with_event (record { call = call; moment = new.moment; outcome = outcome }) old.events
  pub sole : new.sole ≡ old.sole
  pub told_bytes : new.told_bytes ≡ old.told_bytes

-- The numbers of the caller's own entries after an event at an audit of n entries.
pub record MineGrows (old new : View) (n : ℕ) (committed : Bool) : Type 0 where
  pub kept : (k : ℕ) → old.mine k ≡ true → new.mine k ≡ true
  pub own : committed ≡ true → (new.mine (suc n) ≡ true) × (new.last ≡ suc n)
  pub only : (k : ℕ) → 0 < k → k ≤ n → new.mine k ≡ true → old.mine k ≡ true
  pub none : committed ≡ false → new.last ≡ old.last

-- the event was made; or, at an outcome that allows it, it wasn't
abbrev pub Leaves : View → Event → State → Type 0
Leaves new ev s = (new.state ≡ Some (happens ev s)) ⊎ ((may_be_unmade new.spent ev.call ev.outcome ≡ true) × (new.state ≡ Some s))

-- One event, at a state that others' events made of the state before it.
pub record EventFrom (before : State) (old new : View) (call : Call) (outcome : Outcome) : Type 0 where
  pub others : List Event
  pub fits : AllFit others before
  pub alone : old.sole ≡ true → others ≡ []
  pub history : History (after others before).audit
  pub later : latest (after others before).audit ≤ new.moment
  pub answered : Fits new.spent (record { call = call; moment = new.moment; outcome = outcome }) (after others before)
  pub mine : MineGrows old new (length (after others before).audit) (is_some (entry_of (record { call = call; moment = new.moment; outcome = outcome }) (after others before)))
  pub count : old.entries ≤ length (after others before).audit
  pub leaves : Leaves new (record { call = call; moment = new.moment; outcome = outcome }) (after others before)

abbrev pub EventOf : View → View → Call → Outcome → Type 0
EventOf old new call outcome = IfSome old.state (λ before. EventFrom before old new call outcome)

-- after a seal that is Ok the upload is among the caller's sealed ones
abbrev pub Seals : {T : Type 0} → Ask → Result T Refusal → List Sealed → Type 0
Seals (Seal upload d size) (Ok x) sealed = sealed_at upload sealed ≡ Some (record { upload = upload; digest = d; size = size })
Seals (SealManifest upload put) (Ok x) sealed = sealed_at upload sealed ≡ Some (record { upload = upload; digest = put.digest; size = put.size })
Seals ask result sealed = Unit {0}

-- What others may do to a desk between two events of a caller that has sealed `own`, and not placed it yet.
pub record Between (own : List Sealed) (old new : View) : Type 0 where
  pub events : IfSome old.state (λ s. (es : List Event) × AllFit es s × (new.state ≡ Some (after es s)))
  pub keeper_later : old.keeper_faults ≤ new.keeper_faults
  pub store_later : old.store_faults ≤ new.store_faults
  pub entries : old.entries ≤ new.entries
  pub room : new.entries ≤ 2 ^ 62
  pub moment : old.moment ≤ new.moment
  pub sole : new.sole ≡ old.sole
  pub told_bytes : new.told_bytes ≡ old.told_bytes
  pub spent : new.spent ≡ old.spent
  pub sealed : (u : ℕ) (x : Sealed) → sealed_at u own ≡ Some x → sealed_at u old.sealed ≡ Some x → sealed_at u new.sealed ≡ Some x
