-- A run of the program: what its words ask for, what a talk makes of its devices, and the exit status.
use Rattle.std.specs.Prelude.{◌≡◌, ◌≤◌, ◌⊎◌, ℕ, List, [], ◌∷◌, codes, Option, Some, None, IfSome, is_some, true, false}
use Rattle.hb_outside.specs.Causes.{Rose}
use Rattle.hb_outside.specs.Streams.{Writes, WritesPart}
use Rattle.hb_records.specs.declared.notes.Notes.{Notes}
use Rattle.hb_rows.specs.Tables.{Tables}
use Rattle.hb_store.specs.Contents.{Contents}
use Rattle.hb_model.specs.Fit.{Tells}
use Rattle.hb_model.specs.History.{latest}
use Rattle.hb_model.specs.Whole.{no_notes}
use Rattle.hb_desk.specs.Clause.{View}
use Rattle.hb_desk.specs.Keeping.{state_of}
use Rattle.hb_desk.specs.declared.refusals.Refusal.{Refusal}
use Rattle.hb_world.specs.Starting.{opened_by, start_moment}
use Rattle.hb_world.specs.declared.world.StartFault.{StartFault}
use Rattle.hb_world.specs.declared.world.StartFault.TheVariants as start
use Rattle.hb_talk.specs.Talks.{Moment, Talked}
use Rattle.hb_talk.specs.declared.ends.TalkEnd.{TalkEnd}
use Rattle.hb_talk.specs.declared.ends.TalkEnd.TheVariants.{Closed, Cut, Bad, Long, ReadFault, WriteFault, Memory}

-- the single word `talk`
abbrev pub IsTalk : List (List ℕ) → Type 0
IsTalk words = words ≡ codes "talk" ∷ []

-- the exit status of each end of a talk
abbrev pub status_of : TalkEnd → ℕ
status_of Closed = 0
status_of Cut = 11
status_of Bad = 11
status_of Long = 10
status_of ReadFault = 3
status_of WriteFault = 4
status_of Memory = 7

-- the exit status of each fault of a start
abbrev pub status_of_fault : StartFault → ℕ
status_of_fault (start.Misfit m) = 8
status_of_fault start.Failed = 5
status_of_fault start.Memory = 7

-- a start was refused: by the rows, by their keeper, or for want of memory
abbrev pub IsRefused : ℕ → Type 0
IsRefused status = (status ≡ 5) ⊎ (status ≡ 7) ⊎ (status ≡ 8)

-- nothing was read or written, and the devices have what they had
pub record NotStarted (status : ℕ) (Unread Unwritten SameStore SameRows : Type 0) : Type 0 where
  pub refused : IsRefused status
  pub input : Unread
  pub out : Unwritten
  pub store : SameStore
  pub rows : SameRows

-- what the keeper and the store tell
pub record Devices : Type 0 where
  pub rows : Option Tables
  pub contents : Option Contents
  pub keeper_faults : ℕ
  pub store_faults : ℕ

abbrev pub devices : Option Tables → Option Contents → ℕ → ℕ → Devices
devices rows contents keeper_faults store_faults = record { rows = rows; contents = contents; keeper_faults = keeper_faults; store_faults = store_faults }

-- The rows fit, and got a first entry where they had none, at the clock's first reading, or at their latest moment where that
-- is later. Nothing is remembered of uploads.
pub record OpenedOn (readings : Option (ℕ → ℕ)) (t : Tables) (v : View) : Type 0 where
  pub fits : Tells t None
  pub moment : ℕ
  pub at : IfSome readings (λ reading. moment ≡ start_moment t (reading 0))
  pub later : latest t.audit ≤ moment
  pub state : v.state ≡ Some (state_of (opened_by t.audit moment t) no_notes)

-- A desk that opened on these devices: nobody else acts on it, and what was stored is told where the store tells it.
pub record Opened (readings : Option (ℕ → ℕ)) (before : Devices) (v : View) : Type 0 where
  pub rows : IfSome before.rows (λ t. OpenedOn readings t v)
  pub keeper : before.keeper_faults ≤ v.keeper_faults
  pub store : v.store_faults ≡ before.store_faults
  pub told_bytes : v.told_bytes ≡ is_some before.contents
  pub sole : v.sole ≡ true

-- The devices that a desk leaves: their rows are those of the audit that it has seen.
pub record Left (after : Devices) (v : View) : Type 0 where
  pub rows : IfSome after.rows (λ r. (n : Notes) × (v.state ≡ Some (state_of r n)))
  pub keeper : after.keeper_faults ≡ v.keeper_faults
  pub store : after.store_faults ≡ v.store_faults
  -- so no event was refused as spent where the audit had room
  pub seat : v.spent ≡ false

-- A talk ran at a desk that opened on the devices and left them, and its end gives the status.
pub record RanTalk (Streams : Option Refusal → Type 0) (readings : Option (ℕ → ℕ)) (start now : View → Moment) (before after : Devices) (status : ℕ) : Type 0 where
  pub end : TalkEnd
  pub status_is : status ≡ status_of end
  pub opened : View
  pub closed : View
  pub talked : Talked Streams (start opened) (now closed) end
  pub opens : Opened readings before opened
  pub leaves : Left after closed

-- `usage` and a line feed were written, or a part of them where the sink failed
abbrev pub SaysUsage : Option (List ℕ) → Option (List ℕ) → ℕ → ℕ → Type 0
SaysUsage held now before after = Writes held now (codes "usage\n") ⊎ (Rose before after × WritesPart held now (codes "usage\n"))
