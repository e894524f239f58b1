-- The events of one caller, one after another: what it saw before each and behind it, and what its clock read for it. Between
-- two of them others may have acted.
use Rattle.std.specs.Prelude.{◌≡◌, ◌≤◌, ◌^◌, ℕ, suc, List, [], ◌∷◌, length, Option, Err, IfSome, IsSomeAnd}
use Rattle.std.specs.List.{AllByRecursion}
use Rattle.hb_records.specs.Entries.{AuditEntry}
use Rattle.hb_desk.specs.Events.{Event, entry_of, happens}
use Rattle.hb_desk.specs.Points.{IsFrom, Point}
use Rattle.hb_desk.specs.Prefix.{GoesOn}
use Rattle.hb_desk.specs.Reply.{reply}
use Rattle.hb_desk.specs.State.{State}
use Rattle.hb_desk.specs.ClockedDesks.{HappensBetween, ClockedDesk}
use Rattle.hb_desk.specs.declared.refusals.Refusal.{Refusal}
use Rattle.hb_desk.specs.declared.refusals.Refusal.TheVariants.{Spent}

-- the points, the newest first, lead from one to the other
abbrev pub Chain : ClockedDesk → List Point → ClockedDesk → Type 0
Chain start [] now = start ≡ now
Chain start (p ∷ points) now = (mid : ClockedDesk) × Chain start points mid × HappensBetween p mid now

-- the events of an operation, and what it became by them
pub record Driven (Streams : Option Refusal → Type 0) (start now : ClockedDesk) (Went : List Point → Type 0) : Type 0 where
  pub points : List Point
  pub chain : Chain start points now
  pub streams : AllByRecursion (λ p. Streams p.fault) points
  pub went : Went points

-- refused as spent only where so many entries fill the audit, and by the reply where it is told
abbrev pub IsSpentByReply : ℕ → Point → Type 0
IsSpentByReply entries p = p.event.outcome ≡ Err Spent → (2 ^ 62 ≤ entries) × IfSome p.state (λ s. (reply p.event.call s p.event.moment).outcome ≡ Err Spent)

-- What stands behind an event at the end: what happened there, and its entry among the caller's own.
pub record Stands (audit : List AuditEntry) (mine : ℕ → Type 0) (ev : Event) (at : State) : Type 0 where
  pub seen : GoesOn at.audit audit
  pub own : IfSome (entry_of ev at) (λ kind. GoesOn (happens ev at).audit audit × mine (suc (length at.audit)))

-- its point tells where it stood, and it stands behind that
abbrev pub StandsBehind : List AuditEntry → (ℕ → Type 0) → Point → Type 0
StandsBehind audit mine p = IsSomeAnd p.state (Stands audit mine p.event)

-- the events of these points, the newest first, stood at these readings or later, in their order
abbrev pub AreTimely : (ℕ → ℕ) → List Point → Type 0
AreTimely reading [] = Unit {0}
AreTimely reading (p ∷ points) = IsFrom (reading (length points)) p × AreTimely reading points
