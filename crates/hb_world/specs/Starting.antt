-- What a world starts on, what it makes of it, and what stands where it doesn't start.
use Rattle.std.specs.Prelude.{◌≡◌, ◌≤◌, ℕ, List, [], ◌∷◌, Some, None, IfSome, max, min, negsuc, ◌⊎◌}
use Rattle.std.specs.declared.option.Option.{Option}
use Rattle.hb_outside.specs.Causes.{Rose}
use Rattle.hb_records.specs.Entries.{AuditEntry, LAST_MOMENT}
use Rattle.hb_records.specs.declared.entries.EntryKind.TheVariants.{ProjectMade}
use Rattle.hb_rows.specs.Tables.{Tables}
use Rattle.hb_store.specs.Contents.{Contents}
use Rattle.hb_model.specs.Effects.{after_entry}
use Rattle.hb_model.specs.Fit.{Tells}
use Rattle.hb_model.specs.History.{Stands, latest}
use Rattle.hb_model.specs.LegalProjects.{library}
use Rattle.hb_model.specs.Whole.{IsWhole, no_notes}
use Rattle.hb_model.specs.declared.misfits.Misfit.{Misfit}
use Rattle.hb_world.specs.Worlds.{IsTrueStore}
use Rattle.hb_world.specs.declared.world.StartFault.{StartFault}
use Rattle.hb_world.specs.declared.world.StartFault.TheVariants as variant

-- devices at rest: rows that are told stand, each content that is told has its digest, and where both are told they are
-- whole, with nothing remembered
abbrev pub IsAtRest : Option Tables → Option Contents → Type 0
IsAtRest (Some t) (Some c) = IsWhole t no_notes c (latest t.audit)
IsAtRest (Some t) None = Stands t
IsAtRest None (Some c) = IsTrueStore c
IsAtRest None None = Unit {0}

-- rows that are told and don't fit
abbrev pub IsMisfit : Option Tables → Type 0
IsMisfit None = ⊥
IsMisfit (Some t) = (m : Misfit) × Tells t (Some m)

-- what a world can start on
abbrev pub CanStart : Option Tables → Option Contents → Type 0
CanStart rows contents = IsMisfit rows ⊎ IsAtRest rows contents

-- the entry that a new registry begins with
abbrev pub first_entry : ℕ → AuditEntry
first_entry moment = record { number = 1; moment = moment; kind = ProjectMade library (negsuc 0) }

-- rows without an audit get it, others stay as they are
abbrev pub opened_by : List AuditEntry → ℕ → Tables → Tables
opened_by [] moment t = after_entry t (first_entry moment)
opened_by (e ∷ j) moment t = t

-- the greatest moment so far, and never past the last that can be printed
abbrev pub start_moment : Tables → ℕ → ℕ
start_moment t now = max (min now LAST_MOMENT) (latest t.audit)

-- a start on rows that are told: they fit
abbrev pub Started : Option Tables → ℕ → Option Tables → ℕ → Type 0
Started None now rows moment = rows ≡ None
Started (Some t) now rows moment = Tells t None × (rows ≡ Some (opened_by t.audit (start_moment t now) t)) × (moment ≡ start_moment t now)

-- why a start was refused, and what stands after it: the rows as they were
pub record Refused (before : Option Tables) (faults : ℕ) (fault : StartFault) (after : Option Tables) (faults' : ℕ) : Type 0 where
  pub same : after ≡ before
  pub later : faults ≤ faults'
  pub misfit : (m : Misfit) → fault ≡ variant.Misfit m → IfSome before (λ t. Tells t (Some m))
  pub failed : fault ≡ variant.Failed → Rose faults faults'
