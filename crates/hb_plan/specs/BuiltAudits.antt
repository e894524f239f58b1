-- Audits with entries of the kinds alone that are built: nothing is taken from the store, and no project has
-- rules.
use Rattle.std.specs.Prelude.{◌≡◌, List, IsTrue}
use Rattle.std.specs.List.{AllByRecursion}
use Rattle.hb_records.specs.Entries.{AuditEntry}
use Rattle.hb_records.specs.declared.notes.Notes.{Notes}
use Rattle.hb_model.specs.Built.{is_built}

abbrev pub AllBuilt : List AuditEntry → Type 0
AllBuilt j = AllByRecursion (λ e. IsTrue (is_built e.kind)) j

-- nothing took or collected what was placed
abbrev pub NoneGone : Notes → Type 0
NoneGone n = AllByRecursion (λ x. x.gone ≡ 0) n.placements
