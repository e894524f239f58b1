-- How much a project's row can say that it uses.
use Rattle.std.specs.Prelude.{ℕ, ◌≤◌, List, sum_by, Option, Some, None}
use Rattle.hb_records.specs.Entries.{AuditEntry}
use Rattle.hb_records.specs.declared.entries.EntryKind.{EntryKind}
use Rattle.hb_records.specs.declared.entries.EntryKind.TheVariants.{Associated, ArtifactPut}
use Rattle.hb_records.specs.declared.records.Project.{Project}
use Rattle.hb_rows.specs.Tables.{project_at}
use Rattle.hb_model.specs.Effects.{rows_of}

-- a project that isn't there uses nothing
abbrev pub used_in : Option Project → ℕ
used_in None = 0
used_in (Some row) = row.used

-- the most that an entry adds to what a project uses
abbrev pub added_by : EntryKind → ℕ
added_by (Associated project digest size) = size
added_by (ArtifactPut name digest size media refs children tag) = size
added_by _ = 0

-- In the rows of the audit no project uses more than all sizes in its entries come to.
abbrev pub UsedIsBounded : List AuditEntry → Type 0
UsedIsBounded j = (project : List ℕ) → used_in (project_at (rows_of j) project) ≤ sum_by (λ e. added_by e.kind) j
