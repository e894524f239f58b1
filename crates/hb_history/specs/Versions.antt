-- Rows and their versions, as an audit goes on.
use Rattle.std.specs.Prelude.{◌≡◌, ℕ, List, ◌++◌, Option, Some}
use Rattle.hb_records.specs.Entries.{AuditEntry}
use Rattle.hb_records.specs.Orders.{NamedDigest, NamedTag}
use Rattle.hb_records.specs.declared.jobs.JobRow.{JobRow}
use Rattle.hb_records.specs.declared.records.Artifact.{Artifact}
use Rattle.hb_records.specs.declared.records.Blob.{Blob}
use Rattle.hb_records.specs.declared.records.Project.{Project}
use Rattle.hb_records.specs.declared.records.TagRow.{TagRow}
use Rattle.hb_records.specs.declared.records.Upload.{Upload}
use Rattle.hb_rows.specs.Tables.{Tables, project_at, blob_at, artifact_at, tag_at, upload_at, job_at}
use Rattle.hb_model.specs.Effects.{rows_of}
use Rattle.hb_model.specs.History.{History}

-- What is found by a key after an audit, and again when the audit has gone on, is the same row where it has
-- the same version, whatever came between: so who remembers a version knows the row.
abbrev pub NeverComesBack : {Row K : Type 0} → (Row → ℕ) → (Tables → K → Option Row) → Type 0
NeverComesBack {Row} {K} version at = (newer j : List AuditEntry) → History (newer ++ j) → (key : K) (a b : Row) → at (rows_of j) key ≡ Some a → at (rows_of (newer ++ j)) key ≡ Some b → version a ≡ version b → a ≡ b

-- It is so in the six tables in which each change of a row moves its version. A pair has no version; that of a
-- candidate or of a tag in a snapshot stays while the verdict moves.
pub record VersionsNeverComeBack : Type 0 where
  pub projects : NeverComesBack (λ (row : Project). row.version) project_at
  pub blobs : NeverComesBack (λ (row : Blob). row.version) blob_at
  pub artifacts : NeverComesBack (λ (row : Artifact). row.version) (λ t (key : NamedDigest). artifact_at t key.0 key.1)
  pub tags : NeverComesBack (λ (row : TagRow). row.version) (λ t (key : NamedTag). tag_at t key.0 key.1)
  pub uploads : NeverComesBack (λ (row : Upload). row.version) upload_at
  pub jobs : NeverComesBack (λ (row : JobRow). row.version) job_at
