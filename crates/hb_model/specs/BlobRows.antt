-- The row of one digest: what each entry does to it, and what its bar tells.
use Rattle.std.specs.Prelude.{◌≡◌, ℕ, nat_eq, Bool, not, if◌then◌else◌, List, Option, Some, None, option_map}
use Rattle.hb_text.specs.declared.digests.Digest.{Digest}
use Rattle.hb_records.specs.Entries.{AuditEntry}
use Rattle.hb_records.specs.declared.entries.EntryKind.{EntryKind}
use Rattle.hb_records.specs.declared.entries.EntryKind.TheVariants.{Associated, Touched, ArtifactPut, GcMarked, Taking, Collected, GcSkipped, Adopted}
use Rattle.hb_records.specs.declared.records.Blob.{Blob}
use Rattle.hb_rows.specs.Tables.{blob_at}
use Rattle.hb_model.specs.ArtifactEffects.{other_refs}
use Rattle.hb_model.specs.BlobEffects.{failed_blob, idle_row, taken_blob, touched_blob}
use Rattle.hb_model.specs.CollectEffects.{is_failure, marked_blob}
use Rattle.hb_model.specs.Effects.{rows_of}
use Rattle.hb_model.specs.Moves.{stores, takes_digest}
use Rattle.hb_model.specs.Words.{among, has_kind, same_digest, since_kind}

-- the row with this change, where the test says so
abbrev pub changed_if : Bool → (Blob → Blob) → Option Blob → Option Blob
changed_if b change x = if b then option_map change x else x

-- the row of the digest d after an entry of this number and moment, from its row before
abbrev pub row_after : Digest → ℕ → ℕ → EntryKind → Option Blob → Option Blob
row_after d n moment (Associated project digest size) x = if same_digest d digest then Some (idle_row n moment digest size) else x
row_after d n moment (Touched project digest) x = changed_if (same_digest d digest) (touched_blob n moment) x
row_after d n moment (ArtifactPut name digest size media refs children tag) x = changed_if (among d (other_refs digest refs)) (touched_blob n moment) (if same_digest d digest then Some (idle_row n moment digest size) else x)
row_after d n moment (GcMarked job digests barred upto last) x = changed_if (among d digests) (marked_blob n) x
row_after d n moment (Taking job digest) x = changed_if (same_digest d digest) (taken_blob n moment) x
row_after d n moment (Collected job digest) x = if same_digest d digest then None else x
row_after d n moment (GcSkipped job digest why) x = if is_failure why then changed_if (same_digest d digest) (failed_blob n) x else x
row_after d n moment (Adopted job digest size) x = if same_digest d digest then Some (idle_row n moment digest size) else x
row_after d n moment _ x = x

-- In the rows of the audit a bar is 0 exactly where no Taking stands since the digest was last stored. So a row
-- without a bar is one whose content no removal can have taken.
abbrev pub BarTells : List AuditEntry → Type 0
BarTells j = (d : Digest) (row : Blob) → blob_at (rows_of j) d ≡ Some row → nat_eq row.bar 0 ≡ not (has_kind (takes_digest d) (since_kind (stores d) j))
