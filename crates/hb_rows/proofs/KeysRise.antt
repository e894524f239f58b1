-- The keys of the tables still rise after a change, after changes and after a batch.
use Rattle.std.proofs.Common.{List, [], ◌∷◌, reverse, sym, subst}
use Rattle.std.proofs.lemmas.List.{reverse-reverse}
use Rattle.std.specs.Ordering.{nat_cmp}
use Rattle.hb_base.specs.Tables.{Rises}
use Rattle.hb_base.proofs.TableLaws.{Rises-with, Rises-without}
use Rattle.hb_text.specs.Orders.{text_cmp, digest_cmp}
use Rattle.hb_text.proofs.KeyOrders.{text_cmp-order, digest_cmp-order}
use Rattle.hb_records.specs.Entries.{AuditEntry}
use Rattle.hb_records.specs.Orders.{named_digest_cmp, named_tag_cmp, job_digest_cmp, job_tag_cmp, project_key, blob_key, pair_key, artifact_key, tag_key, upload_key, job_key, candidate_key, snap_key, entry_key}
use Rattle.hb_records.proofs.KeyOrders.{nat_cmp-order, named_digest_cmp-order, named_tag_cmp-order, job_digest_cmp-order, job_tag_cmp-order}
use Rattle.hb_records.specs.declared.records.Project.{Project}
use Rattle.hb_records.specs.declared.records.Blob.{Blob}
use Rattle.hb_records.specs.declared.records.Assoc.{Assoc}
use Rattle.hb_records.specs.declared.records.Artifact.{Artifact}
use Rattle.hb_records.specs.declared.records.TagRow.{TagRow}
use Rattle.hb_records.specs.declared.records.Upload.{Upload}
use Rattle.hb_records.specs.declared.jobs.JobRow.{JobRow}
use Rattle.hb_records.specs.declared.jobs.Candidate.{Candidate}
use Rattle.hb_records.specs.declared.jobs.SnapTag.{SnapTag}
use Rattle.hb_records.specs.declared.batches.Row.{Row}
use Rattle.hb_records.specs.declared.batches.Row.TheVariants as row
use Rattle.hb_records.specs.declared.batches.Change.{Change}
use Rattle.hb_records.specs.declared.batches.Change.TheVariants.{Set, Drop}
use Rattle.hb_records.specs.declared.keys.Key.{Key}
use Rattle.hb_records.specs.declared.keys.Key.TheVariants as key
use Rattle.hb_rows.specs.Tables.{Tables, AreTables, entries}
use Rattle.hb_rows.specs.Batches.{set_row, drop_key, after_changes}

-- ---- one table is another one whose keys rise
projects-rise : (t : Tables) (rows : List Project) → Rises text_cmp project_key rows → AreTables t → AreTables (record t { projects = rows })
projects-rise t rows rise h = record { projects = rise; blobs = h.blobs; pairs = h.pairs; artifacts = h.artifacts; tags = h.tags; uploads = h.uploads; jobs = h.jobs; candidates = h.candidates; snaps = h.snaps; audit = h.audit }

blobs-rise : (t : Tables) (rows : List Blob) → Rises digest_cmp blob_key rows → AreTables t → AreTables (record t { blobs = rows })
blobs-rise t rows rise h = record { projects = h.projects; blobs = rise; pairs = h.pairs; artifacts = h.artifacts; tags = h.tags; uploads = h.uploads; jobs = h.jobs; candidates = h.candidates; snaps = h.snaps; audit = h.audit }

pairs-rise : (t : Tables) (rows : List Assoc) → Rises named_digest_cmp pair_key rows → AreTables t → AreTables (record t { pairs = rows })
pairs-rise t rows rise h = record { projects = h.projects; blobs = h.blobs; pairs = rise; artifacts = h.artifacts; tags = h.tags; uploads = h.uploads; jobs = h.jobs; candidates = h.candidates; snaps = h.snaps; audit = h.audit }

artifacts-rise : (t : Tables) (rows : List Artifact) → Rises named_digest_cmp artifact_key rows → AreTables t → AreTables (record t { artifacts = rows })
artifacts-rise t rows rise h = record { projects = h.projects; blobs = h.blobs; pairs = h.pairs; artifacts = rise; tags = h.tags; uploads = h.uploads; jobs = h.jobs; candidates = h.candidates; snaps = h.snaps; audit = h.audit }

tags-rise : (t : Tables) (rows : List TagRow) → Rises named_tag_cmp tag_key rows → AreTables t → AreTables (record t { tags = rows })
tags-rise t rows rise h = record { projects = h.projects; blobs = h.blobs; pairs = h.pairs; artifacts = h.artifacts; tags = rise; uploads = h.uploads; jobs = h.jobs; candidates = h.candidates; snaps = h.snaps; audit = h.audit }

uploads-rise : (t : Tables) (rows : List Upload) → Rises nat_cmp upload_key rows → AreTables t → AreTables (record t { uploads = rows })
uploads-rise t rows rise h = record { projects = h.projects; blobs = h.blobs; pairs = h.pairs; artifacts = h.artifacts; tags = h.tags; uploads = rise; jobs = h.jobs; candidates = h.candidates; snaps = h.snaps; audit = h.audit }

jobs-rise : (t : Tables) (rows : List JobRow) → Rises nat_cmp job_key rows → AreTables t → AreTables (record t { jobs = rows })
jobs-rise t rows rise h = record { projects = h.projects; blobs = h.blobs; pairs = h.pairs; artifacts = h.artifacts; tags = h.tags; uploads = h.uploads; jobs = rise; candidates = h.candidates; snaps = h.snaps; audit = h.audit }

candidates-rise : (t : Tables) (rows : List Candidate) → Rises job_digest_cmp candidate_key rows → AreTables t → AreTables (record t { candidates = rows })
candidates-rise t rows rise h = record { projects = h.projects; blobs = h.blobs; pairs = h.pairs; artifacts = h.artifacts; tags = h.tags; uploads = h.uploads; jobs = h.jobs; candidates = rise; snaps = h.snaps; audit = h.audit }

snaps-rise : (t : Tables) (rows : List SnapTag) → Rises job_tag_cmp snap_key rows → AreTables t → AreTables (record t { snaps = rows })
snaps-rise t rows rise h = record { projects = h.projects; blobs = h.blobs; pairs = h.pairs; artifacts = h.artifacts; tags = h.tags; uploads = h.uploads; jobs = h.jobs; candidates = h.candidates; snaps = rise; audit = h.audit }

entries-rise : (t : Tables) (rows : List AuditEntry) → Rises nat_cmp entry_key rows → AreTables t → AreTables (record t { audit = reverse rows })
entries-rise t rows rise h = record { projects = h.projects; blobs = h.blobs; pairs = h.pairs; artifacts = h.artifacts; tags = h.tags; uploads = h.uploads; jobs = h.jobs; candidates = h.candidates; snaps = h.snaps; audit = subst (Rises nat_cmp entry_key) (sym (reverse-reverse rows)) rise }

-- ---- a row is set, or a key dropped
pub AreTables-set : (t : Tables) (r : Row) → AreTables t → AreTables (set_row t r)
AreTables-set t (row.Project r) h = projects-rise t _ (Rises-with text_cmp-order.total project_key r t.projects h.projects) h
AreTables-set t (row.Blob r) h = blobs-rise t _ (Rises-with digest_cmp-order.total blob_key r t.blobs h.blobs) h
AreTables-set t (row.Pair r) h = pairs-rise t _ (Rises-with named_digest_cmp-order.total pair_key r t.pairs h.pairs) h
AreTables-set t (row.Artifact r) h = artifacts-rise t _ (Rises-with named_digest_cmp-order.total artifact_key r t.artifacts h.artifacts) h
AreTables-set t (row.Tag r) h = tags-rise t _ (Rises-with named_tag_cmp-order.total tag_key r t.tags h.tags) h
AreTables-set t (row.Upload r) h = uploads-rise t _ (Rises-with nat_cmp-order.total upload_key r t.uploads h.uploads) h
AreTables-set t (row.Job r) h = jobs-rise t _ (Rises-with nat_cmp-order.total job_key r t.jobs h.jobs) h
AreTables-set t (row.Candidate r) h = candidates-rise t _ (Rises-with job_digest_cmp-order.total candidate_key r t.candidates h.candidates) h
AreTables-set t (row.Snap r) h = snaps-rise t _ (Rises-with job_tag_cmp-order.total snap_key r t.snaps h.snaps) h
AreTables-set t (row.Entry r) h = entries-rise t _ (Rises-with nat_cmp-order.total entry_key r (entries t) h.audit) h

AreTables-drop : (t : Tables) (k : Key) → AreTables t → AreTables (drop_key t k)
AreTables-drop t (key.Project name) h = projects-rise t _ (Rises-without text_cmp-order.total project_key name t.projects h.projects) h
AreTables-drop t (key.Blob digest) h = blobs-rise t _ (Rises-without digest_cmp-order.total blob_key digest t.blobs h.blobs) h
AreTables-drop t (key.Pair project digest) h = pairs-rise t _ (Rises-without named_digest_cmp-order.total pair_key (project, digest) t.pairs h.pairs) h
AreTables-drop t (key.Artifact name digest) h = artifacts-rise t _ (Rises-without named_digest_cmp-order.total artifact_key (name, digest) t.artifacts h.artifacts) h
AreTables-drop t (key.Tag name tag) h = tags-rise t _ (Rises-without named_tag_cmp-order.total tag_key (name, tag) t.tags h.tags) h
AreTables-drop t (key.Upload id) h = uploads-rise t _ (Rises-without nat_cmp-order.total upload_key id t.uploads h.uploads) h
AreTables-drop t (key.Job number) h = jobs-rise t _ (Rises-without nat_cmp-order.total job_key number t.jobs h.jobs) h
AreTables-drop t (key.Candidate job digest) h = candidates-rise t _ (Rises-without job_digest_cmp-order.total candidate_key (job, digest) t.candidates h.candidates) h
AreTables-drop t (key.Snap job name tag) h = snaps-rise t _ (Rises-without job_tag_cmp-order.total snap_key (job, (name, tag)) t.snaps h.snaps) h
AreTables-drop t (key.Entry number) h = entries-rise t _ (Rises-without nat_cmp-order.total entry_key number (entries t) h.audit) h

pub AreTables-changes : (t : Tables) (xs : List Change) → AreTables t → AreTables (after_changes t xs)
AreTables-changes t [] h = h
AreTables-changes t (Set r ∷ xs) h = AreTables-changes (set_row t r) xs (AreTables-set t r h)
AreTables-changes t (Drop k ∷ xs) h = AreTables-changes (drop_key t k) xs (AreTables-drop t k h)
