-- The ten tables, and the row of a key in each.
use Rattle.std.specs.Prelude.{ℕ, List, [], Option, reverse}
use Rattle.std.specs.Ordering.{nat_cmp}
use Rattle.hb_base.specs.Tables.{row_at, Rises}
use Rattle.hb_text.specs.declared.digests.Digest.{Digest}
use Rattle.hb_text.specs.Orders.{text_cmp, digest_cmp}
use Rattle.hb_records.specs.declared.records.Project.{Project}
use Rattle.hb_records.specs.declared.records.Blob.{Blob}
use Rattle.hb_records.specs.declared.records.Assoc.{Assoc}
use Rattle.hb_records.specs.declared.records.Artifact.{Artifact}
use Rattle.hb_records.specs.declared.records.TagRow.{TagRow}
use Rattle.hb_records.specs.declared.records.Upload.{Upload}
use Rattle.hb_records.specs.declared.jobs.JobRow.{JobRow}
use Rattle.hb_records.specs.declared.jobs.Candidate.{Candidate}
use Rattle.hb_records.specs.declared.jobs.SnapTag.{SnapTag}
use Rattle.hb_records.specs.Entries.{AuditEntry}
use Rattle.hb_records.specs.Orders.{named_digest_cmp, named_tag_cmp, job_digest_cmp, job_tag_cmp, project_key, blob_key, pair_key, artifact_key, tag_key, upload_key, job_key, candidate_key, snap_key, entry_key}

-- Each table in the order of its keys, but the audit with its newest entry first: an audit grows at its
-- head, so that what an entry does can be said of the audit before it.
pub record Tables : Type 0 where
  pub projects : List Project
  pub blobs : List Blob
  pub pairs : List Assoc
  pub artifacts : List Artifact
  pub tags : List TagRow
  pub uploads : List Upload
  pub jobs : List JobRow
  pub candidates : List Candidate
  pub snaps : List SnapTag
  pub audit : List AuditEntry

abbrev pub empty_tables : Tables
empty_tables = record { projects = []; blobs = []; pairs = []; artifacts = []; tags = []; uploads = []; jobs = []; candidates = []; snaps = []; audit = [] }

-- the table of entries, which has them in the order of their numbers
abbrev pub entries : Tables → List AuditEntry
entries t = reverse t.audit

-- the row of this key in each table
abbrev pub project_at : Tables → List ℕ → Option Project
project_at t name = row_at text_cmp project_key name t.projects

abbrev pub blob_at : Tables → Digest → Option Blob
blob_at t digest = row_at digest_cmp blob_key digest t.blobs

abbrev pub pair_at : Tables → List ℕ → Digest → Option Assoc
pair_at t project digest = row_at named_digest_cmp pair_key (project, digest) t.pairs

abbrev pub artifact_at : Tables → List ℕ → Digest → Option Artifact
artifact_at t name digest = row_at named_digest_cmp artifact_key (name, digest) t.artifacts

abbrev pub tag_at : Tables → List ℕ → List ℕ → Option TagRow
tag_at t name tag = row_at named_tag_cmp tag_key (name, tag) t.tags

abbrev pub upload_at : Tables → ℕ → Option Upload
upload_at t id = row_at nat_cmp upload_key id t.uploads

abbrev pub job_at : Tables → ℕ → Option JobRow
job_at t number = row_at nat_cmp job_key number t.jobs

abbrev pub candidate_at : Tables → ℕ → Digest → Option Candidate
candidate_at t job digest = row_at job_digest_cmp candidate_key (job, digest) t.candidates

abbrev pub snap_at : Tables → ℕ → List ℕ → List ℕ → Option SnapTag
snap_at t job name tag = row_at job_tag_cmp snap_key (job, (name, tag)) t.snaps

abbrev pub entry_at : Tables → ℕ → Option AuditEntry
entry_at t number = row_at nat_cmp entry_key number (entries t)

-- The keys of each table rise, so that each has its row once.
pub record AreTables (t : Tables) : Type 0 where
  pub projects : Rises text_cmp project_key t.projects
  pub blobs : Rises digest_cmp blob_key t.blobs
  pub pairs : Rises named_digest_cmp pair_key t.pairs
  pub artifacts : Rises named_digest_cmp artifact_key t.artifacts
  pub tags : Rises named_tag_cmp tag_key t.tags
  pub uploads : Rises nat_cmp upload_key t.uploads
  pub jobs : Rises nat_cmp job_key t.jobs
  pub candidates : Rises job_digest_cmp candidate_key t.candidates
  pub snaps : Rises job_tag_cmp snap_key t.snaps
  pub audit : Rises nat_cmp entry_key (entries t)
