-- The keys of the rows of each table, and their orders: field by field, texts and digests by their bytes.
use Rattle.std.specs.Prelude.{ℕ, List}
use Rattle.std.specs.declared.cmp.Ordering.{Ordering}
use Rattle.std.specs.Ordering.{nat_cmp, ordering_then}
use Rattle.hb_text.specs.declared.digests.Digest.{Digest}
use Rattle.hb_text.specs.Orders.{text_cmp, digest_cmp}
use Rattle.hb_records.specs.declared.records.Project.{Project}
use Rattle.hb_records.specs.declared.records.Blob.{Blob}
use Rattle.hb_records.specs.declared.records.Assoc.{Assoc}
use Rattle.hb_records.specs.declared.records.Artifact.{Artifact}
use Rattle.hb_records.specs.declared.records.TagRow.{TagRow}
use Rattle.hb_records.specs.declared.records.Upload.{Upload}
use Rattle.hb_records.specs.declared.jobs.JobRow.{JobRow}
use Rattle.hb_records.specs.declared.jobs.Candidate.{Candidate}
use Rattle.hb_records.specs.declared.jobs.SnapTag.{SnapTag}
use Rattle.hb_records.specs.Entries.{AuditEntry}

-- a key of two parts: the first decides, and where it ties the second
abbrev pub parts_cmp : {A B : Type 0} → (A → A → Ordering) → (B → B → Ordering) → A × B → A × B → Ordering
parts_cmp first second a b = ordering_then (first a.0 b.0) (second a.1 b.1)

-- a digest that belongs to a name: a pair's to its project, an artifact's to its repository
abbrev pub NamedDigest : Type 0
NamedDigest = List ℕ × Digest

abbrev pub named_digest_cmp : NamedDigest → NamedDigest → Ordering
named_digest_cmp = parts_cmp text_cmp digest_cmp

-- a tag of a repository
abbrev pub NamedTag : Type 0
NamedTag = List ℕ × List ℕ

abbrev pub named_tag_cmp : NamedTag → NamedTag → Ordering
named_tag_cmp = parts_cmp text_cmp text_cmp

-- a digest that a job has to decide about
abbrev pub JobDigest : Type 0
JobDigest = ℕ × Digest

abbrev pub job_digest_cmp : JobDigest → JobDigest → Ordering
job_digest_cmp = parts_cmp nat_cmp digest_cmp

-- a tag that a job has to decide about
abbrev pub JobTag : Type 0
JobTag = ℕ × NamedTag

abbrev pub job_tag_cmp : JobTag → JobTag → Ordering
job_tag_cmp = parts_cmp nat_cmp named_tag_cmp

abbrev pub project_key : Project → List ℕ
project_key row = row.name

abbrev pub blob_key : Blob → Digest
blob_key row = row.digest

abbrev pub pair_key : Assoc → NamedDigest
pair_key row = (row.project, row.digest)

abbrev pub artifact_key : Artifact → NamedDigest
artifact_key row = (row.name, row.digest)

abbrev pub tag_key : TagRow → NamedTag
tag_key row = (row.name, row.tag)

abbrev pub upload_key : Upload → ℕ
upload_key row = row.id

abbrev pub job_key : JobRow → ℕ
job_key row = row.number

abbrev pub candidate_key : Candidate → JobDigest
candidate_key row = (row.job, row.digest)

abbrev pub snap_key : SnapTag → JobTag
snap_key row = (row.job, (row.name, row.tag))

abbrev pub entry_key : AuditEntry → ℕ
entry_key row = row.number
