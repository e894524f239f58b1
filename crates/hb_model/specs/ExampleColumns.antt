-- The columns of rows and of what clients see that the worked examples look at.
use Rattle.std.specs.Prelude.{ℕ, ℤ, List}
use Rattle.hb_text.specs.declared.digests.Digest.{Digest}
use Rattle.hb_records.specs.declared.records.Project.{Project}
use Rattle.hb_records.specs.declared.records.Blob.{Blob}
use Rattle.hb_records.specs.declared.records.Status.{Status}
use Rattle.hb_records.specs.declared.records.Upload.{Upload}
use Rattle.hb_records.specs.declared.jobs.JobRow.{JobRow}
use Rattle.hb_records.specs.declared.jobs.Phase.{Phase}
use Rattle.hb_records.specs.declared.jobs.Candidate.{Candidate}
use Rattle.hb_records.specs.declared.jobs.Verdict.{Verdict}
use Rattle.hb_records.specs.declared.jobs.SnapTag.{SnapTag}
use Rattle.hb_records.specs.declared.jobs.TagVerdict.{TagVerdict}
use Rattle.hb_model.specs.Registry.{PairItem, ArtifactItem, TagItem}

-- ---- of rows
-- name, limit, used and version
abbrev pub project_columns : Project → List ℕ × ℤ × ℕ × ℕ
project_columns row = (row.name, row.limit, row.used, row.version)

-- digest, status, version, touched and bar
abbrev pub blob_columns : Blob → Digest × Status × ℕ × ℕ × ℕ
blob_columns row = (row.digest, row.status, row.version, row.touched, row.bar)

-- id, offset, touched and version
abbrev pub upload_columns : Upload → ℕ × ℕ × ℕ × ℕ
upload_columns row = (row.id, row.offset, row.touched, row.version)

-- number, phase, the entry that last claimed it, and version
abbrev pub job_columns : JobRow → ℕ × Phase × ℕ × ℕ
job_columns row = (row.number, row.phase, row.claimed, row.version)

-- job, digest, size, version and verdict
abbrev pub candidate_columns : Candidate → ℕ × Digest × ℕ × ℕ × Verdict
candidate_columns row = (row.job, row.digest, row.size, row.version, row.verdict)

-- tag, version and verdict
abbrev pub snap_columns : SnapTag → List ℕ × ℕ × TagVerdict
snap_columns row = (row.tag, row.version, row.verdict)

-- ---- of what clients see
-- project, digest and size
abbrev pub pair_columns : PairItem → List ℕ × Digest × ℕ
pair_columns x = (x.project, x.digest, x.size)

-- digest, and the moments of the last push and the last pull
abbrev pub artifact_columns : ArtifactItem → Digest × ℕ × ℕ
artifact_columns x = (x.digest, x.pushed, x.pulled)

-- tag, digest, and the number and the moment of its put
abbrev pub tag_columns : TagItem → List ℕ × Digest × ℕ × ℕ
tag_columns x = (x.tag, x.digest, x.put, x.pushed)
