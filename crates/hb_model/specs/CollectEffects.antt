-- What the entries of a collection do to the rows.
use Rattle.std.specs.Prelude.{ℕ, ◌+◌, Bool, true, false, List, length, Option, Some, None, fold, if◌then◌else◌}
use Rattle.std.specs.Ordering.{nat_cmp}
use Rattle.hb_base.specs.Tables.{with_row, changed_at}
use Rattle.hb_text.specs.declared.digests.Digest.{Digest}
use Rattle.hb_text.specs.Orders.{digest_cmp}
use Rattle.hb_records.specs.declared.records.Blob.{Blob}
use Rattle.hb_records.specs.declared.records.Status.TheVariants as status
use Rattle.hb_records.specs.declared.jobs.JobRow.{JobRow}
use Rattle.hb_records.specs.declared.jobs.Phase.TheVariants as phase
use Rattle.hb_records.specs.declared.jobs.Candidate.{Candidate}
use Rattle.hb_records.specs.declared.jobs.Verdict.{Verdict}
use Rattle.hb_records.specs.declared.jobs.Verdict.TheVariants as verdict
use Rattle.hb_records.specs.Orders.{job_digest_cmp, blob_key, job_key, candidate_key}
use Rattle.hb_rows.specs.Tables.{Tables, blob_at}
use Rattle.hb_model.specs.BlobEffects.{drop_blob, failed_blobs}

-- a candidate has the size of the blob's row
abbrev pub with_candidate : ℕ → ℕ → Digest → Option Blob → List Candidate → List Candidate
with_candidate n job digest None rows = rows
with_candidate n job digest (Some row) rows = with_row job_digest_cmp candidate_key (record { job = job; digest = digest; size = row.size; version = n; verdict = verdict.Pending }) rows

abbrev pub marked_blob : ℕ → Blob → Blob
marked_blob n row = record row { status = status.Delete; version = n }

abbrev pub mark_blobs : ℕ → Digest → List Blob → List Blob
mark_blobs n digest = changed_at digest_cmp blob_key digest (marked_blob n)

-- the job is at `upto`, and sweeps where that was the last page
abbrev pub marked_job : ℕ → List Digest → Option Digest → Bool → JobRow → JobRow
marked_job n barred upto last row = record row { phase = if last then phase.Sweeping else phase.Marking; cursor = upto; barred = row.barred + length barred; version = n }

abbrev pub mark_page : ℕ → ℕ → List Digest → List Digest → Option Digest → Bool → Tables → Tables
mark_page n job digests barred upto last t = record t {
  blobs = fold (λ rows digest. mark_blobs n digest rows) t.blobs digests;
  candidates = fold (λ rows digest. with_candidate n job digest (blob_at t digest) rows) t.candidates digests;
  jobs = changed_at nat_cmp job_key job (marked_job n barred upto last) t.jobs;
}

abbrev pub give_verdict : ℕ → Digest → Verdict → Tables → Tables
give_verdict job digest given t = record t { candidates = changed_at job_digest_cmp candidate_key (job, digest) (λ row. record row { verdict = given }) t.candidates }

abbrev pub collect : ℕ → Digest → Tables → Tables
collect job digest t = drop_blob digest (give_verdict job digest verdict.Collected t)

-- the removal failed, or came too late
abbrev pub is_failure : Verdict → Bool
is_failure verdict.Pending = false
is_failure verdict.Collected = false
is_failure verdict.Touched = false
is_failure verdict.Barred = true
is_failure verdict.Failed = true

abbrev pub skip : ℕ → ℕ → Digest → Verdict → Tables → Tables
skip n job digest why t = let decided = give_verdict job digest why t in record decided { blobs = if is_failure why then failed_blobs n digest t.blobs else t.blobs }
