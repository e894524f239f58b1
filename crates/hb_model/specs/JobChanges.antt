-- The changes by which a batch makes the effect of the entries of jobs.
use Rattle.std.specs.Prelude.{ℕ, Bool, List, [], ◌∷◌, ◌++◌, map, Option, if◌then◌else◌}
use Rattle.std.specs.List.{flat_map}
use Rattle.hb_text.specs.declared.digests.Digest.{Digest}
use Rattle.hb_records.specs.declared.jobs.JobRow.{JobRow}
use Rattle.hb_records.specs.declared.jobs.Phase.TheVariants as phase
use Rattle.hb_records.specs.declared.jobs.Verdict.{Verdict}
use Rattle.hb_records.specs.declared.jobs.Verdict.TheVariants as verdict
use Rattle.hb_records.specs.declared.jobs.TagVerdict.{TagVerdict}
use Rattle.hb_records.specs.declared.batches.Row.TheVariants as row
use Rattle.hb_records.specs.declared.batches.Change.{Change}
use Rattle.hb_records.specs.declared.batches.Change.TheVariants.{Set, Drop}
use Rattle.hb_records.specs.declared.keys.Key.TheVariants as key
use Rattle.hb_rows.specs.Tables.{Tables, blob_at, job_at, candidate_at, snap_at}
use Rattle.hb_model.specs.BlobEffects.{failed_blob}
use Rattle.hb_model.specs.CollectEffects.{is_failure, marked_job, marked_blob}
use Rattle.hb_model.specs.RetainEffects.{is_drop, snaps_of}
use Rattle.hb_model.specs.ContentChanges.{on_row}

-- the change of the job's row, where it is there
abbrev pub job_changes : ℕ → (JobRow → JobRow) → Tables → List Change
job_changes job change t = on_row (job_at t job) (λ r. Set (row.Job (change r)))

abbrev pub candidate_changes : ℕ → ℕ → Tables → Digest → List Change
candidate_changes n job t digest = on_row (blob_at t digest) (λ r. Set (row.Candidate (record { job = job; digest = digest; size = r.size; version = n; verdict = verdict.Pending })))

abbrev pub delete_changes : ℕ → Tables → Digest → List Change
delete_changes n t digest = on_row (blob_at t digest) (λ r. Set (row.Blob (marked_blob n r)))

-- a digest that is marked becomes a candidate
abbrev pub mark_changes : ℕ → ℕ → Tables → Digest → List Change
mark_changes n job t digest = candidate_changes n job t digest ++ delete_changes n t digest

abbrev pub mark_page_changes : ℕ → ℕ → List Digest → List Digest → Option Digest → Bool → Tables → List Change
mark_page_changes n job digests barred upto last t = flat_map (mark_changes n job t) digests ++ job_changes job (marked_job n barred upto last) t

abbrev pub verdict_changes : ℕ → Digest → Verdict → Tables → List Change
verdict_changes job digest given t = on_row (candidate_at t job digest) (λ r. Set (row.Candidate (record r { verdict = given })))

abbrev pub fail_changes : ℕ → Digest → Tables → List Change
fail_changes n digest t = on_row (blob_at t digest) (λ r. Set (row.Blob (failed_blob n r)))

abbrev pub skip_changes : ℕ → ℕ → Digest → Verdict → Tables → List Change
skip_changes n job digest why t = verdict_changes job digest why t ++ (if is_failure why then fail_changes n digest t else [])

abbrev pub snap_changes : ℕ → ℕ → Tables → List Change
snap_changes moment job t = map (λ r. Set (row.Snap r)) (snaps_of job moment (job_at t job) t)

abbrev pub begin_retain_changes : ℕ → ℕ → ℕ → Tables → List Change
begin_retain_changes n moment job t = snap_changes moment job t ++ job_changes job (λ r. record r { phase = phase.Turning; version = n }) t

abbrev pub turn_changes : ℕ → List ℕ → List ℕ → TagVerdict → Tables → List Change
turn_changes job name tag given t = on_row (snap_at t job name tag) (λ r. Set (row.Snap (record r { verdict = given }))) ++ (if is_drop given then Drop (key.Tag name tag) ∷ [] else [])
