-- The changes by which a batch makes an entry's effect, in the order in which it has them.
use Rattle.std.specs.Prelude.{ℕ, List, [], ◌∷◌, ◌++◌, None}
use Rattle.hb_records.specs.Entries.{AuditEntry}
use Rattle.hb_records.specs.declared.entries.EntryKind.{EntryKind}
use Rattle.hb_records.specs.declared.entries.EntryKind.TheVariants.{ProjectMade, LimitSet, RulesSet, UploadBegun, UploadGrown, UploadEnded, Associated, Touched, Unassociated, ArtifactPut, ArtifactDropped, TagDropped, Pulled, JobQueued, JobClaimed, GcMarked, Taking, Collected, GcSkipped, Adopted, GcDone, RetainBegun, RetainTurn, RetainDone}
use Rattle.hb_records.specs.declared.jobs.Phase.TheVariants as phase
use Rattle.hb_records.specs.declared.jobs.Verdict.TheVariants as verdict
use Rattle.hb_records.specs.declared.batches.Row.TheVariants as row
use Rattle.hb_records.specs.declared.batches.Change.{Change}
use Rattle.hb_records.specs.declared.batches.Change.TheVariants.{Set, Drop}
use Rattle.hb_records.specs.declared.keys.Key.TheVariants as key
use Rattle.hb_rows.specs.Tables.{Tables, project_at, blob_at, pair_at, artifact_at, upload_at}
use Rattle.hb_model.specs.ProjectEffects.{new_project}
use Rattle.hb_model.specs.BlobEffects.{taken_blob}
use Rattle.hb_model.specs.ArtifactEffects.{pulled_artifact}
use Rattle.hb_model.specs.JobEffects.{claimed_phase}
use Rattle.hb_model.specs.ContentChanges.{on_row, idle_change, associate_changes, touch_changes, lose_changes}
use Rattle.hb_model.specs.ArtifactChanges.{put_changes, drop_artifact_changes}
use Rattle.hb_model.specs.JobChanges.{job_changes, mark_page_changes, verdict_changes, skip_changes, begin_retain_changes, turn_changes}

abbrev pub changes : ℕ → ℕ → EntryKind → Tables → List Change
changes n moment (ProjectMade project limit) t = Set (row.Project (new_project n project limit)) ∷ []
changes n moment (LimitSet project limit) t = on_row (project_at t project) (λ r. Set (row.Project (record r { limit = limit; version = n })))
changes n moment (RulesSet project rules) t = on_row (project_at t project) (λ r. Set (row.Project (record r { rules = rules; version = n })))
changes n moment (UploadBegun name) t = Set (row.Upload (record { id = n; name = name; offset = 0; touched = moment; version = n })) ∷ []
changes n moment (UploadGrown upload offset) t = on_row (upload_at t upload) (λ r. Set (row.Upload (record r { offset = offset; touched = moment; version = n })))
changes n moment (UploadEnded job upload) t = Drop (key.Upload upload) ∷ []
changes n moment (Associated project digest size) t = associate_changes n moment project digest size t
changes n moment (Touched project digest) t = touch_changes n moment project t digest
changes n moment (Unassociated job project digest) t = Drop (key.Pair project digest) ∷ lose_changes n project (pair_at t project digest) t
changes n moment (ArtifactPut name digest size media refs children tag) t = put_changes n moment name digest size media refs children tag t
changes n moment (ArtifactDropped job name digest) t = drop_artifact_changes name digest t
changes n moment (TagDropped name tag) t = Drop (key.Tag name tag) ∷ []
changes n moment (Pulled name digest) t = on_row (artifact_at t name digest) (λ r. Set (row.Artifact (pulled_artifact n moment r)))
changes n moment (JobQueued kind) t = Set (row.Job (record { number = n; kind = kind; phase = phase.Queued; cursor = None; claimed = 0; barred = 0; version = n })) ∷ []
changes n moment (JobClaimed job) t = job_changes job (λ r. record r { phase = claimed_phase r.phase; claimed = n; version = n }) t
changes n moment (GcMarked job digests barred upto last) t = mark_page_changes n job digests barred upto last t
changes n moment (Taking job digest) t = on_row (blob_at t digest) (λ r. Set (row.Blob (taken_blob n moment r)))
changes n moment (Collected job digest) t = verdict_changes job digest verdict.Collected t ++ Drop (key.Blob digest) ∷ []
changes n moment (GcSkipped job digest why) t = skip_changes n job digest why t
changes n moment (Adopted job digest size) t = idle_change n moment digest size ∷ []
changes n moment (GcDone job) t = job_changes job (λ r. record r { phase = phase.Finished; version = n }) t
changes n moment (RetainBegun job) t = begin_retain_changes n moment job t
changes n moment (RetainTurn job name tag given) t = turn_changes job name tag given t
changes n moment (RetainDone job) t = job_changes job (λ r. record r { phase = phase.Finished; version = n }) t

-- the changes of an entry's batch
abbrev pub changes_of : Tables → AuditEntry → List Change
changes_of t e = changes e.number e.moment e.kind t
