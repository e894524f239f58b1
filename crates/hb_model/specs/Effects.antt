-- What each entry does to the rows, and the rows that an audit makes of empty tables.
use Rattle.std.specs.Prelude.{ℕ, List, [], ◌∷◌}
use Rattle.hb_records.specs.Entries.{AuditEntry}
use Rattle.hb_records.specs.declared.entries.EntryKind.{EntryKind}
use Rattle.hb_records.specs.declared.entries.EntryKind.TheVariants.{ProjectMade, LimitSet, RulesSet, UploadBegun, UploadGrown, UploadEnded, Associated, Touched, Unassociated, ArtifactPut, ArtifactDropped, TagDropped, Pulled, JobQueued, JobClaimed, GcMarked, Taking, Collected, GcSkipped, Adopted, GcDone, RetainBegun, RetainTurn, RetainDone}
use Rattle.hb_rows.specs.Tables.{Tables, empty_tables}
use Rattle.hb_model.specs.ProjectEffects.{make_project, set_limit, set_rules, begin_upload, grow_upload, end_upload}
use Rattle.hb_model.specs.BlobEffects.{associate, touch, unassociate, take_blob, idle_blob}
use Rattle.hb_model.specs.ArtifactEffects.{put_artifact, drop_artifact, drop_tag, pull}
use Rattle.hb_model.specs.JobEffects.{queue_job, claim_job, finish_job}
use Rattle.hb_model.specs.CollectEffects.{mark_page, collect, skip}
use Rattle.hb_model.specs.RetainEffects.{begin_retain, turn_tag}

-- what an entry of this number and moment does to the rows; its number becomes the version of what it changes
abbrev pub effect : ℕ → ℕ → EntryKind → Tables → Tables
effect n moment (ProjectMade project limit) t = make_project n project limit t
effect n moment (LimitSet project limit) t = set_limit n project limit t
effect n moment (RulesSet project rules) t = set_rules n project rules t
effect n moment (UploadBegun name) t = begin_upload n moment name t
effect n moment (UploadGrown upload offset) t = grow_upload n moment upload offset t
effect n moment (UploadEnded job upload) t = end_upload upload t
effect n moment (Associated project digest size) t = associate n moment project digest size t
effect n moment (Touched project digest) t = touch n moment project digest t
effect n moment (Unassociated job project digest) t = unassociate n project digest t
effect n moment (ArtifactPut name digest size media refs children tag) t = put_artifact n moment name digest size media refs children tag t
effect n moment (ArtifactDropped job name digest) t = drop_artifact name digest t
effect n moment (TagDropped name tag) t = drop_tag name tag t
effect n moment (Pulled name digest) t = pull n moment name digest t
effect n moment (JobQueued kind) t = queue_job n kind t
effect n moment (JobClaimed job) t = claim_job n job t
effect n moment (GcMarked job digests barred upto last) t = mark_page n job digests barred upto last t
effect n moment (Taking job digest) t = take_blob n moment digest t
effect n moment (Collected job digest) t = collect job digest t
effect n moment (GcSkipped job digest why) t = skip n job digest why t
effect n moment (Adopted job digest size) t = idle_blob n moment digest size t
effect n moment (GcDone job) t = finish_job n job t
effect n moment (RetainBegun job) t = begin_retain n moment job t
effect n moment (RetainTurn job name tag given) t = turn_tag job name tag given t
effect n moment (RetainDone job) t = finish_job n job t

-- the entry has its effect, and is the newest of the audit
abbrev pub after_entry : Tables → AuditEntry → Tables
after_entry t e = let changed = effect e.number e.moment e.kind t in record changed { audit = e ∷ t.audit }

-- the rows of an audit
abbrev pub rows_of : List AuditEntry → Tables
rows_of [] = empty_tables
rows_of (e ∷ j) = after_entry (rows_of j) e
