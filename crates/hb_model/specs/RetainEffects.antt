-- What the entries of a retention job do to the rows.
use Rattle.std.specs.Prelude.{ℕ, Bool, true, false, List, [], map, Option, Some, None, fold, if◌then◌else◌}
use Rattle.std.specs.List.{filter}
use Rattle.std.specs.Ordering.{nat_cmp}
use Rattle.hb_base.specs.Tables.{with_row, without_key, changed_at}
use Rattle.hb_text.specs.Names.{project_of}
use Rattle.hb_records.specs.declared.records.Artifact.{Artifact}
use Rattle.hb_records.specs.declared.records.Project.{Project}
use Rattle.hb_records.specs.declared.records.TagRow.{TagRow}
use Rattle.hb_records.specs.declared.jobs.JobKind.{JobKind}
use Rattle.hb_records.specs.declared.jobs.JobKind.TheVariants.{Collect, Retain}
use Rattle.hb_records.specs.declared.jobs.JobRow.{JobRow}
use Rattle.hb_records.specs.declared.jobs.Phase.TheVariants as phase
use Rattle.hb_records.specs.declared.jobs.SnapTag.{SnapTag}
use Rattle.hb_records.specs.declared.jobs.TagVerdict.{TagVerdict}
use Rattle.hb_records.specs.declared.jobs.TagVerdict.TheVariants as turn
use Rattle.hb_records.specs.Orders.{named_tag_cmp, job_tag_cmp, tag_key, job_key, snap_key}
use Rattle.hb_records.specs.Retention.{SnapItem, keeps}
use Rattle.hb_rows.specs.Tables.{Tables, job_at, project_at, artifact_at}
use Rattle.hb_model.specs.Words.{same_text}

abbrev pub pulled_of : Option Artifact → ℕ
pulled_of None = 0
pulled_of (Some row) = row.pulled

abbrev pub tags_of : List ℕ → Tables → List TagRow
tags_of project t = filter (λ row. same_text project (project_of row.name)) t.tags

-- a tag's version is the number of the entry that put it
abbrev pub item_of : Tables → TagRow → SnapItem
item_of t row = record { name = row.name; tag = row.tag; put = row.version; pushed = row.pushed; pulled = pulled_of (artifact_at t row.name row.digest) }

-- a tag as the snapshot has it, kept or with a turn to come
abbrev pub snap_row : ℕ → (SnapItem → Bool) → Tables → TagRow → SnapTag
snap_row job kept t row = record { job = job; name = row.name; tag = row.tag; digest = row.digest; version = row.version; pushed = row.pushed; pulled = pulled_of (artifact_at t row.name row.digest); verdict = if kept (item_of t row) then turn.Kept else turn.Pending }

-- the snapshot by the rules of the project's row; none where it isn't there
abbrev pub snaps_by : ℕ → ℕ → List ℕ → Option Project → Tables → List SnapTag
snaps_by job moment project None t = []
snaps_by job moment project (Some row) t = map (snap_row job (keeps row.rules (map (item_of t) (tags_of project t)) moment) t) (tags_of project t)

abbrev pub snaps_for : ℕ → ℕ → JobKind → Tables → List SnapTag
snaps_for job moment (Collect untagged) t = []
snaps_for job moment (Retain project) t = snaps_by job moment project (project_at t project) t

-- the snapshot of the job's project
abbrev pub snaps_of : ℕ → ℕ → Option JobRow → Tables → List SnapTag
snaps_of job moment None t = []
snaps_of job moment (Some row) t = snaps_for job moment row.kind t

abbrev pub begin_retain : ℕ → ℕ → ℕ → Tables → Tables
begin_retain n moment job t = record t {
  snaps = fold (λ rows row. with_row job_tag_cmp snap_key row rows) t.snaps (snaps_of job moment (job_at t job) t);
  jobs = changed_at nat_cmp job_key job (λ row. record row { phase = phase.Turning; version = n }) t.jobs;
}

abbrev pub is_drop : TagVerdict → Bool
is_drop turn.Kept = false
is_drop turn.Pending = false
is_drop turn.Dropped = true
is_drop turn.Immutable = false
is_drop turn.Changed = false

-- the tag has its verdict, and goes where that is to drop it
abbrev pub turn_tag : ℕ → List ℕ → List ℕ → TagVerdict → Tables → Tables
turn_tag job name tag given t = record t {
  snaps = changed_at job_tag_cmp snap_key (job, (name, tag)) (λ row. record row { verdict = given }) t.snaps;
  tags = if is_drop given then without_key named_tag_cmp tag_key (name, tag) t.tags else t.tags;
}
