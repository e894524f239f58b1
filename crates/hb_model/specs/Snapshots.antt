-- The snapshot of a retention job: a project's tags, those that its rules leave out, and what becomes of one.
use Rattle.std.specs.Prelude.{ℕ, not, List, [], map, Option, Some, None, nat_eq, option_and_then, if◌then◌else◌}
use Rattle.std.specs.List.{filter, find}
use Rattle.hb_text.specs.Names.{project_of}
use Rattle.hb_records.specs.Entries.{AuditEntry}
use Rattle.hb_records.specs.declared.entries.EntryKind.{EntryKind}
use Rattle.hb_records.specs.declared.entries.EntryKind.TheVariants.{JobQueued}
use Rattle.hb_records.specs.declared.jobs.JobKind.TheVariants.{Retain}
use Rattle.hb_records.specs.declared.jobs.TagVerdict.{TagVerdict}
use Rattle.hb_records.specs.declared.jobs.TagVerdict.TheVariants as turn
use Rattle.hb_records.specs.Retention.{SnapItem, keeps}
use Rattle.hb_model.specs.Words.{same_text, some_and, before_last}
use Rattle.hb_model.specs.Jobs.{begins_retain}
use Rattle.hb_model.specs.Registry.{Registry, ArtifactItem, TagItem, project_in, artifact_in}
use Rattle.hb_model.specs.Replay.{replay}
use Rattle.hb_model.specs.LegalArtifacts.{is_immutable_in}

abbrev pub pulled_in : Option ArtifactItem → ℕ
pulled_in None = 0
pulled_in (Some x) = x.pulled

-- a tag as a snapshot has it
abbrev pub snap_item : Registry → TagItem → SnapItem
snap_item m x = record { name = x.name; tag = x.tag; put = x.put; pushed = x.pushed; pulled = pulled_in (artifact_in m x.name x.digest) }

-- the tags of a project, with when each was put and when its artifact was last pulled
abbrev pub snapshot_of : Registry → List ℕ → List SnapItem
snapshot_of m p = map (snap_item m) (filter (λ x. same_text p (project_of x.name)) m.tags)

-- the project of a retention job
abbrev pub project_of_kind : EntryKind → Option (List ℕ)
project_of_kind (JobQueued (Retain project)) = Some project
project_of_kind _ = None

abbrev pub project_of_job : List AuditEntry → ℕ → Option (List ℕ)
project_of_job j job = option_and_then (λ e. project_of_kind e.kind) (find (λ e. nat_eq e.number job) j)

-- those that the rules of the project don't keep at t
abbrev pub left_out : Registry → List ℕ → ℕ → List SnapItem
left_out m p t = filter (λ item. not (some_and (λ project. keeps project.rules (snapshot_of m p) t item) (project_in m p))) (snapshot_of m p)

-- the same at the moment of the entry by which the job began, and as things stood before it
abbrev pub left_out_at : List AuditEntry → List ℕ → Option AuditEntry → List SnapItem
left_out_at before p None = []
left_out_at before p (Some begun) = left_out (replay before) p begun.moment

abbrev pub left_out_by : List AuditEntry → ℕ → Option (List ℕ) → List SnapItem
left_out_by j job None = []
left_out_by j job (Some p) = left_out_at (before_last (λ e. begins_retain job e.kind) j) p (find (λ e. begins_retain job e.kind) j)

-- the tags of a job's snapshot that are to have a turn
abbrev pub unretained : List AuditEntry → ℕ → List SnapItem
unretained j job = left_out_by j job (project_of_job j job)

-- what becomes of a tag at its turn: it is left where it was put again or is gone, or is immutable now
abbrev pub turn_of : Registry → SnapItem → Option TagItem → TagVerdict
turn_of m item None = turn.Changed
turn_of m item (Some x) = if nat_eq x.put item.put then (if is_immutable_in m item.name item.tag then turn.Immutable else turn.Dropped) else turn.Changed
