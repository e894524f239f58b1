-- What the rows answer to a question about several of them: the first row that passes, which has the least
-- key, since each table is in the order of its keys.
use Rattle.std.specs.Prelude.{ℕ, Bool, true, false, not, ◌&&◌, ◌||◌, List, length, Option}
use Rattle.std.specs.List.{find}
use Rattle.std.specs.Option.{option_map}
use Rattle.hb_text.specs.declared.digests.Digest.{Digest}
use Rattle.hb_text.specs.Names.{project_of}
use Rattle.hb_records.specs.Entries.{AuditMeta}
use Rattle.hb_records.specs.declared.keys.ArtifactKey.{ArtifactKey}
use Rattle.hb_records.specs.declared.records.Artifact.{Artifact}
use Rattle.hb_records.specs.declared.jobs.JobKind.{JobKind}
use Rattle.hb_records.specs.declared.jobs.JobRow.{JobRow}
use Rattle.hb_records.specs.declared.jobs.Phase.{Phase}
use Rattle.hb_records.specs.declared.jobs.Phase.TheVariants.{Queued, Claimed, Marking, Sweeping, Turning, Finished}
use Rattle.hb_rows.specs.Tables.{Tables}
use Rattle.hb_model.specs.Words.{same_text, same_digest, among}
use Rattle.hb_model.specs.Jobs.{same_kind}
use Rattle.hb_model.specs.History.{latest}

abbrev pub meta_of : Tables → AuditMeta
meta_of t = record { entries = length t.audit; latest = latest t.audit }

abbrev pub is_finished : Phase → Bool
is_finished Queued = false
is_finished Claimed = false
is_finished Marking = false
is_finished Sweeping = false
is_finished Turning = false
is_finished Finished = true

-- the job of the same kind and project, whatever the flag, that isn't finished
abbrev pub unfinished_of : Tables → JobKind → Option JobRow
unfinished_of t kind = find (λ row. same_kind kind row.kind && not (is_finished row.phase)) t.jobs

-- an artifact needs its own digest and those that it refers to
abbrev pub needs : Artifact → Digest → Bool
needs row digest = same_digest digest row.digest || among digest row.refs

abbrev pub needing : Tables → List ℕ → Digest → Option ArtifactKey
needing t project digest = option_map (λ row. record { name = row.name; digest = row.digest }) (find (λ row. same_text project (project_of row.name) && needs row digest) t.artifacts)

abbrev pub owner_of : Tables → Digest → Option (List ℕ)
owner_of t digest = option_map (λ row. row.project) (find (λ row. same_digest digest row.digest) t.pairs)

abbrev pub parent_of : Tables → List ℕ → Digest → Option Digest
parent_of t name child = option_map (λ row. row.digest) (find (λ row. same_text name row.name && among child row.children) t.artifacts)
