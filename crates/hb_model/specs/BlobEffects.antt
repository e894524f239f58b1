-- What entries about content do to the rows of blobs and pairs, and to what projects use.
use Rattle.std.specs.Prelude.{ℕ, ◌+◌, ◌-◌, List, Option, Some, None}
use Rattle.hb_base.specs.Tables.{with_row, without_key, changed_at}
use Rattle.hb_text.specs.declared.digests.Digest.{Digest}
use Rattle.hb_text.specs.Orders.{text_cmp, digest_cmp}
use Rattle.hb_records.specs.declared.records.Project.{Project}
use Rattle.hb_records.specs.declared.records.Blob.{Blob}
use Rattle.hb_records.specs.declared.records.Assoc.{Assoc}
use Rattle.hb_records.specs.declared.records.Status.TheVariants.{Idle, Deleting, DeleteFailed}
use Rattle.hb_records.specs.Orders.{named_digest_cmp, project_key, blob_key, pair_key}
use Rattle.hb_rows.specs.Tables.{Tables, pair_at}
use Rattle.hb_model.specs.Words.{WINDOW}
use Rattle.hb_model.specs.ProjectEffects.{with_used}

-- the row of content that was just stored: idle, without a bar
abbrev pub idle_row : ℕ → ℕ → Digest → ℕ → Blob
idle_row n moment digest size = record { digest = digest; size = size; status = Idle; version = n; touched = moment; bar = 0 }

abbrev pub idle_blob : ℕ → ℕ → Digest → ℕ → Tables → Tables
idle_blob n moment digest size t = record t { blobs = with_row digest_cmp blob_key (idle_row n moment digest size) t.blobs }

-- what a touch makes of a row
abbrev pub touched_blob : ℕ → ℕ → Blob → Blob
touched_blob n moment row = record row { touched = moment; version = n }

abbrev pub touched_pair : ℕ → Assoc → Assoc
touched_pair moment row = record row { touched = moment }

abbrev pub touch_blobs : ℕ → ℕ → Digest → List Blob → List Blob
touch_blobs n moment digest = changed_at digest_cmp blob_key digest (touched_blob n moment)

abbrev pub touch_pairs : ℕ → List ℕ → Digest → List Assoc → List Assoc
touch_pairs moment project digest = changed_at named_digest_cmp pair_key (project, digest) (touched_pair moment)

abbrev pub touch : ℕ → ℕ → List ℕ → Digest → Tables → Tables
touch n moment project digest t = record t { pairs = touch_pairs moment project digest t.pairs; blobs = touch_blobs n moment digest t.blobs }

-- the pair is made, or kept and touched
abbrev pub pairs_with : ℕ → List ℕ → Digest → ℕ → Option Assoc → List Assoc → List Assoc
pairs_with moment project digest size None rows = with_row named_digest_cmp pair_key (record { project = project; digest = digest; size = size; touched = moment }) rows
pairs_with moment project digest size (Some row) rows = touch_pairs moment project digest rows

-- a new pair counts in what the project uses
abbrev pub projects_with : ℕ → List ℕ → ℕ → Option Assoc → List Project → List Project
projects_with n project size None rows = changed_at text_cmp project_key project (with_used n (λ used. used + size)) rows
projects_with n project size (Some row) rows = rows

abbrev pub associate : ℕ → ℕ → List ℕ → Digest → ℕ → Tables → Tables
associate n moment project digest size t = record t {
  projects = projects_with n project size (pair_at t project digest) t.projects;
  pairs = pairs_with moment project digest size (pair_at t project digest) t.pairs;
  blobs = with_row digest_cmp blob_key (idle_row n moment digest size) t.blobs;
}

-- a pair that goes doesn't count any more; what is used doesn't fall below 0
abbrev pub projects_without : ℕ → List ℕ → Option Assoc → List Project → List Project
projects_without n project None rows = rows
projects_without n project (Some row) rows = changed_at text_cmp project_key project (with_used n (λ used. used - row.size)) rows

abbrev pub unassociate : ℕ → List ℕ → Digest → Tables → Tables
unassociate n project digest t = record t {
  projects = projects_without n project (pair_at t project digest) t.projects;
  pairs = without_key named_digest_cmp pair_key (project, digest) t.pairs;
}

-- taken to be removed; from its bar on a removal has no effect
abbrev pub taken_blob : ℕ → ℕ → Blob → Blob
taken_blob n moment row = record row { status = Deleting; bar = moment + WINDOW; version = n }

abbrev pub take_blob : ℕ → ℕ → Digest → Tables → Tables
take_blob n moment digest t = record t { blobs = changed_at digest_cmp blob_key digest (taken_blob n moment) t.blobs }

-- left after its removal failed or came too late; the bar stays
abbrev pub failed_blob : ℕ → Blob → Blob
failed_blob n row = record row { status = DeleteFailed; version = n }

abbrev pub failed_blobs : ℕ → Digest → List Blob → List Blob
failed_blobs n digest = changed_at digest_cmp blob_key digest (failed_blob n)

abbrev pub drop_blob : Digest → Tables → Tables
drop_blob digest t = record t { blobs = without_key digest_cmp blob_key digest t.blobs }
