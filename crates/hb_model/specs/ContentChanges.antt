-- The changes by which a batch makes the effect of entries about content.
use Rattle.std.specs.Prelude.{ℕ, ◌+◌, ◌-◌, List, [], ◌∷◌, ◌++◌, Option, Some, None, nat_eq, if◌then◌else◌}
use Rattle.hb_text.specs.declared.digests.Digest.{Digest}
use Rattle.hb_records.specs.declared.records.Project.{Project}
use Rattle.hb_records.specs.declared.records.Assoc.{Assoc}
use Rattle.hb_records.specs.declared.batches.Row.TheVariants as row
use Rattle.hb_records.specs.declared.batches.Change.{Change}
use Rattle.hb_records.specs.declared.batches.Change.TheVariants.{Set}
use Rattle.hb_rows.specs.Tables.{Tables, project_at, blob_at, pair_at}
use Rattle.hb_model.specs.BlobEffects.{idle_row, touched_blob, touched_pair}

-- the change of a row, where it is there
abbrev pub on_row : {A : Type 0} → Option A → (A → Change) → List Change
on_row None change = []
on_row (Some r) change = change r ∷ []

-- what the project uses, where that changes
abbrev pub used_changes : ℕ → (ℕ → ℕ) → Option Project → List Change
used_changes n change None = []
used_changes n change (Some r) = if nat_eq (change r.used) r.used then [] else Set (row.Project (record r { used = change r.used; version = n })) ∷ []

abbrev pub idle_change : ℕ → ℕ → Digest → ℕ → Change
idle_change n moment digest size = Set (row.Blob (idle_row n moment digest size))

-- a new pair and what it adds, or the touch of one that is there
abbrev pub pair_changes : ℕ → ℕ → List ℕ → Digest → ℕ → Option Assoc → Tables → List Change
pair_changes n moment project digest size None t = Set (row.Pair (record { project = project; digest = digest; size = size; touched = moment })) ∷ used_changes n (λ used. used + size) (project_at t project)
pair_changes n moment project digest size (Some r) t = Set (row.Pair (touched_pair moment r)) ∷ []

abbrev pub associate_changes : ℕ → ℕ → List ℕ → Digest → ℕ → Tables → List Change
associate_changes n moment project digest size t = pair_changes n moment project digest size (pair_at t project digest) t ++ idle_change n moment digest size ∷ []

abbrev pub touch_pair_changes : ℕ → List ℕ → Tables → Digest → List Change
touch_pair_changes moment project t digest = on_row (pair_at t project digest) (λ r. Set (row.Pair (touched_pair moment r)))

abbrev pub touch_blob_changes : ℕ → ℕ → Tables → Digest → List Change
touch_blob_changes n moment t digest = on_row (blob_at t digest) (λ r. Set (row.Blob (touched_blob n moment r)))

abbrev pub touch_changes : ℕ → ℕ → List ℕ → Tables → Digest → List Change
touch_changes n moment project t digest = touch_pair_changes moment project t digest ++ touch_blob_changes n moment t digest

-- what goes from what the project uses with this pair, where it is there
abbrev pub lose_changes : ℕ → List ℕ → Option Assoc → Tables → List Change
lose_changes n project None t = []
lose_changes n project (Some r) t = used_changes n (λ used. used - r.size) (project_at t project)
