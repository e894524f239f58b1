-- What each entry changes in the six tables whose rows have a version, row by row.
use Rattle.std.proofs.Common.{◌≡◌, ◌+◌, ◌-◌, ℕ, true, false, not, cond, List, Option, Some, None, refl, ◌⊎◌, inl, inr, nat_eq}
use Rattle.std.specs.Ordering.{is_eq, nat_cmp}
use Rattle.hb_base.specs.Tables.{Rises, row_at, without_key, changed_at}
use Rattle.hb_base.proofs.TableLaws.{row_at-with, row_at-without, row_at-changed}
use Rattle.hb_text.specs.declared.digests.Digest.{Digest}
use Rattle.hb_text.specs.Names.{project_of}
use Rattle.hb_text.specs.Orders.{text_cmp}
use Rattle.hb_text.proofs.KeyOrders.{text_cmp-order}
use Rattle.hb_records.specs.Orders.{NamedDigest, NamedTag, named_digest_cmp, named_tag_cmp, project_key, artifact_key, tag_key, upload_key, job_key}
use Rattle.hb_records.proofs.KeyOrders.{nat_cmp-order, named_digest_cmp-order, named_tag_cmp-order}
use Rattle.hb_records.specs.declared.entries.EntryKind.{EntryKind}
use Rattle.hb_records.specs.declared.entries.EntryKind.TheVariants.{ProjectMade, LimitSet, RulesSet, UploadBegun, UploadGrown, UploadEnded, Associated, Touched, Unassociated, ArtifactPut, ArtifactDropped, TagDropped, Pulled, JobQueued, JobClaimed, GcMarked, Taking, Collected, GcSkipped, Adopted, GcDone, RetainBegun, RetainTurn, RetainDone}
use Rattle.hb_records.specs.declared.jobs.JobRow.{JobRow}
use Rattle.hb_records.specs.declared.jobs.Phase.TheVariants as phase
use Rattle.hb_records.specs.declared.records.Artifact.{Artifact}
use Rattle.hb_records.specs.declared.records.Assoc.{Assoc}
use Rattle.hb_records.specs.declared.records.Blob.{Blob}
use Rattle.hb_records.specs.declared.records.Project.{Project}
use Rattle.hb_records.specs.declared.records.TagRow.{TagRow}
use Rattle.hb_records.specs.declared.records.Upload.{Upload}
use Rattle.hb_rows.specs.Tables.{Tables, project_at, blob_at, pair_at, artifact_at, tag_at, upload_at, job_at}
use Rattle.hb_model.specs.ArtifactEffects.{other_refs, artifacts_with, tags_with, pushed_artifact, pulled_artifact, names_artifact}
use Rattle.hb_model.specs.BlobEffects.{idle_row, touched_blob, taken_blob, failed_blob, projects_with, projects_without}
use Rattle.hb_model.specs.BlobRows.{changed_if, row_after}
use Rattle.hb_model.specs.CollectEffects.{marked_blob, marked_job, is_failure}
use Rattle.hb_model.specs.Effects.{effect, rows_of}
use Rattle.hb_model.specs.JobEffects.{claimed_phase}
use Rattle.hb_model.specs.ProjectEffects.{new_project, with_used}
use Rattle.hb_model.specs.RetainEffects.{is_drop}
use Rattle.hb_model.specs.Words.{same_digest, among}
use Rattle.hb_model.proofs.Batches.{rows-tables, history-numbered}
use Rattle.hb_model.proofs.BlobRows.{blob_at-after}
use Rattle.hb_model.proofs.ContentBatches.{used-name}
use Rattle.hb_history.specs.Versions.{VersionsNeverComeBack}
use Rattle.hb_history.proofs.FoundRows.{found_passing}
use Rattle.hb_history.proofs.VersionMoves.{Moved, moved-same, moved-set, moved-changed, moved-dropped, moved-found, moved-then, same-version}

-- ---- projects
abbrev project_version : Project → ℕ
project_version row = row.version

used-moves : (n : ℕ) (f : ℕ → ℕ) (row : Project) → (with_used n f row ≡ row) ⊎ ((with_used n f row).version ≡ n)
used-moves n f row = elim (nat_eq (f row.used) row.used) as (λ b. (cond b row (record row { used = f row.used; version = n }) ≡ row) ⊎ ((cond b row (record row { used = f row.used; version = n })).version ≡ n)) [ true ↦ inl refl | false ↦ inr refl ]

project-changed : (n : ℕ) (key p : List ℕ) (f : Project → Project) → ((row : Project) → (f row).name ≡ row.name) → ((row : Project) → (f row ≡ row) ⊎ ((f row).version ≡ n)) → (t : Tables) → Moved project_version n (project_at t key) (row_at text_cmp project_key key (changed_at text_cmp project_key p f t.projects))
project-changed n key p f keeps moves t = moved-found project_version n _ _ _ (row_at-changed text_cmp-order.total project_key key p f keeps t.projects) (moved-changed project_version n (is_eq (text_cmp key p)) f (project_at t key) moves)

project-more : (n : ℕ) (key p : List ℕ) (s : ℕ) (x : Option Assoc) (t : Tables) → Moved project_version n (project_at t key) (row_at text_cmp project_key key (projects_with n p s x t.projects))
project-more n key p s None t = project-changed n key p (with_used n (λ used. used + s)) (used-name n (λ used. used + s)) (used-moves n (λ used. used + s)) t
project-more n key p s (Some row) t = moved-same project_version n (project_at t key)

project-less : (n : ℕ) (key p : List ℕ) (x : Option Assoc) (t : Tables) → Moved project_version n (project_at t key) (row_at text_cmp project_key key (projects_without n p x t.projects))
project-less n key p None t = moved-same project_version n (project_at t key)
project-less n key p (Some row) t = project-changed n key p (with_used n (λ used. used - row.size)) (used-name n (λ used. used - row.size)) (used-moves n (λ used. used - row.size)) t

project-moved : (key : List ℕ) (n moment : ℕ) (kind : EntryKind) (t : Tables) → Moved project_version n (project_at t key) (project_at (effect n moment kind t) key)
project-moved key n moment (ProjectMade project limit) t = moved-found project_version n _ _ _ (row_at-with text_cmp-order.total project_key key (new_project n project limit) t.projects) (moved-set project_version n (is_eq (text_cmp key project)) (new_project n project limit) (project_at t key) refl)
project-moved key n moment (LimitSet project limit) t = project-changed n key project (λ row. record row { limit = limit; version = n }) (λ row. refl) (λ row. inr refl) t
project-moved key n moment (RulesSet project rules) t = project-changed n key project (λ row. record row { rules = rules; version = n }) (λ row. refl) (λ row. inr refl) t
project-moved key n moment (Associated project digest size) t = project-more n key project size (pair_at t project digest) t
project-moved key n moment (ArtifactPut name digest size media refs children tag) t = project-more n key (project_of name) size (pair_at t (project_of name) digest) t
project-moved key n moment (Unassociated job project digest) t = project-less n key project (pair_at t project digest) t
project-moved key n moment _ t = moved-same project_version n (project_at t key)

-- ---- blobs
abbrev blob_version : Blob → ℕ
blob_version row = row.version

blob-moved : (d : Digest) (n moment : ℕ) (kind : EntryKind) (x : Option Blob) → Moved blob_version n x (row_after d n moment kind x)
blob-moved d n moment (Associated project digest size) x = moved-set blob_version n (same_digest d digest) (idle_row n moment digest size) x refl
blob-moved d n moment (Touched project digest) x = moved-changed blob_version n (same_digest d digest) (touched_blob n moment) x (λ row. inr refl)
blob-moved d n moment (ArtifactPut name digest size media refs children tag) x = moved-then blob_version n x _ _ (moved-set blob_version n (same_digest d digest) (idle_row n moment digest size) x refl) (moved-changed blob_version n (among d (other_refs digest refs)) (touched_blob n moment) _ (λ row. inr refl))
blob-moved d n moment (GcMarked job digests barred upto last) x = moved-changed blob_version n (among d digests) (marked_blob n) x (λ row. inr refl)
blob-moved d n moment (Taking job digest) x = moved-changed blob_version n (same_digest d digest) (taken_blob n moment) x (λ row. inr refl)
blob-moved d n moment (Collected job digest) x = moved-dropped blob_version n (same_digest d digest) x
blob-moved d n moment (GcSkipped job digest why) x = elim (is_failure why) as (λ b. Moved blob_version n x (cond b (changed_if (same_digest d digest) (failed_blob n) x) x)) [ true ↦ moved-changed blob_version n (same_digest d digest) (failed_blob n) x (λ row. inr refl) | false ↦ moved-same blob_version n x ]
blob-moved d n moment (Adopted job digest size) x = moved-set blob_version n (same_digest d digest) (idle_row n moment digest size) x refl
blob-moved d n moment _ x = moved-same blob_version n x

-- ---- artifacts
abbrev artifact_version : Artifact → ℕ
artifact_version row = row.version

abbrev artifact_by : Tables → NamedDigest → Option Artifact
artifact_by t key = artifact_at t key.0 key.1

artifact-changed : (n : ℕ) (key at : NamedDigest) (f : Artifact → Artifact) → ((row : Artifact) → artifact_key (f row) ≡ artifact_key row) → ((row : Artifact) → (f row).version ≡ n) → (t : Tables) → Moved artifact_version n (artifact_by t key) (row_at named_digest_cmp artifact_key key (changed_at named_digest_cmp artifact_key at f t.artifacts))
artifact-changed n key at f keeps moves t = moved-found artifact_version n _ _ _ (row_at-changed named_digest_cmp-order.total artifact_key key at f keeps t.artifacts) (moved-changed artifact_version n (is_eq (named_digest_cmp key at)) f (artifact_by t key) (λ row. inr (moves row)))

artifact-put : (n moment : ℕ) (name : List ℕ) (digest : Digest) (size : ℕ) (media : List ℕ) (refs children : List Digest) (x : Option Artifact) (t : Tables) (key : NamedDigest) → Moved artifact_version n (artifact_by t key) (row_at named_digest_cmp artifact_key key (artifacts_with n moment name digest size media refs children x t.artifacts))
artifact-put n moment name digest size media refs children None t key =
    let new : Artifact = record { name = name; digest = digest; size = size; media = media; refs = refs; children = children; pushed = moment; pulled = 0; version = n } in
    moved-found artifact_version n _ _ _ (row_at-with named_digest_cmp-order.total artifact_key key new t.artifacts) (moved-set artifact_version n (is_eq (named_digest_cmp key (name, digest))) new (artifact_by t key) refl)
artifact-put n moment name digest size media refs children (Some row) t key = artifact-changed n key (name, digest) (pushed_artifact n moment) (λ row. refl) (λ row. refl) t

artifact-moved : (key : NamedDigest) (n moment : ℕ) (kind : EntryKind) (t : Tables) → Moved artifact_version n (artifact_by t key) (artifact_by (effect n moment kind t) key)
artifact-moved key n moment (ArtifactPut name digest size media refs children tag) t = artifact-put n moment name digest size media refs children (artifact_at t name digest) t key
artifact-moved key n moment (ArtifactDropped job name digest) t = moved-found artifact_version n _ _ _ (row_at-without named_digest_cmp-order.total artifact_key key (name, digest) t.artifacts) (moved-dropped artifact_version n (is_eq (named_digest_cmp key (name, digest))) (artifact_by t key))
artifact-moved key n moment (Pulled name digest) t = artifact-changed n key (name, digest) (pulled_artifact n moment) (λ row. refl) (λ row. refl) t
artifact-moved key n moment _ t = moved-same artifact_version n (artifact_by t key)

-- ---- tags
abbrev tag_version : TagRow → ℕ
tag_version row = row.version

abbrev tag_by : Tables → NamedTag → Option TagRow
tag_by t key = tag_at t key.0 key.1

tag-put : (n moment : ℕ) (name : List ℕ) (digest : Digest) (tag : Option (List ℕ)) (t : Tables) (key : NamedTag) → Moved tag_version n (tag_by t key) (row_at named_tag_cmp tag_key key (tags_with n moment name digest tag t.tags))
tag-put n moment name digest None t key = moved-same tag_version n (tag_by t key)
tag-put n moment name digest (Some tag) t key =
    let new : TagRow = record { name = name; tag = tag; digest = digest; pushed = moment; version = n } in
    moved-found tag_version n _ _ _ (row_at-with named_tag_cmp-order.total tag_key key new t.tags) (moved-set tag_version n (is_eq (named_tag_cmp key (name, tag))) new (tag_by t key) refl)

tag-dropped : (n : ℕ) (key at : NamedTag) (t : Tables) → Moved tag_version n (tag_by t key) (row_at named_tag_cmp tag_key key (without_key named_tag_cmp tag_key at t.tags))
tag-dropped n key at t = moved-found tag_version n _ _ _ (row_at-without named_tag_cmp-order.total tag_key key at t.tags) (moved-dropped tag_version n (is_eq (named_tag_cmp key at)) (tag_by t key))

tag-moved : (key : NamedTag) (n moment : ℕ) (kind : EntryKind) (t : Tables) → Rises named_tag_cmp tag_key t.tags → Moved tag_version n (tag_by t key) (tag_by (effect n moment kind t) key)
tag-moved key n moment (ArtifactPut name digest size media refs children tag) t h = tag-put n moment name digest tag t key
tag-moved key n moment (ArtifactDropped job name digest) t h = λ row found. inl (found_passing named_tag_cmp-order.total tag_key key (λ row. not (names_artifact name digest row)) t.tags h row found)
tag-moved key n moment (TagDropped name tag) t h = tag-dropped n key (name, tag) t
tag-moved key n moment (RetainTurn job name tag given) t h = elim (is_drop given) as (λ b. Moved tag_version n (tag_by t key) (row_at named_tag_cmp tag_key key (cond b (without_key named_tag_cmp tag_key (name, tag) t.tags) t.tags))) [ true ↦ tag-dropped n key (name, tag) t | false ↦ moved-same tag_version n (tag_by t key) ]
tag-moved key n moment _ t h = moved-same tag_version n (tag_by t key)

-- ---- uploads
abbrev upload_version : Upload → ℕ
upload_version row = row.version

upload-moved : (id n moment : ℕ) (kind : EntryKind) (t : Tables) → Moved upload_version n (upload_at t id) (upload_at (effect n moment kind t) id)
upload-moved id n moment (UploadBegun name) t =
    let new : Upload = record { id = n; name = name; offset = 0; touched = moment; version = n } in
    moved-found upload_version n _ _ _ (row_at-with nat_cmp-order.total upload_key id new t.uploads) (moved-set upload_version n (is_eq (nat_cmp id n)) new (upload_at t id) refl)
upload-moved id n moment (UploadGrown upload offset) t =
    let grown : Upload → Upload = λ row. record row { offset = offset; touched = moment; version = n } in
    moved-found upload_version n _ _ _ (row_at-changed nat_cmp-order.total upload_key id upload grown (λ row. refl) t.uploads) (moved-changed upload_version n (is_eq (nat_cmp id upload)) grown (upload_at t id) (λ row. inr refl))
upload-moved id n moment (UploadEnded job upload) t = moved-found upload_version n _ _ _ (row_at-without nat_cmp-order.total upload_key id upload t.uploads) (moved-dropped upload_version n (is_eq (nat_cmp id upload)) (upload_at t id))
upload-moved id n moment _ t = moved-same upload_version n (upload_at t id)

-- ---- jobs
abbrev job_version : JobRow → ℕ
job_version row = row.version

job-changed : (n id job : ℕ) (f : JobRow → JobRow) → ((row : JobRow) → (f row).number ≡ row.number) → ((row : JobRow) → (f row).version ≡ n) → (t : Tables) → Moved job_version n (job_at t id) (row_at nat_cmp job_key id (changed_at nat_cmp job_key job f t.jobs))
job-changed n id job f keeps moves t = moved-found job_version n _ _ _ (row_at-changed nat_cmp-order.total job_key id job f keeps t.jobs) (moved-changed job_version n (is_eq (nat_cmp id job)) f (job_at t id) (λ row. inr (moves row)))

job-moved : (id n moment : ℕ) (kind : EntryKind) (t : Tables) → Moved job_version n (job_at t id) (job_at (effect n moment kind t) id)
job-moved id n moment (JobQueued kind) t =
    let new : JobRow = record { number = n; kind = kind; phase = phase.Queued; cursor = None; claimed = 0; barred = 0; version = n } in
    moved-found job_version n _ _ _ (row_at-with nat_cmp-order.total job_key id new t.jobs) (moved-set job_version n (is_eq (nat_cmp id n)) new (job_at t id) refl)
job-moved id n moment (JobClaimed job) t = job-changed n id job (λ row. record row { phase = claimed_phase row.phase; claimed = n; version = n }) (λ row. refl) (λ row. refl) t
job-moved id n moment (GcMarked job digests barred upto last) t = job-changed n id job (marked_job n barred upto last) (λ row. refl) (λ row. refl) t
job-moved id n moment (GcDone job) t = job-changed n id job (λ row. record row { phase = phase.Finished; version = n }) (λ row. refl) (λ row. refl) t
job-moved id n moment (RetainBegun job) t = job-changed n id job (λ row. record row { phase = phase.Turning; version = n }) (λ row. refl) (λ row. refl) t
job-moved id n moment (RetainDone job) t = job-changed n id job (λ row. record row { phase = phase.Finished; version = n }) (λ row. refl) (λ row. refl) t
job-moved id n moment _ t = moved-same job_version n (job_at t id)

-- ---- the law
pub versions-rest : VersionsNeverComeBack
versions-rest = record {
  projects = λ newer j legal key. same-version project_version (λ j. project_at (rows_of j) key) refl (λ e j old. project-moved key e.number e.moment e.kind (rows_of j)) newer j legal;
  blobs = λ newer j legal key. same-version blob_version (λ j. blob_at (rows_of j) key) refl (λ e j old. moved-found blob_version e.number _ _ _ (blob_at-after key (rows_of j) e.number e.moment e.kind) (blob-moved key e.number e.moment e.kind (blob_at (rows_of j) key))) newer j legal;
  artifacts = λ newer j legal key. same-version artifact_version (λ j. artifact_by (rows_of j) key) refl (λ e j old. artifact-moved key e.number e.moment e.kind (rows_of j)) newer j legal;
  tags = λ newer j legal key. same-version tag_version (λ j. tag_by (rows_of j) key) refl (λ e j old. tag-moved key e.number e.moment e.kind (rows_of j) (rows-tables j (history-numbered j old)).tags) newer j legal;
  uploads = λ newer j legal key. same-version upload_version (λ j. upload_at (rows_of j) key) refl (λ e j old. upload-moved key e.number e.moment e.kind (rows_of j)) newer j legal;
  jobs = λ newer j legal key. same-version job_version (λ j. job_at (rows_of j) key) refl (λ e j old. job-moved key e.number e.moment e.kind (rows_of j)) newer j legal;
}
