-- Changes of a batch on the tables. To set a row that was found, as a change makes it, is to change the row of its key.
-- What was found may come from older tables than those that are changed, where the change makes the same of both.
use Rattle.std.proofs.Common.{◌≡◌, ℕ, List, ◌++◌, Option, Some, None, option_map, refl, ap, ◌∙◌}
use Rattle.std.proofs.lemmas.List.Sums.{fold-append}
use Rattle.std.specs.Ordering.{nat_cmp}
use Rattle.hb_base.specs.Tables.{Rises, changed_at}
use Rattle.hb_base.proofs.TableLaws.{set_found, set_found-changed}
use Rattle.hb_text.specs.Orders.{digest_cmp, text_cmp}
use Rattle.hb_text.specs.declared.digests.Digest.{Digest}
use Rattle.hb_text.proofs.KeyOrders.{digest_cmp-order, text_cmp-order}
use Rattle.hb_records.specs.Orders.{artifact_key, blob_key, candidate_key, job_digest_cmp, job_key, job_tag_cmp, named_digest_cmp, pair_key, project_key, snap_key, upload_key}
use Rattle.hb_records.specs.declared.batches.Change.{Change}
use Rattle.hb_records.specs.declared.batches.Change.TheVariants.{Set}
use Rattle.hb_records.specs.declared.batches.Row.TheVariants as row
use Rattle.hb_records.specs.declared.jobs.Candidate.{Candidate}
use Rattle.hb_records.specs.declared.jobs.JobRow.{JobRow}
use Rattle.hb_records.specs.declared.jobs.SnapTag.{SnapTag}
use Rattle.hb_records.specs.declared.records.Artifact.{Artifact}
use Rattle.hb_records.specs.declared.records.Assoc.{Assoc}
use Rattle.hb_records.specs.declared.records.Blob.{Blob}
use Rattle.hb_records.specs.declared.records.Project.{Project}
use Rattle.hb_records.specs.declared.records.Upload.{Upload}
use Rattle.hb_records.proofs.KeyOrders.{job_digest_cmp-order, job_tag_cmp-order, named_digest_cmp-order, nat_cmp-order}
use Rattle.hb_rows.specs.Batches.{after_change, after_changes}
use Rattle.hb_rows.specs.Tables.{Tables, artifact_at, blob_at, candidate_at, job_at, pair_at, project_at, snap_at, upload_at}
use Rattle.hb_model.specs.ContentChanges.{on_row}

-- one part of the changes and then another
pub then-changes : (t u v : Tables) (xs ys : List Change) → after_changes t xs ≡ u → after_changes u ys ≡ v → after_changes t (xs ++ ys) ≡ v
then-changes t u v xs ys e f = fold-append after_change t xs ys ∙ ap (λ w. after_changes w ys) e ∙ f

pub project-changed : (t : Tables) (name : List ℕ) (f : Project → Project) → ((r : Project) → project_key (f r) ≡ project_key r) → Rises text_cmp project_key t.projects → (x : Option Project) → option_map f (project_at t name) ≡ option_map f x → after_changes t (on_row x (λ r. Set (row.Project (f r)))) ≡ record t { projects = changed_at text_cmp project_key name f t.projects }
project-changed t name f keeps rise x same =
    elim x as (λ x. after_changes t (on_row x (λ r. Set (row.Project (f r)))) ≡ record t { projects = set_found text_cmp-order.total project_key f x t.projects }) [ None ↦ refl | Some r ↦ refl ]
    ∙ ap (λ rows. record t { projects = rows }) (set_found-changed text_cmp-order.total project_key name f keeps t.projects rise x same)

pub blob-changed : (t : Tables) (d : Digest) (f : Blob → Blob) → ((r : Blob) → blob_key (f r) ≡ blob_key r) → Rises digest_cmp blob_key t.blobs → (x : Option Blob) → option_map f (blob_at t d) ≡ option_map f x → after_changes t (on_row x (λ r. Set (row.Blob (f r)))) ≡ record t { blobs = changed_at digest_cmp blob_key d f t.blobs }
blob-changed t d f keeps rise x same =
    elim x as (λ x. after_changes t (on_row x (λ r. Set (row.Blob (f r)))) ≡ record t { blobs = set_found digest_cmp-order.total blob_key f x t.blobs }) [ None ↦ refl | Some r ↦ refl ]
    ∙ ap (λ rows. record t { blobs = rows }) (set_found-changed digest_cmp-order.total blob_key d f keeps t.blobs rise x same)

pub pair-changed : (t : Tables) (project : List ℕ) (d : Digest) (f : Assoc → Assoc) → ((r : Assoc) → pair_key (f r) ≡ pair_key r) → Rises named_digest_cmp pair_key t.pairs → (x : Option Assoc) → option_map f (pair_at t project d) ≡ option_map f x → after_changes t (on_row x (λ r. Set (row.Pair (f r)))) ≡ record t { pairs = changed_at named_digest_cmp pair_key (project, d) f t.pairs }
pair-changed t project d f keeps rise x same =
    elim x as (λ x. after_changes t (on_row x (λ r. Set (row.Pair (f r)))) ≡ record t { pairs = set_found named_digest_cmp-order.total pair_key f x t.pairs }) [ None ↦ refl | Some r ↦ refl ]
    ∙ ap (λ rows. record t { pairs = rows }) (set_found-changed named_digest_cmp-order.total pair_key (project, d) f keeps t.pairs rise x same)

pub artifact-changed : (t : Tables) (name : List ℕ) (d : Digest) (f : Artifact → Artifact) → ((r : Artifact) → artifact_key (f r) ≡ artifact_key r) → Rises named_digest_cmp artifact_key t.artifacts → (x : Option Artifact) → option_map f (artifact_at t name d) ≡ option_map f x → after_changes t (on_row x (λ r. Set (row.Artifact (f r)))) ≡ record t { artifacts = changed_at named_digest_cmp artifact_key (name, d) f t.artifacts }
artifact-changed t name d f keeps rise x same =
    elim x as (λ x. after_changes t (on_row x (λ r. Set (row.Artifact (f r)))) ≡ record t { artifacts = set_found named_digest_cmp-order.total artifact_key f x t.artifacts }) [ None ↦ refl | Some r ↦ refl ]
    ∙ ap (λ rows. record t { artifacts = rows }) (set_found-changed named_digest_cmp-order.total artifact_key (name, d) f keeps t.artifacts rise x same)

pub upload-changed : (t : Tables) (id : ℕ) (f : Upload → Upload) → ((r : Upload) → upload_key (f r) ≡ upload_key r) → Rises nat_cmp upload_key t.uploads → (x : Option Upload) → option_map f (upload_at t id) ≡ option_map f x → after_changes t (on_row x (λ r. Set (row.Upload (f r)))) ≡ record t { uploads = changed_at nat_cmp upload_key id f t.uploads }
upload-changed t id f keeps rise x same =
    elim x as (λ x. after_changes t (on_row x (λ r. Set (row.Upload (f r)))) ≡ record t { uploads = set_found nat_cmp-order.total upload_key f x t.uploads }) [ None ↦ refl | Some r ↦ refl ]
    ∙ ap (λ rows. record t { uploads = rows }) (set_found-changed nat_cmp-order.total upload_key id f keeps t.uploads rise x same)

pub job-changed : (t : Tables) (job : ℕ) (f : JobRow → JobRow) → ((r : JobRow) → job_key (f r) ≡ job_key r) → Rises nat_cmp job_key t.jobs → (x : Option JobRow) → option_map f (job_at t job) ≡ option_map f x → after_changes t (on_row x (λ r. Set (row.Job (f r)))) ≡ record t { jobs = changed_at nat_cmp job_key job f t.jobs }
job-changed t job f keeps rise x same =
    elim x as (λ x. after_changes t (on_row x (λ r. Set (row.Job (f r)))) ≡ record t { jobs = set_found nat_cmp-order.total job_key f x t.jobs }) [ None ↦ refl | Some r ↦ refl ]
    ∙ ap (λ rows. record t { jobs = rows }) (set_found-changed nat_cmp-order.total job_key job f keeps t.jobs rise x same)

pub candidate-changed : (t : Tables) (job : ℕ) (d : Digest) (f : Candidate → Candidate) → ((r : Candidate) → candidate_key (f r) ≡ candidate_key r) → Rises job_digest_cmp candidate_key t.candidates → (x : Option Candidate) → option_map f (candidate_at t job d) ≡ option_map f x → after_changes t (on_row x (λ r. Set (row.Candidate (f r)))) ≡ record t { candidates = changed_at job_digest_cmp candidate_key (job, d) f t.candidates }
candidate-changed t job d f keeps rise x same =
    elim x as (λ x. after_changes t (on_row x (λ r. Set (row.Candidate (f r)))) ≡ record t { candidates = set_found job_digest_cmp-order.total candidate_key f x t.candidates }) [ None ↦ refl | Some r ↦ refl ]
    ∙ ap (λ rows. record t { candidates = rows }) (set_found-changed job_digest_cmp-order.total candidate_key (job, d) f keeps t.candidates rise x same)

pub snap-changed : (t : Tables) (job : ℕ) (name tag : List ℕ) (f : SnapTag → SnapTag) → ((r : SnapTag) → snap_key (f r) ≡ snap_key r) → Rises job_tag_cmp snap_key t.snaps → (x : Option SnapTag) → option_map f (snap_at t job name tag) ≡ option_map f x → after_changes t (on_row x (λ r. Set (row.Snap (f r)))) ≡ record t { snaps = changed_at job_tag_cmp snap_key (job, (name, tag)) f t.snaps }
snap-changed t job name tag f keeps rise x same =
    elim x as (λ x. after_changes t (on_row x (λ r. Set (row.Snap (f r)))) ≡ record t { snaps = set_found job_tag_cmp-order.total snap_key f x t.snaps }) [ None ↦ refl | Some r ↦ refl ]
    ∙ ap (λ rows. record t { snaps = rows }) (set_found-changed job_tag_cmp-order.total snap_key (job, (name, tag)) f keeps t.snaps rise x same)
