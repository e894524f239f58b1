-- What clients see of the rows of an audit is what its replay gives.
use Rattle.std.proofs.Common.{◌≡◌, ℕ, ◌+◌, ◌-◌, nat_eq, true, false, not, cond, List, [], ◌∷◌, map, fold, Option, Some, None, option_map, refl, sym, ap, ◌∙◌}
use Rattle.std.specs.Ordering.{nat_cmp}
use Rattle.hb_base.specs.Tables.{with_row, without_key}
use Rattle.hb_base.proofs.MappedTables.{map-changed, map-filter, map-unseen, map-with, map-without, row_at-map}
use Rattle.hb_text.specs.Names.{project_of}
use Rattle.hb_text.specs.Orders.{digest_cmp, text_cmp}
use Rattle.hb_text.specs.declared.digests.Digest.{Digest}
use Rattle.hb_records.specs.Entries.{AuditEntry}
use Rattle.hb_records.specs.Orders.{named_digest_cmp, named_tag_cmp}
use Rattle.hb_records.specs.Orders as rows
use Rattle.hb_records.specs.declared.entries.EntryKind.{EntryKind}
use Rattle.hb_records.specs.declared.entries.EntryKind.TheVariants.{ProjectMade, LimitSet, RulesSet, UploadBegun, UploadGrown, UploadEnded, Associated, Touched, Unassociated, ArtifactPut, ArtifactDropped, TagDropped, Pulled, JobQueued, JobClaimed, GcMarked, Taking, Collected, GcSkipped, Adopted, GcDone, RetainBegun, RetainTurn, RetainDone}
use Rattle.hb_records.specs.declared.records.Artifact.{Artifact}
use Rattle.hb_records.specs.declared.records.Assoc.{Assoc}
use Rattle.hb_records.specs.declared.records.Blob.{Blob}
use Rattle.hb_records.specs.declared.records.Project.{Project}
use Rattle.hb_records.specs.declared.records.TagRow.{TagRow}
use Rattle.hb_rows.specs.Tables.{Tables, artifact_at, pair_at}
use Rattle.hb_model.specs.ArtifactEffects as artifact
use Rattle.hb_model.specs.BlobEffects as blob
use Rattle.hb_model.specs.CollectEffects as collect
use Rattle.hb_model.specs.Effects.{effect, rows_of}
use Rattle.hb_model.specs.ProjectEffects.{with_used}
use Rattle.hb_model.specs.Registry.{artifact_in, artifact_key, pair_in, pair_key, project_name, stored_key, tag_key, upload_key}
use Rattle.hb_model.specs.Replay.{artifacts_with, names_artifact, pairs_with, replay, step, tags_with}
use Rattle.hb_model.specs.RetainEffects.{is_drop}
use Rattle.hb_model.specs.Seen.{seen, seen_artifact, seen_blob, seen_pair, seen_project, seen_tag, seen_upload}

-- ---- each table
used_unseen : (n : ℕ) (f : ℕ → ℕ) (r : Project) → seen_project (with_used n f r) ≡ seen_project r
used_unseen n f r = elim (nat_eq (f r.used) r.used) as (λ b. seen_project (cond b r (record r { used = f r.used; version = n })) ≡ seen_project r) [ true ↦ refl | false ↦ refl ]

projects-with : (n : ℕ) (p : List ℕ) (s : ℕ) (x : Option Assoc) (rs : List Project) → map seen_project (blob.projects_with n p s x rs) ≡ map seen_project rs
projects-with n p s None rs = map-unseen text_cmp rows.project_key seen_project p (with_used n (λ used. used + s)) (used_unseen n (λ used. used + s)) rs
projects-with n p s (Some r) rs = refl

projects-without : (n : ℕ) (p : List ℕ) (x : Option Assoc) (rs : List Project) → map seen_project (blob.projects_without n p x rs) ≡ map seen_project rs
projects-without n p None rs = refl
projects-without n p (Some r) rs = map-unseen text_cmp rows.project_key seen_project p (with_used n (λ used. used - r.size)) (used_unseen n (λ used. used - r.size)) rs

pairs-touched : (moment : ℕ) (p : List ℕ) (d : Digest) (rs : List Assoc) → map seen_pair (blob.touch_pairs moment p d rs) ≡ map seen_pair rs
pairs-touched moment p d = map-unseen named_digest_cmp rows.pair_key seen_pair (p, d) (blob.touched_pair moment) (λ r. refl)

blobs-touched : (n moment : ℕ) (d : Digest) (rs : List Blob) → map seen_blob (blob.touch_blobs n moment d rs) ≡ map seen_blob rs
blobs-touched n moment d = map-unseen digest_cmp rows.blob_key seen_blob d (blob.touched_blob n moment) (λ r. refl)

pairs-with : (moment : ℕ) (p : List ℕ) (d : Digest) (s : ℕ) (x : Option Assoc) (rs : List Assoc) → map seen_pair (blob.pairs_with moment p d s x rs) ≡ pairs_with p d s (option_map seen_pair x) (map seen_pair rs)
pairs-with moment p d s None rs = map-with named_digest_cmp rows.pair_key pair_key seen_pair (λ r. refl) _ rs
pairs-with moment p d s (Some r) rs = pairs-touched moment p d rs

pair-seen : (t : Tables) (p : List ℕ) (d : Digest) → option_map seen_pair (pair_at t p d) ≡ pair_in (seen t) p d
pair-seen t p d = sym (row_at-map named_digest_cmp rows.pair_key pair_key seen_pair (λ r. refl) (p, d) t.pairs)

artifact-seen : (t : Tables) (p : List ℕ) (d : Digest) → option_map seen_artifact (artifact_at t p d) ≡ artifact_in (seen t) p d
artifact-seen t p d = sym (row_at-map named_digest_cmp rows.artifact_key artifact_key seen_artifact (λ r. refl) (p, d) t.artifacts)

blobs-with : (n moment : ℕ) (d : Digest) (s : ℕ) (rs : List Blob) → map seen_blob (with_row digest_cmp rows.blob_key (blob.idle_row n moment d s) rs) ≡ with_row digest_cmp stored_key (record { digest = d; size = s }) (map seen_blob rs)
blobs-with n moment d s rs = map-with digest_cmp rows.blob_key stored_key seen_blob (λ r. refl) (blob.idle_row n moment d s) rs

artifacts-with : (n moment : ℕ) (name : List ℕ) (d : Digest) (s : ℕ) (media : List ℕ) (refs children : List Digest) (x : Option Artifact) (rs : List Artifact) → map seen_artifact (artifact.artifacts_with n moment name d s media refs children x rs) ≡ artifacts_with moment name d s media refs children (option_map seen_artifact x) (map seen_artifact rs)
artifacts-with n moment name d s media refs children None rs = map-with named_digest_cmp rows.artifact_key artifact_key seen_artifact (λ r. refl) _ rs
artifacts-with n moment name d s media refs children (Some r) rs = map-changed named_digest_cmp rows.artifact_key artifact_key seen_artifact (λ r. refl) (name, d) (artifact.pushed_artifact n moment) (λ x. record x { pushed = moment }) (λ r. refl) rs

tags-with : (n moment : ℕ) (name : List ℕ) (d : Digest) (x : Option (List ℕ)) (rs : List TagRow) → map seen_tag (artifact.tags_with n moment name d x rs) ≡ tags_with n moment name d x (map seen_tag rs)
tags-with n moment name d None rs = refl
tags-with n moment name d (Some tag) rs = map-with named_tag_cmp rows.tag_key tag_key seen_tag (λ r. refl) _ rs

tag-dropped : (name tag : List ℕ) (rs : List TagRow) → map seen_tag (without_key named_tag_cmp rows.tag_key (name, tag) rs) ≡ without_key named_tag_cmp tag_key (name, tag) (map seen_tag rs)
tag-dropped name tag = map-without named_tag_cmp rows.tag_key tag_key seen_tag (λ r. refl) (name, tag)

-- what is done again and again, and isn't seen
fold-unseen : {A B X : Type 0} (f : List A → List B) (g : List A → X → List A) → ((rs : List A) (x : X) → f (g rs x) ≡ f rs) → (rs : List A) (xs : List X) → f (fold g rs xs) ≡ f rs
fold-unseen f g same rs [] = refl
fold-unseen f g same rs (x ∷ xs) = fold-unseen f g same (g rs x) xs ∙ same rs x

-- ---- each entry
seen-step : (t : Tables) (n moment : ℕ) (kind : EntryKind) → seen (effect n moment kind t) ≡ step n moment kind (seen t)
seen-step t n moment (ProjectMade project limit) = ap (λ x. record (seen t) { projects = x }) (map-with text_cmp rows.project_key project_name seen_project (λ r. refl) _ t.projects)
seen-step t n moment (LimitSet project limit) = ap (λ x. record (seen t) { projects = x }) (map-changed text_cmp rows.project_key project_name seen_project (λ r. refl) project _ (λ x. record x { limit = limit }) (λ r. refl) t.projects)
seen-step t n moment (RulesSet project rules) = ap (λ x. record (seen t) { projects = x }) (map-changed text_cmp rows.project_key project_name seen_project (λ r. refl) project _ (λ x. record x { rules = rules }) (λ r. refl) t.projects)
seen-step t n moment (UploadBegun name) = ap (λ x. record (seen t) { uploads = x }) (map-with nat_cmp rows.upload_key upload_key seen_upload (λ r. refl) _ t.uploads)
seen-step t n moment (UploadGrown upload offset) = ap (λ x. record (seen t) { uploads = x }) (map-changed nat_cmp rows.upload_key upload_key seen_upload (λ r. refl) upload _ (λ x. record x { offset = offset }) (λ r. refl) t.uploads)
seen-step t n moment (UploadEnded job upload) = ap (λ x. record (seen t) { uploads = x }) (map-without nat_cmp rows.upload_key upload_key seen_upload (λ r. refl) upload t.uploads)
seen-step t n moment (Associated project digest size) =
    let e = projects-with n project size (pair_at t project digest) t.projects in
    let f = pairs-with moment project digest size (pair_at t project digest) t.pairs ∙ ap (λ x. pairs_with project digest size x (map seen_pair t.pairs)) (pair-seen t project digest) in
    let g = blobs-with n moment digest size t.blobs in
    λ i. record (seen t) { projects = e i; pairs = f i; stored = g i }
seen-step t n moment (Touched project digest) =
    let f = pairs-touched moment project digest t.pairs in
    let g = blobs-touched n moment digest t.blobs in
    λ i. record (seen t) { pairs = f i; stored = g i }
seen-step t n moment (Unassociated job project digest) =
    let e = projects-without n project (pair_at t project digest) t.projects in
    let f = map-without named_digest_cmp rows.pair_key pair_key seen_pair (λ r. refl) (project, digest) t.pairs in
    λ i. record (seen t) { projects = e i; pairs = f i }
seen-step t n moment (ArtifactPut name digest size media refs children tag) =
    let p = project_of name in
    let own = blob.associate n moment p digest size t in
    let e = projects-with n p size (pair_at t p digest) t.projects in
    let f = fold-unseen (map seen_pair) (λ rs ref. blob.touch_pairs moment p ref rs) (λ rs ref. pairs-touched moment p ref rs) own.pairs (artifact.other_refs digest refs)
    ∙ pairs-with moment p digest size (pair_at t p digest) t.pairs ∙ ap (λ x. pairs_with p digest size x (map seen_pair t.pairs)) (pair-seen t p digest) in
    let g = fold-unseen (map seen_blob) (λ rs ref. blob.touch_blobs n moment ref rs) (λ rs ref. blobs-touched n moment ref rs) own.blobs (artifact.other_refs digest refs) ∙ blobs-with n moment digest size t.blobs in
    let h = artifacts-with n moment name digest size media refs children (artifact_at t name digest) t.artifacts ∙ ap (λ x. artifacts_with moment name digest size media refs children x (map seen_artifact t.artifacts)) (artifact-seen t name digest) in
    let k = tags-with n moment name digest tag t.tags in
    λ i. record (seen t) { projects = e i; pairs = f i; stored = g i; artifacts = h i; tags = k i }
seen-step t n moment (ArtifactDropped job name digest) =
    let e = map-without named_digest_cmp rows.artifact_key artifact_key seen_artifact (λ r. refl) (name, digest) t.artifacts in
    let f = map-filter seen_tag (λ r. not (artifact.names_artifact name digest r)) (λ x. not (names_artifact name digest x)) (λ r. refl) t.tags in
    λ i. record (seen t) { artifacts = e i; tags = f i }
seen-step t n moment (TagDropped name tag) = ap (λ x. record (seen t) { tags = x }) (tag-dropped name tag t.tags)
seen-step t n moment (Pulled name digest) = ap (λ x. record (seen t) { artifacts = x }) (map-changed named_digest_cmp rows.artifact_key artifact_key seen_artifact (λ r. refl) (name, digest) _ (λ x. record x { pulled = moment }) (λ r. refl) t.artifacts)
seen-step t n moment (JobQueued kind) = refl
seen-step t n moment (JobClaimed job) = refl
seen-step t n moment (GcMarked job digests barred upto last) = ap (λ x. record (seen t) { stored = x }) (fold-unseen (map seen_blob) (λ rs d. collect.mark_blobs n d rs) (λ rs d. map-unseen digest_cmp rows.blob_key seen_blob d (collect.marked_blob n) (λ r. refl) rs) t.blobs digests)
seen-step t n moment (Taking job digest) = ap (λ x. record (seen t) { stored = x }) (map-unseen digest_cmp rows.blob_key seen_blob digest _ (λ r. refl) t.blobs)
seen-step t n moment (Collected job digest) = ap (λ x. record (seen t) { stored = x }) (map-without digest_cmp rows.blob_key stored_key seen_blob (λ r. refl) digest t.blobs)
seen-step t n moment (GcSkipped job digest why) = ap (λ x. record (seen t) { stored = x }) (elim (collect.is_failure why) as (λ b. map seen_blob (cond b (blob.failed_blobs n digest t.blobs) t.blobs) ≡ map seen_blob t.blobs) [ true ↦ map-unseen digest_cmp rows.blob_key seen_blob digest _ (λ r. refl) t.blobs | false ↦ refl ])
seen-step t n moment (Adopted job digest size) = ap (λ x. record (seen t) { stored = x }) (blobs-with n moment digest size t.blobs)
seen-step t n moment (GcDone job) = refl
seen-step t n moment (RetainBegun job) = refl
seen-step t n moment (RetainTurn job name tag given) = ap (λ x. record (seen t) { tags = x }) (elim (is_drop given) as (λ b. map seen_tag (cond b (without_key named_tag_cmp rows.tag_key (name, tag) t.tags) t.tags) ≡ cond b (without_key named_tag_cmp tag_key (name, tag) (map seen_tag t.tags)) (map seen_tag t.tags)) [ true ↦ tag-dropped name tag t.tags | false ↦ refl ])
seen-step t n moment (RetainDone job) = refl

pub seen-rows : (j : List AuditEntry) → seen (rows_of j) ≡ replay j
seen-rows [] = refl
seen-rows (e ∷ j) = seen-step (rows_of j) e.number e.moment e.kind ∙ ap (step e.number e.moment e.kind) (seen-rows j)
