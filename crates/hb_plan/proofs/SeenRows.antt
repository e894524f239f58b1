-- What is looked up in an audit's replay is what is looked up in the rows that stand.
use Rattle.std.proofs.Common.{◌≡◌, ℕ, List, Option, Some, None, option_map, is_some, refl, sym, ap, ◌∙◌}
use Rattle.std.specs.Ordering.{nat_cmp}
use Rattle.hb_base.proofs.MappedTables.{row_at-map}
use Rattle.hb_text.specs.declared.digests.Digest.{Digest}
use Rattle.hb_text.specs.Orders.{text_cmp, digest_cmp}
use Rattle.hb_records.specs.Orders.{named_digest_cmp, named_tag_cmp}
use Rattle.hb_records.specs.Orders as rows
use Rattle.hb_rows.specs.Tables.{Tables, project_at, blob_at, pair_at, artifact_at, tag_at, upload_at}
use Rattle.hb_model.specs.History.{Stands}
use Rattle.hb_model.specs.Presence.{usage}
use Rattle.hb_model.specs.Registry.{project_name, pair_key, artifact_key, tag_key, upload_key, stored_key, project_in, pair_in, artifact_in, tag_in, upload_in, stored_in}
use Rattle.hb_model.specs.Replay.{replay}
use Rattle.hb_model.specs.Seen.{seen, seen_project, seen_pair, seen_artifact, seen_tag, seen_upload, seen_blob}
use Rattle.hb_model.specs.UsedBound.{used_in}
use Rattle.hb_model.proofs.SeenRows.{seen-rows}
use Rattle.hb_history.proofs.UsedRows.{used-rows}

pub some-mapped : {A B : Type 0} (f : A → B) (x : Option A) → is_some (option_map f x) ≡ is_some x
some-mapped f None = refl
some-mapped f (Some x) = refl

module _ (r : Tables) (stands : Stands r) where
  replayed : replay r.audit ≡ seen r
  replayed = sym (seen-rows r.audit) ∙ ap seen (sym stands.made)

  pub project-seen : (p : List ℕ) → project_in (replay r.audit) p ≡ option_map seen_project (project_at r p)
  project-seen p = ap (λ m. project_in m p) replayed ∙ row_at-map text_cmp rows.project_key project_name seen_project (λ x. refl) p r.projects

  pub pair-seen : (p : List ℕ) (d : Digest) → pair_in (replay r.audit) p d ≡ option_map seen_pair (pair_at r p d)
  pair-seen p d = ap (λ m. pair_in m p d) replayed ∙ row_at-map named_digest_cmp rows.pair_key pair_key seen_pair (λ x. refl) (p, d) r.pairs

  pub artifact-seen : (name : List ℕ) (d : Digest) → artifact_in (replay r.audit) name d ≡ option_map seen_artifact (artifact_at r name d)
  artifact-seen name d = ap (λ m. artifact_in m name d) replayed ∙ row_at-map named_digest_cmp rows.artifact_key artifact_key seen_artifact (λ x. refl) (name, d) r.artifacts

  pub tag-seen : (name tag : List ℕ) → tag_in (replay r.audit) name tag ≡ option_map seen_tag (tag_at r name tag)
  tag-seen name tag = ap (λ m. tag_in m name tag) replayed ∙ row_at-map named_tag_cmp rows.tag_key tag_key seen_tag (λ x. refl) (name, tag) r.tags

  pub upload-seen : (upload : ℕ) → upload_in (replay r.audit) upload ≡ option_map seen_upload (upload_at r upload)
  upload-seen upload = ap (λ m. upload_in m upload) replayed ∙ row_at-map nat_cmp rows.upload_key upload_key seen_upload (λ x. refl) upload r.uploads

  pub blob-seen : (d : Digest) → stored_in (replay r.audit) d ≡ option_map seen_blob (blob_at r d)
  blob-seen d = ap (λ m. stored_in m d) replayed ∙ row_at-map digest_cmp rows.blob_key stored_key seen_blob (λ x. refl) d r.blobs

  pub project-known : (p : List ℕ) → is_some (project_in (replay r.audit) p) ≡ is_some (project_at r p)
  project-known p = ap (λ x. is_some x) (project-seen p) ∙ some-mapped seen_project (project_at r p)

  pub pair-known : (p : List ℕ) (d : Digest) → is_some (pair_in (replay r.audit) p d) ≡ is_some (pair_at r p d)
  pair-known p d = ap (λ x. is_some x) (pair-seen p d) ∙ some-mapped seen_pair (pair_at r p d)

  pub artifact-known : (name : List ℕ) (d : Digest) → is_some (artifact_in (replay r.audit) name d) ≡ is_some (artifact_at r name d)
  artifact-known name d = ap (λ x. is_some x) (artifact-seen name d) ∙ some-mapped seen_artifact (artifact_at r name d)

  pub upload-known : (upload : ℕ) → is_some (upload_in (replay r.audit) upload) ≡ is_some (upload_at r upload)
  upload-known upload = ap (λ x. is_some x) (upload-seen upload) ∙ some-mapped seen_upload (upload_at r upload)

  pub usage-seen : (p : List ℕ) → usage (replay r.audit) p ≡ used_in (project_at r p)
  usage-seen p = sym (used-rows r.audit stands.history p) ∙ ap (λ t. used_in (project_at t p)) (sym stands.made)
