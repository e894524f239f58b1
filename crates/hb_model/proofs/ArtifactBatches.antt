-- The changes of a manifest's put and of an artifact's drop make their effect.
use Rattle.std.proofs.Common.{◌≡◌, ℕ, true, false, not, cond, List, [], ◌∷◌, ◌++◌, map, fold, Option, Some, None, option_map, refl, sym, ap, ◌∙◌}
use Rattle.std.specs.Prelude.{filter}
use Rattle.std.proofs.lemmas.Cmp.{eq_by_cmp_equiv, tied_itself}
use Rattle.std.specs.List.{flat_map, AllByRecursion}
use Rattle.std.specs.Ordering.{is_eq, ordering_then}
use Rattle.hb_base.specs.Tables.{Rises, row_at, without_key}
use Rattle.hb_base.proofs.TableLaws.{Rises-changed, Rises-with, changed-again, changed-with, row_at-with, without_passing}
use Rattle.hb_text.specs.Names.{project_of}
use Rattle.hb_text.specs.Orders.{digest_cmp}
use Rattle.hb_text.specs.declared.digests.Digest.{Digest}
use Rattle.hb_text.proofs.KeyOrders.{digest_cmp-order, text_cmp-order}
use Rattle.hb_records.specs.Orders.{artifact_key, blob_key, named_digest_cmp, named_tag_cmp, pair_key, tag_key}
use Rattle.hb_records.specs.declared.keys.Key.TheVariants as key
use Rattle.hb_records.specs.declared.records.Assoc.{Assoc}
use Rattle.hb_records.specs.declared.records.TagRow.{TagRow}
use Rattle.hb_records.proofs.KeyOrders.{named_digest_cmp-order, named_tag_cmp-order}
use Rattle.hb_rows.specs.Batches.{after_changes, drop_key}
use Rattle.hb_rows.specs.Tables.{AreTables, Tables, artifact_at, blob_at, pair_at}
use Rattle.hb_model.specs.ArtifactChanges.{artifact_change, drop_artifact_changes, drop_tag_row, put_changes, tag_changes}
use Rattle.hb_model.specs.ArtifactEffects.{artifacts_with, drop_artifact, names_artifact, other_refs, pushed_artifact, put_artifact, tags_with}
use Rattle.hb_model.specs.BlobEffects.{associate, idle_row, pairs_with, touch, touch_blobs, touch_pairs, touched_blob, touched_pair}
use Rattle.hb_model.specs.ContentChanges.{associate_changes, touch_blob_changes, touch_changes, touch_pair_changes}
use Rattle.hb_model.specs.ExampleNames.{other}
use Rattle.hb_model.specs.Words.{same_digest}
use Rattle.hb_model.proofs.ContentBatches.{associate-batch}
use Rattle.hb_model.proofs.Tables.{blob-changed, pair-changed, then-changes}

-- the tags of an artifact, dropped one by one
tags-dropped : (s : Tables) (rows : List TagRow) → after_changes s (map drop_tag_row rows) ≡ record s { tags = fold (λ rows row. without_key named_tag_cmp tag_key (tag_key row) rows) s.tags rows }
tags-dropped s [] = refl
tags-dropped s (r ∷ rows) = tags-dropped (drop_key s (key.Tag r.name r.tag)) rows

pub drop_artifact-batch : (t : Tables) → AreTables t → (name : List ℕ) (d : Digest) → after_changes t (drop_artifact_changes name d t) ≡ drop_artifact name d t
drop_artifact-batch t h name d =
    let u : Tables = drop_key t (key.Artifact name d) in
    tags-dropped u (filter (names_artifact name d) t.tags) ∙ ap (λ rows. record u { tags = rows }) (without_passing named_tag_cmp-order.total tag_key (names_artifact name d) t.tags h.tags)

-- none of the other references is the own digest
others-differ : (d : Digest) (refs : List Digest) → AllByRecursion (λ ref. same_digest d ref ≡ false) (other_refs d refs)
others-differ d [] = tt
others-differ d (ref ∷ refs) =
    elim (same_digest d ref) as (λ b. same_digest d ref ≡ b → AllByRecursion (λ ref. same_digest d ref ≡ false) (cond (not b) (ref ∷ other_refs d refs) (other_refs d refs))) [
      | true ↦ λ e. others-differ d refs
      | false ↦ λ e. (e, others-differ d refs)
    ] refl

module _ (t : Tables) (h : AreTables t) (n moment : ℕ) (project : List ℕ) (d : Digest) where
  -- the rows of other digests are those of t, or as a touch leaves them
  record OthersTouched (s : Tables) : Type 0 where
    blobs : (q : Digest) → same_digest d q ≡ false → option_map (touched_blob n moment) (blob_at s q) ≡ option_map (touched_blob n moment) (blob_at t q)
    pairs : (q : Digest) → same_digest d q ≡ false → option_map (touched_pair moment) (pair_at s project q) ≡ option_map (touched_pair moment) (pair_at t project q)
    blobs_rise : Rises digest_cmp blob_key s.blobs
    pairs_rise : Rises named_digest_cmp pair_key s.pairs

  touch-one : (s : Tables) → OthersTouched s → (ref : Digest) → same_digest d ref ≡ false → after_changes s (touch_changes n moment project t ref) ≡ touch n moment project ref s
  touch-one s same ref other =
      let u : Tables = record s { pairs = touch_pairs moment project ref s.pairs } in
      then-changes s u (record u { blobs = touch_blobs n moment ref s.blobs }) (touch_pair_changes moment project t ref) (touch_blob_changes n moment t ref)
      (pair-changed s project ref (touched_pair moment) (λ r. refl) same.pairs_rise (pair_at t project ref) (same.pairs ref other))
      (blob-changed u ref (touched_blob n moment) (λ r. refl) same.blobs_rise (blob_at t ref) (same.blobs ref other))

  still-touched : (s : Tables) → OthersTouched s → (ref : Digest) → OthersTouched (touch n moment project ref s)
  still-touched s same ref = record {
    blobs = λ q other. changed-again digest_cmp-order.total blob_key q ref (touched_blob n moment) (λ r. refl) (λ r. refl) s.blobs ∙ same.blobs q other;
    pairs = λ q other. changed-again named_digest_cmp-order.total pair_key (project, q) (project, ref) (touched_pair moment) (λ r. refl) (λ r. refl) s.pairs ∙ same.pairs q other;
    blobs_rise = Rises-changed digest_cmp-order.total blob_key ref (touched_blob n moment) (λ r. refl) s.blobs same.blobs_rise;
    pairs_rise = Rises-changed named_digest_cmp-order.total pair_key (project, ref) (touched_pair moment) (λ r. refl) s.pairs same.pairs_rise;
  }

  touch-all : (s : Tables) → OthersTouched s → (refs : List Digest) → AllByRecursion (λ ref. same_digest d ref ≡ false) refs → after_changes s (flat_map (touch_changes n moment project t) refs) ≡ record s { pairs = fold (λ rows ref. touch_pairs moment project ref rows) s.pairs refs; blobs = fold (λ rows ref. touch_blobs n moment ref rows) s.blobs refs }
  touch-all s same [] apart = refl
  touch-all s same (ref ∷ refs) apart =
      let u : Tables = touch n moment project ref s in
      then-changes s u (record u { pairs = fold (λ rows ref. touch_pairs moment project ref rows) u.pairs refs; blobs = fold (λ rows ref. touch_blobs n moment ref rows) u.blobs refs }) (touch_changes n moment project t ref) (flat_map (touch_changes n moment project t) refs)
      (touch-one s same ref apart.0) (touch-all u (still-touched s same ref) refs apart.1)

  -- another digest isn't found by the own one
  other-way : (q : Digest) → same_digest d q ≡ false → is_eq (digest_cmp q d) ≡ false
  other-way q other = (eq_by_cmp_equiv digest_cmp-order.total).symm q d ∙ other

  other-pair : (q : Digest) → same_digest d q ≡ false → is_eq (named_digest_cmp (project, q) (project, d)) ≡ false
  other-pair q other = ap (λ r. is_eq (ordering_then r (digest_cmp q d))) (tied_itself text_cmp-order.total project) ∙ other-way q other

  -- the association leaves the rows of other digests
  associated-touched : (size : ℕ) → OthersTouched (associate n moment project d size t)
  associated-touched size =
      let blob = idle_row n moment d size in
      let pair : Assoc = record { project = project; digest = d; size = size; touched = moment } in
      record {
        blobs = λ q other. ap (option_map (touched_blob n moment)) (row_at-with digest_cmp-order.total blob_key q blob t.blobs ∙ ap (λ b. cond b (Some blob) (blob_at t q)) (other-way q other));
        pairs = λ q other. elim (pair_at t project d) as (λ x. option_map (touched_pair moment) (row_at named_digest_cmp pair_key (project, q) (pairs_with moment project d size x t.pairs)) ≡ option_map (touched_pair moment) (pair_at t project q)) [
          | None ↦ ap (option_map (touched_pair moment)) (row_at-with named_digest_cmp-order.total pair_key (project, q) pair t.pairs ∙ ap (λ b. cond b (Some pair) (pair_at t project q)) (other-pair q other))
          | Some r ↦ changed-again named_digest_cmp-order.total pair_key (project, q) (project, d) (touched_pair moment) (λ r. refl) (λ r. refl) t.pairs
        ];
        blobs_rise = Rises-with digest_cmp-order.total blob_key blob t.blobs h.blobs;
        pairs_rise = elim (pair_at t project d) as (λ x. Rises named_digest_cmp pair_key (pairs_with moment project d size x t.pairs)) [
          | None ↦ Rises-with named_digest_cmp-order.total pair_key pair t.pairs h.pairs
          | Some r ↦ Rises-changed named_digest_cmp-order.total pair_key (project, d) (touched_pair moment) (λ r. refl) t.pairs h.pairs
        ];
      }

pub put_artifact-batch : (t : Tables) → AreTables t → (n moment : ℕ) (name : List ℕ) (d : Digest) (size : ℕ) (media : List ℕ) (refs children : List Digest) (tag : Option (List ℕ)) → after_changes t (put_changes n moment name d size media refs children tag t) ≡ put_artifact n moment name d size media refs children tag t
put_artifact-batch t h n moment name d size media refs children tag =
    let project = project_of name in
    let own : Tables = associate n moment project d size t in
    let all : Tables = record own { pairs = fold (λ rows ref. touch_pairs moment project ref rows) own.pairs (other_refs d refs); blobs = fold (λ rows ref. touch_blobs n moment ref rows) own.blobs (other_refs d refs) } in
    let made : Tables = record all { artifacts = artifacts_with n moment name d size media refs children (artifact_at t name d) t.artifacts } in
    let done : Tables = put_artifact n moment name d size media refs children tag t in
    let touching = flat_map (touch_changes n moment project t) (other_refs d refs) in
    let put = artifact_change n moment name d size media refs children (artifact_at t name d) in
    then-changes t own done (associate_changes n moment project d size t) (touching ++ put ∷ tag_changes n moment name d tag)
    (associate-batch t h n moment project d size)
    (then-changes own all done touching (put ∷ tag_changes n moment name d tag)
    (touch-all t h n moment project d own (associated-touched t h n moment project d size) (other_refs d refs) (others-differ d refs))
    (then-changes all made done (put ∷ []) (tag_changes n moment name d tag)
    (elim (artifact_at t name d) as (λ x. artifact_at t name d ≡ x → after_changes all (artifact_change n moment name d size media refs children x ∷ []) ≡ record all { artifacts = artifacts_with n moment name d size media refs children x t.artifacts }) [
      | None ↦ λ e. refl
      | Some r ↦ λ e. ap (λ rows. record all { artifacts = rows }) (sym (changed-with named_digest_cmp-order.total artifact_key (name, d) (pushed_artifact n moment) (λ r. refl) r t.artifacts h.artifacts e))
    ] refl)
    (elim tag as (λ x. after_changes made (tag_changes n moment name d x) ≡ record made { tags = tags_with n moment name d x t.tags }) [ None ↦ refl | Some g ↦ refl ])))
