-- The changes of entries about content make their effect.
use Rattle.std.proofs.Common.{◌≡◌, ℕ, ◌+◌, ◌-◌, nat_eq, true, false, cond, List, [], ◌∷◌, ◌++◌, Option, Some, None, refl, sym, ap, ◌∙◌}
use Rattle.hb_base.specs.Tables.{Rises, with_row}
use Rattle.hb_base.proofs.TableLaws.{changed-absent, changed-with, with-same}
use Rattle.hb_text.specs.Orders.{digest_cmp, text_cmp}
use Rattle.hb_text.specs.declared.digests.Digest.{Digest}
use Rattle.hb_text.proofs.KeyOrders.{text_cmp-order}
use Rattle.hb_records.specs.Orders.{blob_key, pair_key, project_key}
use Rattle.hb_records.specs.declared.batches.Change.TheVariants.{Set}
use Rattle.hb_records.specs.declared.batches.Row.TheVariants as row
use Rattle.hb_records.specs.declared.keys.Key.TheVariants as key
use Rattle.hb_records.specs.declared.records.Assoc.{Assoc}
use Rattle.hb_records.specs.declared.records.Project.{Project}
use Rattle.hb_records.proofs.KeyOrders.{named_digest_cmp-order}
use Rattle.hb_rows.specs.Batches.{after_changes, drop_key}
use Rattle.hb_rows.specs.Tables.{AreTables, Tables, blob_at, pair_at, project_at}
use Rattle.hb_model.specs.BlobEffects.{associate, idle_row, pairs_with, projects_with, projects_without, touch, touch_pairs, touched_blob, touched_pair, unassociate}
use Rattle.hb_model.specs.ContentChanges.{associate_changes, idle_change, lose_changes, pair_changes, touch_blob_changes, touch_changes, touch_pair_changes, used_changes}
use Rattle.hb_model.specs.ProjectEffects.{change_project, with_used}
use Rattle.hb_model.proofs.Tables.{blob-changed, pair-changed, then-changes}

-- what a project uses is no part of its key
pub used-name : (n : ℕ) (f : ℕ → ℕ) (r : Project) → (with_used n f r).name ≡ r.name
used-name n f r = elim (nat_eq (f r.used) r.used) as (λ b. (cond b r (record r { used = f r.used; version = n })).name ≡ r.name) [ true ↦ refl | false ↦ refl ]

-- a project stays as it is where what it uses doesn't change
used-changed : (t : Tables) (n : ℕ) (project : List ℕ) (f : ℕ → ℕ) → Rises text_cmp project_key t.projects → after_changes t (used_changes n f (project_at t project)) ≡ change_project project (with_used n f) t
used-changed t n project f rise =
    elim (project_at t project) as (λ x. project_at t project ≡ x → after_changes t (used_changes n f x) ≡ change_project project (with_used n f) t) [
      | None ↦ λ e. ap (λ rows. record t { projects = rows }) (sym (changed-absent text_cmp-order.total project_key project (with_used n f) t.projects e))
      | Some r ↦ λ e.
          elim (nat_eq (f r.used) r.used) as (λ b. after_changes t (cond b [] (Set (row.Project (record r { used = f r.used; version = n })) ∷ [])) ≡ record t { projects = with_row text_cmp project_key (cond b r (record r { used = f r.used; version = n })) t.projects }) [
            | true ↦ ap (λ rows. record t { projects = rows }) (sym (with-same text_cmp-order.total project_key project r t.projects rise e))
            | false ↦ refl
          ]
          ∙ ap (λ rows. record t { projects = rows }) (sym (changed-with text_cmp-order.total project_key project (with_used n f) (used-name n f) r t.projects rise e))
    ] refl

module _ (t : Tables) (h : AreTables t) (n moment : ℕ) (project : List ℕ) (d : Digest) where
  pub associate-batch : (size : ℕ) → after_changes t (associate_changes n moment project d size t) ≡ associate n moment project d size t
  associate-batch size =
      let idle = idle_change n moment d size ∷ [] in
      let own : Option Assoc → Tables = λ x. record t { projects = projects_with n project size x t.projects; pairs = pairs_with moment project d size x t.pairs; blobs = with_row digest_cmp blob_key (idle_row n moment d size) t.blobs } in
      elim (pair_at t project d) as (λ x. pair_at t project d ≡ x → after_changes t (pair_changes n moment project d size x t ++ idle) ≡ own x) [
        | None ↦ λ e.
            let made : Tables = record t { pairs = pairs_with moment project d size None t.pairs } in
            then-changes made (change_project project (with_used n (λ used. used + size)) made) (own None) (used_changes n (λ used. used + size) (project_at t project)) idle (used-changed made n project (λ used. used + size) h.projects) refl
        | Some r ↦ λ e. ap (λ rows. record t { pairs = rows; blobs = with_row digest_cmp blob_key (idle_row n moment d size) t.blobs }) (sym (changed-with named_digest_cmp-order.total pair_key (project, d) (touched_pair moment) (λ r. refl) r t.pairs h.pairs e))
      ] refl

  pub touch-batch : after_changes t (touch_changes n moment project t d) ≡ touch n moment project d t
  touch-batch =
      let u : Tables = record t { pairs = touch_pairs moment project d t.pairs } in
      then-changes t u (touch n moment project d t) (touch_pair_changes moment project t d) (touch_blob_changes n moment t d)
      (pair-changed t project d (touched_pair moment) (λ r. refl) h.pairs (pair_at t project d) refl)
      (blob-changed u d (touched_blob n moment) (λ r. refl) h.blobs (blob_at t d) refl)

  pub unassociate-batch : after_changes (drop_key t (key.Pair project d)) (lose_changes n project (pair_at t project d) t) ≡ unassociate n project d t
  unassociate-batch =
      let u : Tables = drop_key t (key.Pair project d) in
      elim (pair_at t project d) as (λ x. after_changes u (lose_changes n project x t) ≡ record u { projects = projects_without n project x t.projects }) [
        | None ↦ refl
        | Some r ↦ used-changed u n project (λ used. used - r.size) h.projects
      ]
