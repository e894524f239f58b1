-- The keys of a page rise and are behind the key that it was asked for, where those of the table rise.
use Rattle.std.proofs.Common.{◌≡◌, ◌≤◌, ℕ, suc, zero, IsTrue, Bool, true, false, cond, List, [], ◌∷◌, map, length, take, Option, refl, sym, subst, ◌∙◌, arith}
use Rattle.std.proofs.lemmas.List.{length-map, length-take}
use Rattle.std.specs.List.{filter, AllByRecursion}
use Rattle.std.specs.declared.cmp.Ordering.{Ordering}
use Rattle.std.specs.declared.cmp.Ordering.TheVariants.{Less}
use Rattle.std.specs.Cmp.{IsTotalOrder}
use Rattle.hb_base.specs.Tables.{Rises}
use Rattle.hb_base.proofs.TableLaws.{Rises-filter}
use Rattle.hb_text.proofs.KeyOrders.{text_cmp-order, digest_cmp-order}
use Rattle.hb_records.specs.Keys.{key_cmp}
use Rattle.hb_records.specs.Orders.{project_key, blob_key, pair_key, artifact_key, tag_key, upload_key, job_key, candidate_key, snap_key, entry_key}
use Rattle.hb_records.proofs.KeyOrders.{nat_cmp-order, named_digest_cmp-order, named_tag_cmp-order, job_digest_cmp-order, job_tag_cmp-order}
use Rattle.hb_records.specs.declared.keys.Key.{Key}
use Rattle.hb_records.specs.declared.keys.Table.{Table}
use Rattle.hb_records.specs.declared.keys.Table.TheVariants as table
use Rattle.hb_records.specs.declared.pages.Page.{Page}
use Rattle.hb_rows.specs.Tables.{Tables, AreTables, entries}
use Rattle.hb_rows.specs.Pages.{is_behind, rows_behind, page_of, key_of_project, key_of_blob, key_of_pair, key_of_artifact, key_of_tag, key_of_upload, key_of_job, key_of_candidate, key_of_snap, key_of_entry}
use Rattle.hb_keeper.specs.PageKeys.{IsPageBehind, table_of_page, keys_of}

-- ---- what holds of each row
-- it holds of the first
All-take : {A : Type 0} (P : A → Type 0) (n : ℕ) (xs : List A) → AllByRecursion P xs → AllByRecursion P (take n xs)
All-take P zero xs h = tt
All-take P (suc n) [] h = tt
All-take P (suc n) (x ∷ xs) h = (h.0, All-take P n xs h.1)

-- and of their keys
All-map : {A B : Type 0} (P : B → Type 0) (f : A → B) (xs : List A) → AllByRecursion (λ x. P (f x)) xs → AllByRecursion P (map f xs)
All-map P f [] h = tt
All-map P f (x ∷ xs) h = (h.0, All-map P f xs h.1)

-- those that pass pass
All-pass : {A : Type 0} (p : A → Bool) (xs : List A) → AllByRecursion (λ x. IsTrue (p x)) (filter p xs)
All-pass p [] = tt
All-pass p (x ∷ xs) =
    elim (p x) as (λ b. p x ≡ b → AllByRecursion (λ x. IsTrue (p x)) (cond b (x ∷ filter p xs) (filter p xs))) [
      | true ↦ λ e. (e, All-pass p xs)
      | false ↦ λ e. All-pass p xs
    ] refl

module _ {Row K : Type 0} {compare : K → K → Ordering} (o : IsTotalOrder compare) (key : Row → K) (key_of : Row → Key) (same : (a b : Row) → key_cmp (key_of a) (key_of b) ≡ compare (key a) (key b)) where
  Rises-take : (n : ℕ) (rows : List Row) → Rises compare key rows → Rises compare key (take n rows)
  Rises-take zero rows h = tt
  Rises-take (suc n) [] h = tt
  Rises-take (suc n) (row ∷ rows) h = (All-take _ n rows h.0, Rises-take n rows h.1)

  Rises-keys : (rows : List Row) → Rises compare key rows → Rises key_cmp (λ k. k) (map key_of rows)
  Rises-keys [] h = tt
  Rises-keys (row ∷ rows) h = (above rows h.0, Rises-keys rows h.1)
    where
      above : (next : List Row) → AllByRecursion (λ n. compare (key row) (key n) ≡ Less) next → AllByRecursion (λ k. key_cmp (key_of row) k ≡ Less) (map key_of next)
      above [] h = tt
      above (n ∷ next) h = (same row n ∙ h.0, above next h.1)

  -- a page of a table whose keys rise
  behind : (after : Option Key) (rows : List Row) → AllByRecursion (λ k. IsTrue (is_behind after k)) (map key_of (rows_behind key_of after rows))
  behind after rows = All-map _ key_of _ (All-take _ 256 _ (All-pass (λ row. is_behind after (key_of row)) rows))

  rising : (after : Option Key) (rows : List Row) → Rises compare key rows → Rises key_cmp (λ k. k) (map key_of (rows_behind key_of after rows))
  rising after rows h = Rises-keys _ (Rises-take 256 _ (Rises-filter o key (λ row. is_behind after (key_of row)) rows h))

  few : (after : Option Key) (rows : List Row) → length (map key_of (rows_behind key_of after rows)) ≤ 256
  few after rows = let passing = filter (λ row. is_behind after (key_of row)) rows in omega (arith, length-map (take 256 passing) key_of, length-take 256 passing)

  is_page : (after : Option Key) (rows : List Row) → Rises compare key rows → (which : Table) (page : Page) → table_of_page page ≡ which → keys_of page ≡ map key_of (rows_behind key_of after rows) → IsPageBehind which after page
  is_page after rows h which page is keys = record {
    of_table = is;
    few = subst (λ ks. length ks ≤ 256) (sym keys) (few after rows);
    rises = subst (Rises key_cmp (λ k. k)) (sym keys) (rising after rows h);
    behind = subst (AllByRecursion (λ k. IsTrue (is_behind after k))) (sym keys) (behind after rows);
  }

pub page_is_behind : (t : Tables) (which : Table) (after : Option Key) → AreTables t → IsPageBehind which after (page_of t which after)
page_is_behind t table.Project after h = is_page text_cmp-order.total project_key key_of_project (λ a b. refl) after t.projects h.projects _ _ refl refl
page_is_behind t table.Blob after h = is_page digest_cmp-order.total blob_key key_of_blob (λ a b. refl) after t.blobs h.blobs _ _ refl refl
page_is_behind t table.Pair after h = is_page named_digest_cmp-order.total pair_key key_of_pair (λ a b. refl) after t.pairs h.pairs _ _ refl refl
page_is_behind t table.Artifact after h = is_page named_digest_cmp-order.total artifact_key key_of_artifact (λ a b. refl) after t.artifacts h.artifacts _ _ refl refl
page_is_behind t table.Tag after h = is_page named_tag_cmp-order.total tag_key key_of_tag (λ a b. refl) after t.tags h.tags _ _ refl refl
page_is_behind t table.Upload after h = is_page nat_cmp-order.total upload_key key_of_upload (λ a b. refl) after t.uploads h.uploads _ _ refl refl
page_is_behind t table.Job after h = is_page nat_cmp-order.total job_key key_of_job (λ a b. refl) after t.jobs h.jobs _ _ refl refl
page_is_behind t table.Candidate after h = is_page job_digest_cmp-order.total candidate_key key_of_candidate (λ a b. refl) after t.candidates h.candidates _ _ refl refl
page_is_behind t table.Snap after h = is_page job_tag_cmp-order.total snap_key key_of_snap (λ a b. refl) after t.snaps h.snaps _ _ refl refl
page_is_behind t table.Entry after h = is_page nat_cmp-order.total entry_key key_of_entry (λ a b. refl) after (entries t) h.audit _ _ refl refl
