-- Rows of a table that are set in the order of their keys make that table, and those of all tables make them all.
use Rattle.std.proofs.Common.{◌≡◌, ◌<◌, ◌+◌, ℕ, List, [], ◌∷◌, ◌++◌, length, get_or, map, take, fold, reverse, Option, Some, None, IfSome, refl, sym, ap, subst, ◌∙◌, append_assoc, append-nil}
use Rattle.std.proofs.lemmas.List.{reverse-reverse, take_more}
use Rattle.std.proofs.lemmas.List.Sums.{fold-append}
use Rattle.std.specs.List.{AllByRecursion}
use Rattle.std.specs.declared.cmp.Ordering.{Ordering}
use Rattle.std.specs.declared.cmp.Ordering.TheVariants.{Less}
use Rattle.std.specs.Ordering.{ordering_reverse}
use Rattle.std.specs.Cmp.{IsTotalOrder}
use Rattle.hb_base.specs.Tables.{Rises, placed, with_row}
use Rattle.hb_text.proofs.KeyOrders.{text_cmp-order, digest_cmp-order}
use Rattle.hb_records.specs.Orders.{project_key, blob_key, pair_key, artifact_key, tag_key, upload_key, job_key, candidate_key, snap_key, entry_key}
use Rattle.hb_records.proofs.KeyOrders.{nat_cmp-order, named_digest_cmp-order, named_tag_cmp-order, job_digest_cmp-order, job_tag_cmp-order}
use Rattle.hb_records.specs.declared.batches.Row.{Row}
use Rattle.hb_records.specs.declared.batches.Row.TheVariants as row
use Rattle.hb_records.specs.declared.keys.Table.{Table}
use Rattle.hb_records.specs.declared.keys.Table.TheVariants as table
use Rattle.hb_rows.specs.Batches.{set_row}
use Rattle.hb_rows.specs.Tables.{AreTables, Tables, empty_tables, entries}
use Rattle.hb_world.specs.Reading.{rows_in, with_rows}

module _ {A K : Type 0} {compare : K → K → Ordering} (o : IsTotalOrder compare) (key : A → K) where
  -- a row above all others goes behind them
  with_row-last : (x : A) (rest rows : List A) → Rises compare key (rows ++ x ∷ rest) → with_row compare key x rows ≡ rows ++ x ∷ []
  with_row-last x rest [] h = refl
  with_row-last x rest (first ∷ rows) h =
      ap (λ r. placed r x first rows (with_row compare key x rows)) (o.antisymm (key x) (key first) ∙ ap ordering_reverse (below rows h.0))
      ∙ ap (λ later. first ∷ later) (with_row-last x rest rows h.1)
    where
      below : (rows : List A) → AllByRecursion (λ next. compare (key first) (key next) ≡ Less) (rows ++ x ∷ rest) → compare (key first) (key x) ≡ Less
      below [] h = h.0
      below (y ∷ rows) h = below rows h.1

  abbrev with_all : List A → List A → List A
  with_all = fold (λ rows x. with_row compare key x rows)

  with_all-appends : (rows xs : List A) → Rises compare key (rows ++ xs) → with_all rows xs ≡ rows ++ xs
  with_all-appends rows [] h = sym (append-nil rows)
  with_all-appends rows (x ∷ xs) h =
      ap (λ rows. with_all rows xs) (with_row-last x xs rows h)
      ∙ with_all-appends (rows ++ x ∷ []) xs (subst (Rises compare key) (sym (append_assoc rows (x ∷ []) xs)) h)
      ∙ append_assoc rows (x ∷ []) xs

  -- Where a table of the ten is read out by `get` and put in by `put`.
  module _ (wrap : A → Row) (get : Tables → List A) (put : Tables → List A → Tables) (sets : (t : Tables) (x : A) → set_row t (wrap x) ≡ put t (with_row compare key x (get t))) (same : (t : Tables) → put t (get t) ≡ t) (got : (t : Tables) (xs : List A) → get (put t xs) ≡ xs) (again : (t : Tables) (xs ys : List A) → put (put t xs) ys ≡ put t ys) where
    with_rows-put : (t : Tables) (xs : List A) → with_rows t (map wrap xs) ≡ put t (with_all (get t) xs)
    with_rows-put t [] = sym (same t)
    with_rows-put t (x ∷ xs) =
        let next = with_row compare key x (get t) in
        ap (λ t. with_rows t (map wrap xs)) (sets t x) ∙ with_rows-put (put t next) xs ∙ again t next _ ∙ ap (λ rows. put t (with_all rows xs)) (got t next)

    -- a table that has no row yet
    filled : (t : Tables) (xs : List A) → get t ≡ [] → Rises compare key xs → with_rows t (map wrap xs) ≡ put t xs
    filled t xs none h = with_rows-put t xs ∙ ap (λ rows. put t (with_all rows xs)) none ∙ ap (put t) (with_all-appends [] xs h)

-- ---- each table, after those before it
projects-filled : (s t : Tables) → s.projects ≡ [] → AreTables t → with_rows s (rows_in t table.Project) ≡ record s { projects = t.projects }
projects-filled s t none h = filled text_cmp-order.total project_key row.Project (λ t. t.projects) (λ t rows. record t { projects = rows }) (λ t x. refl) (λ t. refl) (λ t xs. refl) (λ t xs ys. refl) s t.projects none h.projects

blobs-filled : (s t : Tables) → s.blobs ≡ [] → AreTables t → with_rows s (rows_in t table.Blob) ≡ record s { blobs = t.blobs }
blobs-filled s t none h = filled digest_cmp-order.total blob_key row.Blob (λ t. t.blobs) (λ t rows. record t { blobs = rows }) (λ t x. refl) (λ t. refl) (λ t xs. refl) (λ t xs ys. refl) s t.blobs none h.blobs

pairs-filled : (s t : Tables) → s.pairs ≡ [] → AreTables t → with_rows s (rows_in t table.Pair) ≡ record s { pairs = t.pairs }
pairs-filled s t none h = filled named_digest_cmp-order.total pair_key row.Pair (λ t. t.pairs) (λ t rows. record t { pairs = rows }) (λ t x. refl) (λ t. refl) (λ t xs. refl) (λ t xs ys. refl) s t.pairs none h.pairs

artifacts-filled : (s t : Tables) → s.artifacts ≡ [] → AreTables t → with_rows s (rows_in t table.Artifact) ≡ record s { artifacts = t.artifacts }
artifacts-filled s t none h = filled named_digest_cmp-order.total artifact_key row.Artifact (λ t. t.artifacts) (λ t rows. record t { artifacts = rows }) (λ t x. refl) (λ t. refl) (λ t xs. refl) (λ t xs ys. refl) s t.artifacts none h.artifacts

tags-filled : (s t : Tables) → s.tags ≡ [] → AreTables t → with_rows s (rows_in t table.Tag) ≡ record s { tags = t.tags }
tags-filled s t none h = filled named_tag_cmp-order.total tag_key row.Tag (λ t. t.tags) (λ t rows. record t { tags = rows }) (λ t x. refl) (λ t. refl) (λ t xs. refl) (λ t xs ys. refl) s t.tags none h.tags

uploads-filled : (s t : Tables) → s.uploads ≡ [] → AreTables t → with_rows s (rows_in t table.Upload) ≡ record s { uploads = t.uploads }
uploads-filled s t none h = filled nat_cmp-order.total upload_key row.Upload (λ t. t.uploads) (λ t rows. record t { uploads = rows }) (λ t x. refl) (λ t. refl) (λ t xs. refl) (λ t xs ys. refl) s t.uploads none h.uploads

jobs-filled : (s t : Tables) → s.jobs ≡ [] → AreTables t → with_rows s (rows_in t table.Job) ≡ record s { jobs = t.jobs }
jobs-filled s t none h = filled nat_cmp-order.total job_key row.Job (λ t. t.jobs) (λ t rows. record t { jobs = rows }) (λ t x. refl) (λ t. refl) (λ t xs. refl) (λ t xs ys. refl) s t.jobs none h.jobs

candidates-filled : (s t : Tables) → s.candidates ≡ [] → AreTables t → with_rows s (rows_in t table.Candidate) ≡ record s { candidates = t.candidates }
candidates-filled s t none h = filled job_digest_cmp-order.total candidate_key row.Candidate (λ t. t.candidates) (λ t rows. record t { candidates = rows }) (λ t x. refl) (λ t. refl) (λ t xs. refl) (λ t xs ys. refl) s t.candidates none h.candidates

snaps-filled : (s t : Tables) → s.snaps ≡ [] → AreTables t → with_rows s (rows_in t table.Snap) ≡ record s { snaps = t.snaps }
snaps-filled s t none h = filled job_tag_cmp-order.total snap_key row.Snap (λ t. t.snaps) (λ t rows. record t { snaps = rows }) (λ t x. refl) (λ t. refl) (λ t xs. refl) (λ t xs ys. refl) s t.snaps none h.snaps

-- the audit has its newest entry first
entries-filled : (s t : Tables) → entries s ≡ [] → AreTables t → with_rows s (rows_in t table.Entry) ≡ record s { audit = t.audit }
entries-filled s t none h =
    filled nat_cmp-order.total entry_key row.Entry entries (λ t rows. record t { audit = reverse rows }) (λ t x. refl) (λ t. ap (λ audit. record t { audit = audit }) (reverse-reverse t.audit)) (λ t xs. reverse-reverse xs) (λ t xs ys. refl) s (entries t) none h.audit
    ∙ ap (λ audit. record s { audit = audit }) (reverse-reverse t.audit)

-- the tables with those of the list filled up in order
abbrev pub with_tables : Tables → Tables → List Table → Tables
with_tables t = fold (λ rows which. with_rows rows (rows_in t which))

abbrev pub all_tables : List Table
all_tables = table.Project ∷ table.Blob ∷ table.Pair ∷ table.Artifact ∷ table.Tag ∷ table.Upload ∷ table.Job ∷ table.Candidate ∷ table.Snap ∷ table.Entry ∷ []

module _ (t : Tables) (h : AreTables t) where
  -- one table more
  next : (which : Table) (rows now later : Tables) → rows ≡ now → with_rows now (rows_in t which) ≡ later → with_rows rows (rows_in t which) ≡ later
  next which rows now later e f = ap (λ rows. with_rows rows (rows_in t which)) e ∙ f

  all-filled : with_tables t empty_tables all_tables ≡ t
  all-filled =
      next table.Entry _ _ _ (next table.Snap _ _ _ (next table.Candidate _ _ _ (next table.Job _ _ _ (next table.Upload _ _ _ (next table.Tag _ _ _ (next table.Artifact _ _ _ (next table.Pair _ _ _ (next table.Blob _ _ _
      (projects-filled empty_tables t refl h)
      (blobs-filled _ t refl h)) (pairs-filled _ t refl h)) (artifacts-filled _ t refl h)) (tags-filled _ t refl h)) (uploads-filled _ t refl h)) (jobs-filled _ t refl h)) (candidates-filled _ t refl h)) (snaps-filled _ t refl h)) (entries-filled _ t refl h)

-- where the tables are told, one of the list more is filled up
pub told-table : (before rows : Option Tables) (tables : List Table) (i : ℕ) (d : Table) (now later : Tables) → before ≡ rows → i < length tables → IfSome rows (λ t. now ≡ with_tables t empty_tables (take i tables)) → IfSome before (λ t. later ≡ with_rows now (rows_in t (get_or tables i d))) → IfSome rows (λ t. later ≡ with_tables t empty_tables (take (i + 1) tables))
told-table before None tables i d now later same within so_far read = tt
told-table before (Some t) tables i d now later same within so_far read =
    let which = get_or tables i d in
    subst (λ rows. IfSome rows (λ t. later ≡ with_rows now (rows_in t which))) same read
    ∙ ap (λ rows. with_rows rows (rows_in t which)) so_far
    ∙ sym (ap (with_tables t empty_tables) (take_more tables i d within) ∙ fold-append (λ rows which. with_rows rows (rows_in t which)) empty_tables (take i tables) (which ∷ []))

-- all of them are
pub told-all : (rows : Option Tables) (i : ℕ) (now : Tables) → i ≡ 10 → IfSome rows AreTables → IfSome rows (λ t. now ≡ with_tables t empty_tables (take i all_tables)) → IfSome rows (λ t. now ≡ t)
told-all None i now end tables read = tt
told-all (Some t) i now end tables read = read ∙ ap (λ i. with_tables t empty_tables (take i all_tables)) end ∙ all-filled t tables
