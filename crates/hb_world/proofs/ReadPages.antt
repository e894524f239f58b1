-- Page after page, the rows of a table are read in their order, each once.
use Rattle.std.proofs.Common.{◌≡◌, ◌<◌, ◌≤◌, Bool, true, false, cond, List, [], ◌∷◌, ◌++◌, length, map, take, drop, Option, Some, None, IfSome, refl, sym, ap, subst, ◌∙◌, append_assoc, arith}
use Rattle.std.proofs.lemmas.List.{length-take, take-map, take_all, take-append-drop}
use Rattle.std.proofs.lemmas.List.Sums.{fold-append}
use Rattle.std.proofs.lemmas.Cmp.{tied_itself}
use Rattle.std.specs.List.{filter, AllByRecursion}
use Rattle.std.specs.declared.cmp.Ordering.{Ordering}
use Rattle.std.specs.declared.cmp.Ordering.TheVariants.{Less}
use Rattle.std.specs.Ordering.{is_lt, ordering_reverse}
use Rattle.std.specs.Cmp.{IsTotalOrder}
use Rattle.hb_base.specs.Tables.{Rises}
use Rattle.hb_text.proofs.KeyOrders.{text_cmp-order, digest_cmp-order}
use Rattle.hb_records.specs.Keys.{key_cmp}
use Rattle.hb_records.specs.Orders.{project_key, blob_key, pair_key, artifact_key, tag_key, upload_key, job_key, candidate_key, snap_key, entry_key}
use Rattle.hb_records.proofs.KeyOrders.{nat_cmp-order, named_digest_cmp-order, named_tag_cmp-order, job_digest_cmp-order, job_tag_cmp-order}
use Rattle.hb_records.specs.declared.batches.Row.{Row}
use Rattle.hb_records.specs.declared.batches.Row.TheVariants as row
use Rattle.hb_records.specs.declared.keys.Key.{Key}
use Rattle.hb_records.specs.declared.keys.Table.{Table}
use Rattle.hb_records.specs.declared.keys.Table.TheVariants as table
use Rattle.hb_records.specs.declared.pages.Page.{Page}
use Rattle.hb_rows.specs.Batches.{set_row}
use Rattle.hb_rows.specs.Pages.{is_behind, page_of, rows_behind}
use Rattle.hb_rows.specs.Tables.{AreTables, Tables, entries}
use Rattle.hb_world.specs.Reading.{IsRead, key_of_row, rows_in, rows_on, with_rows}

-- ---- rows in the order of their keys
abbrev is_above : Row → Row → Bool
is_above a b = is_lt (key_cmp (key_of_row a) (key_of_row b))

record IsBelow (a b : Row) : Type 0 where
  above : is_above a b ≡ true
  not_below : is_above b a ≡ false

abbrev Ordered : List Row → Type 0
Ordered [] = Unit {0}
Ordered (r ∷ rows) = (is_above r r ≡ false) × AllByRecursion (IsBelow r) rows × Ordered rows

all_pass : (last : Row) (rows : List Row) → AllByRecursion (IsBelow last) rows → filter (is_above last) rows ≡ rows
all_pass last [] h = refl
all_pass last (r ∷ rows) h = ap (λ b. cond b (r ∷ filter (is_above last) rows) (filter (is_above last) rows)) h.0.above ∙ ap (λ later. r ∷ later) (all_pass last rows h.1)

below-later : (r last : Row) (front rest : List Row) → AllByRecursion (IsBelow r) (front ++ last ∷ rest) → IsBelow r last
below-later r last [] rest h = h.0
below-later r last (x ∷ front) rest h = below-later r last front rest h.1

-- the rows above one of them are those behind it
rows-above : (front : List Row) (last : Row) (rest : List Row) → Ordered (front ++ last ∷ rest) → filter (is_above last) (front ++ last ∷ rest) ≡ rest
rows-above [] last rest h = ap (λ b. cond b (last ∷ filter (is_above last) rest) (filter (is_above last) rest)) h.0 ∙ all_pass last rest h.1
rows-above (r ∷ front) last rest h =
    let rows = front ++ last ∷ rest in
    ap (λ b. cond b (r ∷ filter (is_above last) rows) (filter (is_above last) rows)) (below-later r last front rest h.1).not_below ∙ rows-above front last rest h.2

module _ {A K : Type 0} {compare : K → K → Ordering} (o : IsTotalOrder compare) (key : A → K) (wrap : A → Row) (same : (a b : A) → key_cmp (key_of_row (wrap a)) (key_of_row (wrap b)) ≡ compare (key a) (key b)) where
  ordered : (xs : List A) → Rises compare key xs → Ordered (map wrap xs)
  ordered [] h = tt
  ordered (x ∷ xs) h = (ap is_lt (same x x ∙ tied_itself o (key x)), below xs h.0, ordered xs h.1)
    where
      below : (xs : List A) → AllByRecursion (λ next. compare (key x) (key next) ≡ Less) xs → AllByRecursion (IsBelow (wrap x)) (map wrap xs)
      below [] h = tt
      below (y ∷ ys) h = (record { above = ap is_lt (same x y ∙ h.0); not_below = ap is_lt (same y x ∙ o.antisymm (key y) (key x) ∙ ap ordering_reverse h.0) }, below ys h.1)

ordered-rows : (t : Tables) (which : Table) → AreTables t → Ordered (rows_in t which)
ordered-rows t table.Project h = ordered text_cmp-order.total project_key row.Project (λ a b. refl) t.projects h.projects
ordered-rows t table.Blob h = ordered digest_cmp-order.total blob_key row.Blob (λ a b. refl) t.blobs h.blobs
ordered-rows t table.Pair h = ordered named_digest_cmp-order.total pair_key row.Pair (λ a b. refl) t.pairs h.pairs
ordered-rows t table.Artifact h = ordered named_digest_cmp-order.total artifact_key row.Artifact (λ a b. refl) t.artifacts h.artifacts
ordered-rows t table.Tag h = ordered named_tag_cmp-order.total tag_key row.Tag (λ a b. refl) t.tags h.tags
ordered-rows t table.Upload h = ordered nat_cmp-order.total upload_key row.Upload (λ a b. refl) t.uploads h.uploads
ordered-rows t table.Job h = ordered nat_cmp-order.total job_key row.Job (λ a b. refl) t.jobs h.jobs
ordered-rows t table.Candidate h = ordered job_digest_cmp-order.total candidate_key row.Candidate (λ a b. refl) t.candidates h.candidates
ordered-rows t table.Snap h = ordered job_tag_cmp-order.total snap_key row.Snap (λ a b. refl) t.snaps h.snaps
ordered-rows t table.Entry h = ordered nat_cmp-order.total entry_key row.Entry (λ a b. refl) (entries t) h.audit

-- ---- the rows of a page
abbrev left_behind : Option Key → List Row → List Row
left_behind after = filter (λ r. is_behind after (key_of_row r))

filter-map : {A : Type 0} (wrap : A → Row) (p : Row → Bool) (xs : List A) → map wrap (filter (λ x. p (wrap x)) xs) ≡ filter p (map wrap xs)
filter-map wrap p [] = refl
filter-map wrap p (x ∷ xs) = elim (p (wrap x)) as (λ b. map wrap (cond b (x ∷ filter (λ x. p (wrap x)) xs) (filter (λ x. p (wrap x)) xs)) ≡ cond b (wrap x ∷ filter p (map wrap xs)) (filter p (map wrap xs))) [
  | true ↦ ap (λ later. wrap x ∷ later) (filter-map wrap p xs)
  | false ↦ filter-map wrap p xs
]

first-behind : {A : Type 0} (wrap : A → Row) (after : Option Key) (xs : List A) → map wrap (rows_behind (λ x. key_of_row (wrap x)) after xs) ≡ take 256 (left_behind after (map wrap xs))
first-behind wrap after xs = sym (take-map wrap 256 _) ∙ ap (take 256) (filter-map wrap (λ r. is_behind after (key_of_row r)) xs)

page-rows : (t : Tables) (which : Table) (after : Option Key) → rows_on (page_of t which after) ≡ take 256 (left_behind after (rows_in t which))
page-rows t table.Project after = first-behind row.Project after t.projects
page-rows t table.Blob after = first-behind row.Blob after t.blobs
page-rows t table.Pair after = first-behind row.Pair after t.pairs
page-rows t table.Artifact after = first-behind row.Artifact after t.artifacts
page-rows t table.Tag after = first-behind row.Tag after t.tags
page-rows t table.Upload after = first-behind row.Upload after t.uploads
page-rows t table.Job after = first-behind row.Job after t.jobs
page-rows t table.Candidate after = first-behind row.Candidate after t.candidates
page-rows t table.Snap after = first-behind row.Snap after t.snaps
page-rows t table.Entry after = first-behind row.Entry after (entries t)

-- ---- page after page
-- The rows that were read are set, and those behind the key are left.
pub record HasRead (t : Tables) (which : Table) (start now : Tables) (after : Option Key) : Type 0 where
  read : List Row
  all : rows_in t which ≡ read ++ left_behind after (rows_in t which)
  set : now ≡ with_rows start read

none-read : (rows : List Row) → rows ≡ left_behind None rows
none-read [] = refl
none-read (r ∷ rows) = ap (λ later. r ∷ later) (none-read rows)

-- where the tables are told, none of the rows were read at the start
pub told-none : (rows : Option Tables) (which : Table) (start : Tables) → IfSome rows (λ t. HasRead t which start start None)
told-none None which start = tt
told-none (Some t) which start = record { read = []; all = none-read (rows_in t which); set = refl }

module _ (t : Tables) (which : Table) (start now later : Tables) (after : Option Key) (page : Page) (so_far : HasRead t which start now after) (is : page ≡ page_of t which after) where
  abbrev left : List Row
  left = left_behind after (rows_in t which)

  rows : rows_on page ≡ take 256 left
  rows = ap rows_on is ∙ page-rows t which after

  set_more : later ≡ with_rows now (rows_on page) → later ≡ with_rows start (so_far.read ++ take 256 left)
  set_more set = set ∙ (λ i. with_rows (so_far.set i) (rows i)) ∙ sym (fold-append set_row start so_far.read (take 256 left))

  split : rows_in t which ≡ (so_far.read ++ take 256 left) ++ drop 256 left
  split = so_far.all ∙ ap (λ rows. so_far.read ++ rows) (sym (take-append-drop 256 left)) ∙ sym (append_assoc so_far.read (take 256 left) (drop 256 left))

  -- a page behind which another one begins
  HasRead-next : (key : Key) → AreTables t → IsRead now later (rows_on page) (Some key) → HasRead t which start later (Some key)
  HasRead-next key h read =
      let front = read.next.0 in
      let last = read.next.1 in
      let ends : take 256 left ≡ front ++ last ∷ [] = sym rows ∙ read.next.2 in
      let at : rows_in t which ≡ (so_far.read ++ front) ++ last ∷ drop 256 left =
      split ∙ ap (λ page. (so_far.read ++ page) ++ drop 256 left) ends
      ∙ ap (λ rows. rows ++ drop 256 left) (sym (append_assoc so_far.read front (last ∷ [])))
      ∙ append_assoc (so_far.read ++ front) (last ∷ []) (drop 256 left) in
      let behind : left_behind (Some key) (rows_in t which) ≡ drop 256 left =
      (λ i. filter (λ r. is_lt (key_cmp (read.next.3 i) (key_of_row r))) (at i))
      ∙ rows-above (so_far.read ++ front) last (drop 256 left) (subst Ordered at (ordered-rows t which h)) in
      record {
        read = so_far.read ++ take 256 left;
        all = split ∙ ap (λ rows. (so_far.read ++ take 256 left) ++ rows) (sym behind);
        set = set_more read.set;
      }

  -- the last page
  HasRead-last : IsRead now later (rows_on page) None → later ≡ with_rows start (rows_in t which)
  HasRead-last read =
      let short : length (take 256 left) < 256 = subst (λ rows. length rows < 256) rows read.next in
      let few : length left ≤ 256 = omega (arith, length-take 256 left, short) in
      set_more read.set ∙ ap (λ page. with_rows start (so_far.read ++ page)) (take_all 256 left few) ∙ ap (with_rows start) (sym so_far.all)

-- the same where the tables are told
module _ (rows : Option Tables) (which : Table) (start now later : Tables) (after : Option Key) (page : Page) where
  pub told-next : (key : Key) → IfSome rows (λ t. HasRead t which start now after) → IfSome rows AreTables → IfSome rows (λ t. page ≡ page_of t which after) → IsRead now later (rows_on page) (Some key) → IfSome rows (λ t. HasRead t which start later (Some key))
  told-next key so_far tables is read =
      elim rows as (λ rows. IfSome rows (λ t. HasRead t which start now after) → IfSome rows AreTables → IfSome rows (λ t. page ≡ page_of t which after) → IfSome rows (λ t. HasRead t which start later (Some key))) [
        | None ↦ λ so_far tables is. tt
        | Some t ↦ λ so_far tables is. HasRead-next t which start now later after page so_far is key tables read
      ] so_far tables is

  pub told-last : IfSome rows (λ t. HasRead t which start now after) → IfSome rows (λ t. page ≡ page_of t which after) → IsRead now later (rows_on page) None → IfSome rows (λ t. later ≡ with_rows start (rows_in t which))
  told-last so_far is read =
      elim rows as (λ rows. IfSome rows (λ t. HasRead t which start now after) → IfSome rows (λ t. page ≡ page_of t which after) → IfSome rows (λ t. later ≡ with_rows start (rows_in t which))) [
        | None ↦ λ so_far is. tt
        | Some t ↦ λ so_far is. HasRead-last t which start now later after page so_far is read
      ] so_far is
