-- The laws of tables: what is found after a change, that the keys still rise, and that what is found tells the table.
use Rattle.std.proofs.Common.{◌≡◌, ℕ, Bool, true, false, not, cond, List, [], ◌∷◌, map, Option, Some, None, option_map, refl, sym, ap, ◌∙◌, ◌+◌, sum_by, arith, ◌||◌, fold}
use Rattle.std.proofs.lemmas.List.Sums.{sum_by-cons}
use Rattle.std.specs.List.{filter, list_any, AllByRecursion}
use Rattle.std.specs.declared.cmp.Ordering.{Ordering}
use Rattle.std.specs.declared.cmp.Ordering.TheVariants.{Less, Equal, Greater}
use Rattle.std.specs.Ordering.{is_eq, ordering_reverse}
use Rattle.std.specs.Cmp.{IsTotalOrder}
use Rattle.std.proofs.lemmas.Cmp.{tied_itself, alike_right, eq_by_cmp_equiv}
use Rattle.hb_base.specs.Tables.{placed, row_at, with_row, without_key, changed_at, Rises}

-- what an answer of a comparison is
pub equal_from : (r : Ordering) → is_eq r ≡ true → r ≡ Equal
equal_from Less e = cc
equal_from Equal e = refl
equal_from Greater e = cc

-- a choice between the same is that
same_cond : {A : Type 0} (b : Bool) (x : A) → x ≡ cond b x x
same_cond true x = refl
same_cond false x = refl

-- a choice made a second time changes nothing
twice : {A : Type 0} (b : Bool) (x y z : A) → cond b x z ≡ cond b x (cond b y z)
twice true x y z = refl
twice false x y z = refl

module _ {Row K : Type 0} {compare : K → K → Ordering} (o : IsTotalOrder compare) (key : Row → K) where
  -- keys that tie find the same
  pub row_at-tied : (q k : K) → compare q k ≡ Equal → (rows : List Row) → row_at compare key q rows ≡ row_at compare key k rows
  row_at-tied q k e [] = refl
  row_at-tied q k e (row ∷ rows) = λ i. cond (is_eq (o.congr q k (key row) e i)) (Some row) (row_at-tied q k e rows i)

  -- two keys of which one is above the other are not both found
  not_both : (q : K) (row first : Row) → compare (key row) (key first) ≡ Greater → (x : Option Row) → cond (is_eq (compare q (key first))) (Some first) (cond (is_eq (compare q (key row))) (Some row) x) ≡ cond (is_eq (compare q (key row))) (Some row) (cond (is_eq (compare q (key first))) (Some first) x)
  not_both q row first above x =
      elim (is_eq (compare q (key row))) as (λ b. is_eq (compare q (key row)) ≡ b → cond (is_eq (compare q (key first))) (Some first) (cond b (Some row) x) ≡ cond b (Some row) (cond (is_eq (compare q (key first))) (Some first) x)) [
        | true ↦ λ e. ap (λ b. cond b (Some first) (Some row)) (ap is_eq (o.congr q (key row) (key first) (equal_from _ e) ∙ above))
        | false ↦ λ e. refl
      ] refl

  -- a row that is set is found by its key, and the others as before
  pub row_at-with : (q : K) (row : Row) (rows : List Row) → row_at compare key q (with_row compare key row rows) ≡ cond (is_eq (compare q (key row))) (Some row) (row_at compare key q rows)
  row_at-with q row [] = refl
  row_at-with q row (first ∷ rest) =
      elim (compare (key row) (key first)) as (λ r. compare (key row) (key first) ≡ r → row_at compare key q (placed r row first rest (with_row compare key row rest)) ≡ cond (is_eq (compare q (key row))) (Some row) (row_at compare key q (first ∷ rest))) [
        | Less ↦ λ e. refl
        | Equal ↦ λ e.
            let same : is_eq (compare q (key row)) ≡ is_eq (compare q (key first)) = ap is_eq (alike_right o (key row) (key first) q e) in
            twice (is_eq (compare q (key row))) (Some row) (Some first) (row_at compare key q rest) ∙ ap (λ b. cond (is_eq (compare q (key row))) (Some row) (cond b (Some first) (row_at compare key q rest))) same
        | Greater ↦ λ e. ap (λ x. cond (is_eq (compare q (key first))) (Some first) x) (row_at-with q row rest) ∙ not_both q row first e (row_at compare key q rest)
      ] refl

  -- a key that is dropped is not found, and the others are as before
  pub row_at-without : (q k : K) (rows : List Row) → row_at compare key q (without_key compare key k rows) ≡ cond (is_eq (compare q k)) None (row_at compare key q rows)
  row_at-without q k [] = same_cond (is_eq (compare q k)) None
  row_at-without q k (row ∷ rows) =
      let later = row_at-without q k rows in
      elim (is_eq (compare k (key row))) as (λ b. is_eq (compare k (key row)) ≡ b → row_at compare key q (cond (not b) (row ∷ without_key compare key k rows) (without_key compare key k rows)) ≡ cond (is_eq (compare q k)) None (row_at compare key q (row ∷ rows))) [
        | true ↦ λ e.
            let same : is_eq (compare q k) ≡ is_eq (compare q (key row)) = ap is_eq (alike_right o k (key row) q (equal_from _ e)) in
            later ∙ twice (is_eq (compare q k)) None (Some row) (row_at compare key q rows) ∙ ap (λ b. cond (is_eq (compare q k)) None (cond b (Some row) (row_at compare key q rows))) same
        | false ↦ λ e.
            ap (λ x. cond (is_eq (compare q (key row))) (Some row) x) later
            ∙ elim (is_eq (compare q k)) as (λ b. is_eq (compare q k) ≡ b → cond (is_eq (compare q (key row))) (Some row) (cond b None (row_at compare key q rows)) ≡ cond b None (cond (is_eq (compare q (key row))) (Some row) (row_at compare key q rows))) [
              | true ↦ λ t. ap (λ b. cond b (Some row) None) (ap is_eq (o.congr q k (key row) (equal_from _ t)) ∙ e)
              | false ↦ λ t. refl
            ] refl
      ] refl

  -- the change, or the row as it is, has the row's key
  keyed : (b : Bool) (change : Row → Row) → ((row : Row) → key (change row) ≡ key row) → (row : Row) → key (cond b (change row) row) ≡ key row
  keyed true change keeps row = keeps row
  keyed false change keeps row = refl

  -- the choice of a row is made beside its `Some`
  some_cond : (b : Bool) (x y : Row) → Some (cond b x y) ≡ cond b (Some x) (Some y)
  some_cond true x y = refl
  some_cond false x y = refl

  -- a key that ties with a row's is tested as that is
  same_test : (q k x : K) → compare q x ≡ Equal → is_eq (compare k x) ≡ is_eq (compare q k)
  same_test q k x e = (eq_by_cmp_equiv o).symm k x ∙ sym (ap is_eq (o.congr q x k e))

  -- a row that is changed under its key
  pub row_at-changed : (q k : K) (change : Row → Row) → ((row : Row) → key (change row) ≡ key row) → (rows : List Row) → row_at compare key q (changed_at compare key k change rows) ≡ cond (is_eq (compare q k)) (option_map change (row_at compare key q rows)) (row_at compare key q rows)
  row_at-changed q k change keeps [] = same_cond (is_eq (compare q k)) None
  row_at-changed q k change keeps (row ∷ rows) =
      let later = row_at-changed q k change keeps rows in
      let next = cond (is_eq (compare k (key row))) (change row) row in
      ap (λ x. cond (is_eq (compare q x)) (Some next) (row_at compare key q (changed_at compare key k change rows))) (keyed (is_eq (compare k (key row))) change keeps row)
      ∙ elim (is_eq (compare q (key row))) as (λ b. is_eq (compare q (key row)) ≡ b → cond b (Some next) (row_at compare key q (changed_at compare key k change rows)) ≡ cond (is_eq (compare q k)) (option_map change (cond b (Some row) (row_at compare key q rows))) (cond b (Some row) (row_at compare key q rows))) [
        | true ↦ λ e. some_cond (is_eq (compare k (key row))) (change row) row ∙ ap (λ b. cond b (Some (change row)) (Some row)) (same_test q k (key row) (equal_from _ e))
        | false ↦ λ e. later
      ] refl

  -- ---- the keys rise
  abbrev pub Below : Row → List Row → Type 0
  Below row rows = AllByRecursion (λ next. compare (key row) (key next) ≡ Less) rows

  -- a row above the first stays above it when it is set among the others
  Below-with : (first row : Row) (rows : List Row) → compare (key first) (key row) ≡ Less → Below first rows → Below first (with_row compare key row rows)
  Below-with first row [] e h = (e, tt)
  Below-with first row (x ∷ rest) e h =
      elim (compare (key row) (key x)) as (λ r. Below first (placed r row x rest (with_row compare key row rest))) [
        | Less ↦ (e, h)
        | Equal ↦ (e, h.1)
        | Greater ↦ (h.0, Below-with first row rest e h.1)
      ]

  -- what is below a row is below what is above it
  Below-trans : (row first : Row) (rows : List Row) → compare (key row) (key first) ≡ Less → Below first rows → Below row rows
  Below-trans row first [] e h = tt
  Below-trans row first (x ∷ rest) e h = (o.trans (key row) (key first) (key x) e h.0, Below-trans row first rest e h.1)

  -- what is above a row is above a row that ties with it
  Below-tied : (row first : Row) (rows : List Row) → compare (key row) (key first) ≡ Equal → Below first rows → Below row rows
  Below-tied row first [] e h = tt
  Below-tied row first (x ∷ rest) e h = (o.congr (key row) (key first) (key x) e ∙ h.0, Below-tied row first rest e h.1)

  -- the keys still rise when a row is set
  pub Rises-with : (row : Row) (rows : List Row) → Rises compare key rows → Rises compare key (with_row compare key row rows)
  Rises-with row [] h = (tt, tt)
  Rises-with row (first ∷ rest) h =
      elim (compare (key row) (key first)) as (λ r. compare (key row) (key first) ≡ r → Rises compare key (placed r row first rest (with_row compare key row rest))) [
        | Less ↦ λ e. ((e, Below-trans row first rest e h.0), h)
        | Equal ↦ λ e. (Below-tied row first rest e h.0, h.1)
        | Greater ↦ λ e. (Below-with first row rest (o.antisymm (key first) (key row) ∙ ap ordering_reverse e) h.0, Rises-with row rest h.1)
      ] refl

  -- what is above a row is so where some is left out
  Below-filter : (first : Row) (p : Row → Bool) (rows : List Row) → Below first rows → Below first (filter p rows)
  Below-filter first p [] h = tt
  Below-filter first p (x ∷ rest) h = elim (p x) as (λ b. Below first (cond b (x ∷ filter p rest) (filter p rest))) [ true ↦ (h.0, Below-filter first p rest h.1) | false ↦ Below-filter first p rest h.1 ]

  -- the keys still rise where rows are left out
  pub Rises-filter : (p : Row → Bool) (rows : List Row) → Rises compare key rows → Rises compare key (filter p rows)
  Rises-filter p [] h = tt
  Rises-filter p (x ∷ rest) h = elim (p x) as (λ b. Rises compare key (cond b (x ∷ filter p rest) (filter p rest))) [ true ↦ (Below-filter x p rest h.0, Rises-filter p rest h.1) | false ↦ Rises-filter p rest h.1 ]

  -- the keys still rise when a key is dropped
  pub Rises-without : (k : K) (rows : List Row) → Rises compare key rows → Rises compare key (without_key compare key k rows)
  Rises-without k = Rises-filter _

  -- rows that keep their keys stay above
  Below-map : (first : Row) (f : Row → Row) → ((row : Row) → key (f row) ≡ key row) → (rows : List Row) → Below first rows → Below (f first) (map f rows)
  Below-map first f keeps [] h = tt
  Below-map first f keeps (x ∷ rest) h = ((λ i. compare (keeps first i) (keeps x i)) ∙ h.0, Below-map first f keeps rest h.1)

  -- the keys still rise when rows change under their keys
  pub Rises-map : (f : Row → Row) → ((row : Row) → key (f row) ≡ key row) → (rows : List Row) → Rises compare key rows → Rises compare key (map f rows)
  Rises-map f keeps [] h = tt
  Rises-map f keeps (x ∷ rest) h = (Below-map x f keeps rest h.0, Rises-map f keeps rest h.1)

  -- the keys still rise when the row of one key changes under it
  pub Rises-changed : (k : K) (change : Row → Row) → ((row : Row) → key (change row) ≡ key row) → (rows : List Row) → Rises compare key rows → Rises compare key (changed_at compare key k change rows)
  Rises-changed k change keeps rows = Rises-map _ (λ row. keyed (is_eq (compare k (key row))) change keeps row) rows

  -- ---- what is found tells the table
  -- a key that is below the first isn't found
  pub row_at-below : (first : Row) (rows : List Row) → Below first rows → row_at compare key (key first) rows ≡ None
  row_at-below first [] h = refl
  row_at-below first (x ∷ rest) h = ap (λ r. cond (is_eq r) (Some x) (row_at compare key (key first) rest)) h.0 ∙ row_at-below first rest h.1

  -- the first row is found by its key
  found_first : (row : Row) (rows : List Row) → row_at compare key (key row) (row ∷ rows) ≡ Some row
  found_first row rows = ap (λ r. cond (is_eq r) (Some row) (row_at compare key (key row) rows)) (tied_itself o (key row))

  -- without the first row, the same is found but for its key
  rest_found : (q : K) (row : Row) (rows : List Row) → Below row rows → row_at compare key q rows ≡ cond (is_eq (compare q (key row))) None (row_at compare key q (row ∷ rows))
  rest_found q row rows below =
      elim (is_eq (compare q (key row))) as (λ b. is_eq (compare q (key row)) ≡ b → row_at compare key q rows ≡ cond b None (cond b (Some row) (row_at compare key q rows))) [
        | true ↦ λ e. row_at-tied q (key row) (equal_from _ e) rows ∙ row_at-below row rows below
        | false ↦ λ e. refl
      ] refl

  -- tables in which the same is found are the same
  pub same_rows : (xs ys : List Row) → Rises compare key xs → Rises compare key ys → ((q : K) → row_at compare key q xs ≡ row_at compare key q ys) → xs ≡ ys
  same_rows [] [] s t h = refl
  same_rows [] (y ∷ ys) s t h = let e = h (key y) ∙ found_first y ys in cc
  same_rows (x ∷ xs) [] s t h = let e = sym (h (key x)) ∙ found_first x xs in cc
  same_rows (x ∷ xs) (y ∷ ys) s t h =
      elim (compare (key x) (key y)) as (λ r. compare (key x) (key y) ≡ r → x ∷ xs ≡ y ∷ ys) [
        | Less ↦ λ e.
            let absent : row_at compare key (key x) (y ∷ ys) ≡ None = row_at-below x (y ∷ ys) (e, Below-trans x y ys e t.0) in
            let f = sym (found_first x xs) ∙ h (key x) ∙ absent in cc
        | Equal ↦ λ e.
            let same : x ≡ y = some_same x y (sym (found_first x xs) ∙ h (key x) ∙ ap (λ r. cond (is_eq r) (Some y) (row_at compare key (key x) ys)) e) in
            let rests : xs ≡ ys = same_rows xs ys s.1 t.1 (λ q. rest_found q x xs s.0 ∙ ap (cond (is_eq (compare q (key x))) None) (h q) ∙ ap (λ b. cond b None (row_at compare key q (y ∷ ys))) (ap is_eq (alike_right o (key x) (key y) q e)) ∙ sym (rest_found q y ys t.0)) in
            λ i. same i ∷ rests i
        | Greater ↦ λ e.
            let less : compare (key y) (key x) ≡ Less = o.antisymm (key y) (key x) ∙ ap ordering_reverse e in
            let absent : row_at compare key (key y) (x ∷ xs) ≡ None = row_at-below y (x ∷ xs) (less, Below-trans y x xs less s.0) in
            let f = sym (found_first y ys) ∙ sym (h (key y)) ∙ absent in cc
      ] refl
    where
      some_same : (a b : Row) → Some a ≡ Some b → a ≡ b
      some_same a b e = cc

  -- what is found has the key
  pub found_key : (k : K) (row : Row) (rows : List Row) → row_at compare key k rows ≡ Some row → compare k (key row) ≡ Equal
  found_key k row [] e = cc
  found_key k row (x ∷ rest) e =
      elim (is_eq (compare k (key x))) as (λ b. is_eq (compare k (key x)) ≡ b → cond b (Some x) (row_at compare key k rest) ≡ Some row → compare k (key row) ≡ Equal) [
        | true ↦ λ t f. let same : x ≡ row = cc in ap (λ z. compare k (key z)) (sym same) ∙ equal_from _ t
        | false ↦ λ t f. found_key k row rest f
      ] refl e

  -- to change the row of a key is to set what the change makes of it
  pub changed-with : (k : K) (change : Row → Row) → ((row : Row) → key (change row) ≡ key row) → (row : Row) (rows : List Row) → Rises compare key rows → row_at compare key k rows ≡ Some row → changed_at compare key k change rows ≡ with_row compare key (change row) rows
  changed-with k change keeps row rows s e = same_rows _ _ (Rises-changed k change keeps rows s) (Rises-with (change row) rows s) (λ q.
      let same : is_eq (compare q k) ≡ is_eq (compare q (key (change row))) = ap is_eq (alike_right o k (key row) q (found_key k row rows e)) ∙ ap (λ x. is_eq (compare q x)) (sym (keeps row)) in
      row_at-changed q k change keeps rows
      ∙ elim (is_eq (compare q k)) as (λ b. is_eq (compare q k) ≡ b → cond b (option_map change (row_at compare key q rows)) (row_at compare key q rows) ≡ cond b (Some (change row)) (row_at compare key q rows)) [
        | true ↦ λ t. ap (option_map change) (row_at-tied q k (equal_from _ t) rows ∙ e)
        | false ↦ λ t. refl
      ] refl
      ∙ ap (λ b. cond b (Some (change row)) (row_at compare key q rows)) same
      ∙ sym (row_at-with q (change row) rows))

  -- to set a row as it is changes nothing
  pub with-same : (k : K) (row : Row) (rows : List Row) → Rises compare key rows → row_at compare key k rows ≡ Some row → with_row compare key row rows ≡ rows
  with-same k row rows s e = same_rows _ _ (Rises-with row rows s) s (λ q.
      row_at-with q row rows
      ∙ elim (is_eq (compare q (key row))) as (λ b. is_eq (compare q (key row)) ≡ b → cond b (Some row) (row_at compare key q rows) ≡ row_at compare key q rows) [
        | true ↦ λ t. sym e ∙ sym (row_at-tied q k (alike_right o k (key row) q (found_key k row rows e) ∙ equal_from _ t) rows)
        | false ↦ λ t. refl
      ] refl)

  -- a change of a key that isn't there changes nothing
  pub changed-absent : (k : K) (change : Row → Row) (rows : List Row) → row_at compare key k rows ≡ None → changed_at compare key k change rows ≡ rows
  changed-absent k change [] e = refl
  changed-absent k change (x ∷ rest) e =
      elim (is_eq (compare k (key x))) as (λ b. cond b (Some x) (row_at compare key k rest) ≡ None → cond b (change x) x ∷ changed_at compare key k change rest ≡ x ∷ rest) [
        | true ↦ λ f. cc
        | false ↦ λ f. ap (λ later. x ∷ later) (changed-absent k change rest f)
      ] e

  -- the row that is set where one was found, as change makes it of that
  abbrev pub set_found : (Row → Row) → Option Row → List Row → List Row
  set_found change None rows = rows
  set_found change (Some row) rows = with_row compare key (change row) rows

  -- a row found elsewhere serves, where change makes the same of it
  pub set_found-changed : (k : K) (change : Row → Row) → ((row : Row) → key (change row) ≡ key row) → (rows : List Row) → Rises compare key rows → (x : Option Row) → option_map change (row_at compare key k rows) ≡ option_map change x → set_found change x rows ≡ changed_at compare key k change rows
  set_found-changed k change keeps rows s x h =
      elim (row_at compare key k rows) as (λ y. row_at compare key k rows ≡ y → option_map change y ≡ option_map change x → set_found change x rows ≡ changed_at compare key k change rows) [
        | None ↦ λ e f. elim x as (λ x. option_map change None ≡ option_map change x → set_found change x rows ≡ changed_at compare key k change rows) [ None ↦ λ g. sym (changed-absent k change rows e) | Some r ↦ λ g. cc ] f
        | Some row ↦ λ e f. elim x as (λ x. option_map change (Some row) ≡ option_map change x → set_found change x rows ≡ changed_at compare key k change rows) [
          | None ↦ λ g. cc
          | Some r ↦ λ g. let same : change r ≡ change row = cc in ap (λ z. with_row compare key z rows) same ∙ sym (changed-with k change keeps row rows s e)
        ] f
      ] refl h

  -- a change that is the same made twice, made a second time after a choice
  again : (b : Bool) (change : Row → Row) → ((row : Row) → change (change row) ≡ change row) → (x : Option Row) → option_map change (cond b (option_map change x) x) ≡ option_map change x
  again true change twice None = refl
  again true change twice (Some row) = ap Some (twice row)
  again false change twice x = refl

  -- a change that is made twice is made once
  pub changed-again : (q k : K) (change : Row → Row) → ((row : Row) → key (change row) ≡ key row) → ((row : Row) → change (change row) ≡ change row) → (rows : List Row) → option_map change (row_at compare key q (changed_at compare key k change rows)) ≡ option_map change (row_at compare key q rows)
  changed-again q k change keeps twice rows = ap (option_map change) (row_at-changed q k change keeps rows) ∙ again (is_eq (compare q k)) change twice (row_at compare key q rows)

  -- ---- several keys dropped
  -- some of the rows has this key
  abbrev pub named : K → List Row → Bool
  named q rows = list_any (λ row. is_eq (compare q (key row))) rows

  -- what is found after the keys of several rows are dropped
  row_at-without_all : (q : K) (gone rows : List Row) → row_at compare key q (fold (λ rows row. without_key compare key (key row) rows) rows gone) ≡ cond (named q gone) None (row_at compare key q rows)
  row_at-without_all q [] rows = refl
  row_at-without_all q (row ∷ gone) rows =
      row_at-without_all q gone (without_key compare key (key row) rows)
      ∙ ap (cond (named q gone) None) (row_at-without q (key row) rows)
      ∙ either_none (is_eq (compare q (key row))) (named q gone) (row_at compare key q rows)
    where
      either_none : (a b : Bool) (x : Option Row) → cond b None (cond a None x) ≡ cond (a || b) None x
      either_none true true x = refl
      either_none true false x = refl
      either_none false b x = refl

  -- the keys still rise after several are dropped
  Rises-without_all : (gone rows : List Row) → Rises compare key rows → Rises compare key (fold (λ rows row. without_key compare key (key row) rows) rows gone)
  Rises-without_all [] rows h = h
  Rises-without_all (row ∷ gone) rows h = Rises-without_all gone (without_key compare key (key row) rows) (Rises-without (key row) rows h)

  -- in a table, the rows that pass are told by their keys
  -- a key that isn't found is no row's, whatever rows are picked
  none_named : (q : K) (p : Row → Bool) (rows : List Row) → row_at compare key q rows ≡ None → named q (filter p rows) ≡ false
  none_named q p [] e = refl
  none_named q p (row ∷ rows) e =
      elim (is_eq (compare q (key row))) as (λ b. is_eq (compare q (key row)) ≡ b → cond b (Some row) (row_at compare key q rows) ≡ None → named q (cond (p row) (row ∷ filter p rows) (filter p rows)) ≡ false) [
        | true ↦ λ t f. cc
        | false ↦ λ t f. elim (p row) as (λ c. named q (cond c (row ∷ filter p rows) (filter p rows)) ≡ false) [ true ↦ ap (λ b. b || named q (filter p rows)) t ∙ none_named q p rows f | false ↦ none_named q p rows f ]
      ] refl e

  -- what is found among the rows that don't pass
  kept_found : (q : K) (p : Row → Bool) (rows : List Row) → Rises compare key rows → row_at compare key q (filter (λ row. not (p row)) rows) ≡ cond (named q (filter p rows)) None (row_at compare key q rows)
  kept_found q p [] h = refl
  kept_found q p (row ∷ rows) h =
      let later = kept_found q p rows h.1 in
      let x = row_at compare key q rows in
      elim (p row) as (λ c. row_at compare key q (cond (not c) (row ∷ filter (λ row. not (p row)) rows) (filter (λ row. not (p row)) rows)) ≡ cond (named q (cond c (row ∷ filter p rows) (filter p rows))) None (cond (is_eq (compare q (key row))) (Some row) x)) [
        | true ↦ later ∙ elim (is_eq (compare q (key row))) as (λ b. is_eq (compare q (key row)) ≡ b → cond (named q (filter p rows)) None x ≡ cond (b || named q (filter p rows)) None (cond b (Some row) x)) [
          | true ↦ λ t. ap (cond (named q (filter p rows)) None) (gone q row rows h t) ∙ sym (same_cond (named q (filter p rows)) None)
          | false ↦ λ t. refl
        ] refl
        | false ↦ ap (cond (is_eq (compare q (key row))) (Some row)) later ∙ elim (is_eq (compare q (key row))) as (λ b. is_eq (compare q (key row)) ≡ b → cond b (Some row) (cond (named q (filter p rows)) None x) ≡ cond (named q (filter p rows)) None (cond b (Some row) x)) [
          | true ↦ λ t. ap (λ b. cond b None (Some row)) (sym (none_named q p rows (gone q row rows h t)))
          | false ↦ λ t. refl
        ] refl
      ]
    where
      gone : (q : K) (row : Row) (rows : List Row) → Rises compare key (row ∷ rows) → is_eq (compare q (key row)) ≡ true → row_at compare key q rows ≡ None
      gone q row rows h t = row_at-tied q (key row) (equal_from _ t) rows ∙ row_at-below row rows h.0

  -- to drop the rows that pass, key by key, is to keep the others
  pub without_passing : (p : Row → Bool) (rows : List Row) → Rises compare key rows → fold (λ rows row. without_key compare key (key row) rows) rows (filter p rows) ≡ filter (λ row. not (p row)) rows
  without_passing p rows h = same_rows _ _ (Rises-without_all (filter p rows) rows h) (Rises-filter (λ row. not (p row)) rows h) (λ q. row_at-without_all q (filter p rows) rows ∙ sym (kept_found q p rows h))

  -- ---- sums
  -- a sum over the rows grows by a row of a new key
  pub sum-with_new : (f : Row → ℕ) (row : Row) (rows : List Row) → row_at compare key (key row) rows ≡ None → sum_by f (with_row compare key row rows) ≡ f row + sum_by f rows
  sum-with_new f row [] e = sum_by-cons f row []
  sum-with_new f row (x ∷ rest) e =
      elim (compare (key row) (key x)) as (λ r. cond (is_eq r) (Some x) (row_at compare key (key row) rest) ≡ None → sum_by f (placed r row x rest (with_row compare key row rest)) ≡ f row + sum_by f (x ∷ rest)) [
        | Less ↦ λ g. sum_by-cons f row (x ∷ rest)
        | Equal ↦ λ g. cc
        | Greater ↦ λ g. omega (arith, sum_by-cons f x (with_row compare key row rest), sum_by-cons f x rest, sum-with_new f row rest g)
      ] e

  -- without a key that isn't there the rows are the same
  pub without-absent : (k : K) (rows : List Row) → row_at compare key k rows ≡ None → without_key compare key k rows ≡ rows
  without-absent k [] e = refl
  without-absent k (x ∷ rest) e =
      elim (is_eq (compare k (key x))) as (λ b. cond b (Some x) (row_at compare key k rest) ≡ None → cond (not b) (x ∷ without_key compare key k rest) (without_key compare key k rest) ≡ x ∷ rest) [
        | true ↦ λ g. cc
        | false ↦ λ g. ap (λ later. x ∷ later) (without-absent k rest g)
      ] e

  -- a sum over the rows falls by the row of a key that is dropped
  pub sum-without : (f : Row → ℕ) (k : K) (row : Row) (rows : List Row) → Rises compare key rows → row_at compare key k rows ≡ Some row → sum_by f (without_key compare key k rows) + f row ≡ sum_by f rows
  sum-without f k row [] h e = cc
  sum-without f k row (x ∷ rest) h e =
      elim (is_eq (compare k (key x))) as (λ b. is_eq (compare k (key x)) ≡ b → cond b (Some x) (row_at compare key k rest) ≡ Some row → sum_by f (cond (not b) (x ∷ without_key compare key k rest) (without_key compare key k rest)) + f row ≡ sum_by f (x ∷ rest)) [
        | true ↦ λ t g.
            let same : x ≡ row = cc in
            let none : row_at compare key k rest ≡ None = row_at-tied k (key x) (equal_from _ t) rest ∙ row_at-below x rest h.0 in
            omega (arith, ap (sum_by f) (without-absent k rest none), ap f same, sum_by-cons f x rest)
        | false ↦ λ t g. omega (arith, sum_by-cons f x (without_key compare key k rest), sum_by-cons f x rest, sum-without f k row rest h.1 g)
      ] refl e

  -- a change that keeps the summand keeps the sum
  pub sum-changed : (f : Row → ℕ) (k : K) (change : Row → Row) → ((row : Row) → f (change row) ≡ f row) → (rows : List Row) → sum_by f (changed_at compare key k change rows) ≡ sum_by f rows
  sum-changed f k change same [] = refl
  sum-changed f k change same (x ∷ rest) =
      let next = cond (is_eq (compare k (key x))) (change x) x in
      let here : f next ≡ f x = elim (is_eq (compare k (key x))) as (λ b. f (cond b (change x) x) ≡ f x) [ true ↦ same x | false ↦ refl ] in
      omega (arith, here, sum_by-cons f next (changed_at compare key k change rest), sum_by-cons f x rest, sum-changed f k change same rest)

-- a sum over the rows that pass counts the others as 0
pub sum-filter : {A : Type 0} (f : A → ℕ) (p : A → Bool) (xs : List A) → sum_by f (filter p xs) ≡ sum_by (λ x. cond (p x) (f x) 0) xs
sum-filter f p [] = refl
sum-filter f p (x ∷ xs) =
    elim (p x) as (λ b. p x ≡ b → sum_by f (cond b (x ∷ filter p xs) (filter p xs)) ≡ sum_by (λ x. cond (p x) (f x) 0) (x ∷ xs)) [
      | true ↦ λ e. let here : cond (p x) (f x) 0 ≡ f x = ap (λ b. cond b (f x) 0) e in omega (arith, here, sum_by-cons f x (filter p xs), sum_by-cons (λ x. cond (p x) (f x) 0) x xs, sum-filter f p xs)
      | false ↦ λ e. let here : cond (p x) (f x) 0 ≡ 0 = ap (λ b. cond b (f x) 0) e in omega (arith, here, sum_by-cons (λ x. cond (p x) (f x) 0) x xs, sum-filter f p xs)
    ] refl
