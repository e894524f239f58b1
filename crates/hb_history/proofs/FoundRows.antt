-- What is found in tables whose keys rise.
use Rattle.std.proofs.Common.{◌≡◌, Bool, true, false, cond, List, [], ◌∷◌, Some, None, refl, sym, ap, ◌∙◌}
use Rattle.std.specs.List.{filter, AllByRecursion}
use Rattle.std.specs.declared.cmp.Ordering.{Ordering}
use Rattle.std.specs.Ordering.{is_eq}
use Rattle.std.specs.Cmp.{IsTotalOrder}
use Rattle.std.proofs.lemmas.Cmp.{tied_itself}
use Rattle.hb_base.specs.Tables.{row_at, Rises}
use Rattle.hb_base.proofs.TableLaws.{equal_from, row_at-tied, row_at-below}

module _ {Row K : Type 0} {compare : K → K → Ordering} (o : IsTotalOrder compare) (key : Row → K) where
  -- a key that ties with the first row's isn't found behind it
  pub gone_behind : (q : K) (row : Row) (rows : List Row) → Rises compare key (row ∷ rows) → is_eq (compare q (key row)) ≡ true → row_at compare key q rows ≡ None
  gone_behind q row rows h t = row_at-tied o key q (key row) (equal_from _ t) rows ∙ row_at-below o key row rows h.0

  -- what holds of each row that is found by its key holds of all rows
  pub all_found : (P : Row → Type 0) (rows : List Row) → Rises compare key rows → ((row : Row) → row_at compare key (key row) rows ≡ Some row → P row) → AllByRecursion P rows
  all_found P [] h f = tt
  all_found P (row ∷ rows) h f = (f row (ap (λ r. cond (is_eq r) (Some row) (row_at compare key (key row) rows)) (tied_itself o (key row))), all_found P rows h.1 (λ later e. f later (later_found later e)))
    where
      later_found : (later : Row) → row_at compare key (key later) rows ≡ Some later → row_at compare key (key later) (row ∷ rows) ≡ Some later
      later_found later e =
          elim (is_eq (compare (key later) (key row))) as (λ b. is_eq (compare (key later) (key row)) ≡ b → cond b (Some row) (row_at compare key (key later) rows) ≡ Some later) [
            | true ↦ λ t. let none = gone_behind (key later) row rows h t in cc
            | false ↦ λ t. e
          ] refl

  -- what is found among the rows that pass is found among all
  pub found_passing : (q : K) (test : Row → Bool) (rows : List Row) → Rises compare key rows → (row : Row) → row_at compare key q (filter test rows) ≡ Some row → row_at compare key q rows ≡ Some row
  found_passing q test [] h row e = e
  found_passing q test (first ∷ rows) h row e =
      elim (is_eq (compare q (key first))) as (λ b. is_eq (compare q (key first)) ≡ b → cond b (Some first) (row_at compare key q rows) ≡ Some row) [
        | true ↦ λ t. elim (test first) as (λ c. row_at compare key q (cond c (first ∷ filter test rows) (filter test rows)) ≡ Some row → Some first ≡ Some row) [
          | true ↦ λ f. ap (λ b. cond b (Some first) (row_at compare key q (filter test rows))) (sym t) ∙ f
          | false ↦ λ f. let later = found_passing q test rows h.1 row f in let none = gone_behind q first rows h t in cc
        ] e
        | false ↦ λ t. elim (test first) as (λ c. row_at compare key q (cond c (first ∷ filter test rows) (filter test rows)) ≡ Some row → row_at compare key q rows ≡ Some row) [
          | true ↦ λ f. found_passing q test rows h.1 row (ap (λ b. cond b (Some first) (row_at compare key q (filter test rows))) (sym t) ∙ f)
          | false ↦ λ f. found_passing q test rows h.1 row f
        ] e
      ] refl
