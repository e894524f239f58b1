-- What holds of all rows, where some are left out and where a table changes.
use Rattle.std.proofs.Common.{◌≡◌, Bool, false, List, [], ◌∷◌, IsTrue}
use Rattle.std.proofs.lemmas.Bool.{cond_both, or_parts}
use Rattle.std.specs.List.{AllByRecursion, filter, list_any}
use Rattle.std.specs.declared.cmp.Ordering.{Ordering}
use Rattle.std.specs.declared.cmp.Ordering.TheVariants.{Less, Equal, Greater}
use Rattle.std.specs.Ordering.{is_eq}
use Rattle.hb_base.specs.Tables.{placed, with_row, changed_at}

-- what holds of each that passes holds of all that are kept
pub all-passing : {A : Type 0} (P : A → Type 0) (test : A → Bool) (xs : List A) → AllByRecursion (λ x. IsTrue (test x) → P x) xs → AllByRecursion P (filter test xs)
all-passing P test [] h = tt
all-passing P test (x ∷ xs) h =
    let rest = all-passing P test xs h.1 in
    cond_both (test x) (x ∷ filter test xs) (filter test xs) (AllByRecursion P) (λ passes. (h.0 passes, rest)) (λ _. rest)

-- where none passes, what follows for one that fails follows for all
pub all-failing : {A : Type 0} (P Q : A → Type 0) (test : A → Bool) → ((x : A) → test x ≡ false → P x → Q x) → (xs : List A) → list_any test xs ≡ false → AllByRecursion P xs → AllByRecursion Q xs
all-failing P Q test f [] none h = tt
all-failing P Q test f (x ∷ xs) none h =
    let fails = or_parts (test x) (list_any test xs) none in
    (f x fails.0 h.0, all-failing P Q test f xs fails.1 h.1)

module _ {Row K : Type 0} (compare : K → K → Ordering) (key : Row → K) (P : Row → Type 0) where
  -- what holds of a row and of all others holds of all when the row is set
  pub all-with : (new : Row) (rows : List Row) → P new → AllByRecursion P rows → AllByRecursion P (with_row compare key new rows)
  all-with new [] p h = (p, tt)
  all-with new (row ∷ rows) p h =
      elim (compare (key new) (key row)) as (λ r. AllByRecursion P (placed r new row rows (with_row compare key new rows))) [
        | Less ↦ (p, h)
        | Equal ↦ (p, h.1)
        | Greater ↦ (h.0, all-with new rows p h.1)
      ]

  -- what a change keeps holds of all still when a row is changed
  pub all-changed : (k : K) (change : Row → Row) → ((row : Row) → P row → P (change row)) → (rows : List Row) → AllByRecursion P rows → AllByRecursion P (changed_at compare key k change rows)
  all-changed k change f [] h = tt
  all-changed k change f (row ∷ rows) h = (cond_both (is_eq (compare k (key row))) (change row) row P (λ _. f row h.0) (λ _. h.0), all-changed k change f rows h.1)
