-- A table whose rows are seen as items of the same keys.
use Rattle.std.proofs.Common.{◌≡◌, Bool, true, false, not, cond, List, [], ◌∷◌, map, Some, option_map, refl, sym, ap, ◌∙◌}
use Rattle.std.specs.List.{filter}
use Rattle.std.specs.declared.cmp.Ordering.{Ordering}
use Rattle.std.specs.declared.cmp.Ordering.TheVariants.{Less, Equal, Greater}
use Rattle.std.specs.Ordering.{is_eq}
use Rattle.hb_base.specs.Tables.{placed, row_at, with_row, without_key, changed_at}

-- rows that pass, seen as items that pass
pub map-filter : {A B : Type 0} (f : A → B) (p : A → Bool) (q : B → Bool) → ((x : A) → q (f x) ≡ p x) → (xs : List A) → map f (filter p xs) ≡ filter q (map f xs)
map-filter f p q same [] = refl
map-filter f p q same (x ∷ xs) =
    elim (p x) as (λ b. map f (cond b (x ∷ filter p xs) (filter p xs)) ≡ cond b (f x ∷ filter q (map f xs)) (filter q (map f xs))) [ true ↦ ap (λ later. f x ∷ later) (map-filter f p q same xs) | false ↦ map-filter f p q same xs ]
    ∙ ap (λ b. cond b (f x ∷ filter q (map f xs)) (filter q (map f xs))) (sym (same x))

-- a change that isn't seen
pub map-unseen : {Row K Item : Type 0} (compare : K → K → Ordering) (key : Row → K) (f : Row → Item) (k : K) (change : Row → Row) → ((row : Row) → f (change row) ≡ f row) → (rows : List Row) → map f (changed_at compare key k change rows) ≡ map f rows
map-unseen compare key f k change same [] = refl
map-unseen compare key f k change same (row ∷ rows) =
    let here : f (cond (is_eq (compare k (key row))) (change row) row) ≡ f row = elim (is_eq (compare k (key row))) as (λ b. f (cond b (change row) row) ≡ f row) [ true ↦ same row | false ↦ refl ] in
    λ i. here i ∷ map-unseen compare key f k change same rows i

module _ {Row K Item : Type 0} (compare : K → K → Ordering) (key : Row → K) (name : Item → K) (f : Row → Item) (keys : (row : Row) → name (f row) ≡ key row) where
  -- the item of a key is the row of that key, seen as an item
  pub row_at-map : (k : K) (rows : List Row) → row_at compare name k (map f rows) ≡ option_map f (row_at compare key k rows)
  row_at-map k [] = refl
  row_at-map k (row ∷ rows) =
      ap (λ z. cond (is_eq (compare k z)) (Some (f row)) (row_at compare name k (map f rows))) (keys row)
      ∙ elim (is_eq (compare k (key row))) as (λ b. cond b (Some (f row)) (row_at compare name k (map f rows)) ≡ option_map f (cond b (Some row) (row_at compare key k rows))) [ true ↦ refl | false ↦ row_at-map k rows ]

  -- a row that is set is an item that is set
  pub map-with : (row : Row) (rows : List Row) → map f (with_row compare key row rows) ≡ with_row compare name (f row) (map f rows)
  map-with row [] = refl
  map-with row (first ∷ rest) =
      elim (compare (key row) (key first)) as (λ r. map f (placed r row first rest (with_row compare key row rest)) ≡ placed r (f row) (f first) (map f rest) (with_row compare name (f row) (map f rest))) [
        | Less ↦ refl
        | Equal ↦ refl
        | Greater ↦ ap (λ later. f first ∷ later) (map-with row rest)
      ]
      ∙ (let back = sym (keys row) in let back_first = sym (keys first) in λ i. placed (compare (back i) (back_first i)) (f row) (f first) (map f rest) (with_row compare name (f row) (map f rest)))

  -- a key that is dropped is dropped among the items
  pub map-without : (k : K) (rows : List Row) → map f (without_key compare key k rows) ≡ without_key compare name k (map f rows)
  map-without k rows = map-filter f _ _ (λ row. ap (λ z. not (is_eq (compare k z))) (keys row)) rows

  -- a change of a row is a change of its item
  pub map-changed : (k : K) (change : Row → Row) (seen : Item → Item) → ((row : Row) → f (change row) ≡ seen (f row)) → (rows : List Row) → map f (changed_at compare key k change rows) ≡ changed_at compare name k seen (map f rows)
  map-changed k change seen same [] = refl
  map-changed k change seen same (row ∷ rows) =
      let here : f (cond (is_eq (compare k (key row))) (change row) row) ≡ cond (is_eq (compare k (name (f row)))) (seen (f row)) (f row) =
      elim (is_eq (compare k (key row))) as (λ b. f (cond b (change row) row) ≡ cond b (seen (f row)) (f row)) [ true ↦ same row | false ↦ refl ]
      ∙ ap (λ z. cond (is_eq (compare k z)) (seen (f row)) (f row)) (sym (keys row)) in
      λ i. here i ∷ map-changed k change seen same rows i
