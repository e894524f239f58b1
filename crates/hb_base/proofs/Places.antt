-- Places of rows by key, one row further on.
use Rattle.std.proofs.Common.{◌≡◌, ℕ, ◌+◌, ◌<◌, ◌≤◌, List, [], ◌∷◌, length, get_or, set, drop, Result, Ok, Err, refl, ap, arith, add-one}
use Rattle.std.specs.List.{insert}
use Rattle.std.specs.declared.cmp.Ordering.{Ordering}
use Rattle.std.specs.declared.cmp.Ordering.TheVariants.{Less, Equal, Greater}
use Rattle.std.proofs.lemmas.List.{at_drop_more, at_drop_all}
use Rattle.hb_base.specs.Tables.{place_of, by_place, one_on, placed, with_row_by}

-- the place, i further on
abbrev pub shifted : ℕ → Result ℕ ℕ → Result ℕ ℕ
shifted i (Ok k) = Ok (i + k)
shifted i (Err k) = Err (i + k)

-- no further on is the same place
pub shifted-zero : (r : Result ℕ ℕ) → shifted 0 r ≡ r
shifted-zero (Ok k) = ap Ok (omega arith)
shifted-zero (Err k) = ap Err (omega arith)

-- one row more, and then i, is i + 1
pub shifted-one_on : (i : ℕ) (r : Result ℕ ℕ) → shifted i (one_on r) ≡ shifted (i + 1) r
shifted-one_on i (Ok k) = ap Ok (omega arith)
shifted-one_on i (Err k) = ap Err (omega arith)

module _ {Row : Type 0} (at : Row → Ordering) (rows : List Row) (i : ℕ) (d : Row) (within : i < length rows) where
  -- the place among the rows from i on, by how the key stands to row i
  pub place_here : place_of at (drop i rows) ≡ by_place (at (get_or rows i d)) (place_of at (drop (i + 1) rows))
  place_here = at_drop_more (place_of at) rows i d within

-- behind the last row every key would go first
pub place_none : {Row : Type 0} (at : Row → Ordering) (rows : List Row) (i : ℕ) → length rows ≤ i → place_of at (drop i rows) ≡ Err 0
place_none at rows i h = at_drop_all (place_of at) rows i h

-- a place one further on is no place at the front
one_on-Ok : (r : Result ℕ ℕ) (i : ℕ) → one_on r ≡ Ok i → (k : ℕ) × (r ≡ Ok k) × (i ≡ k + 1)
one_on-Ok (Ok k) i e = (k, refl, cc)
one_on-Ok (Err k) i e = cc

one_on-Err : (r : Result ℕ ℕ) (i : ℕ) → one_on r ≡ Err i → (k : ℕ) × (r ≡ Err k) × (i ≡ k + 1)
one_on-Err (Ok k) i e = cc
one_on-Err (Err k) i e = (k, refl, cc)

module _ {Row : Type 0} (order : Row → Row → Ordering) (row : Row) where
  -- a row whose key is there is written over
  pub with_row-set : (rows : List Row) (i : ℕ) → place_of (order row) rows ≡ Ok i → with_row_by order row rows ≡ set rows i row
  with_row-set [] i e = cc
  with_row-set (first ∷ rest) i e =
      elim (order row first) as (λ o. by_place o (place_of (order row) rest) ≡ Ok i → placed o row first rest (with_row_by order row rest) ≡ set (first ∷ rest) i row) [
        | Less ↦ λ e. cc
        | Equal ↦ λ e. let z : 0 ≡ i = cc in rw (← z) refl
        | Greater ↦ λ e.
            let w = one_on-Ok _ i e in
            rw (w.2, add-one) (ap (λ later. first ∷ later) (with_row-set rest w.0 w.1))
      ] e

  -- another row is put where its key goes
  pub with_row-insert : (rows : List Row) (i : ℕ) → place_of (order row) rows ≡ Err i → with_row_by order row rows ≡ insert rows i row
  with_row-insert [] i e = let z : 0 ≡ i = cc in rw (← z) refl
  with_row-insert (first ∷ rest) i e =
      elim (order row first) as (λ o. by_place o (place_of (order row) rest) ≡ Err i → placed o row first rest (with_row_by order row rest) ≡ insert (first ∷ rest) i row) [
        | Less ↦ λ e. let z : 0 ≡ i = cc in rw (← z) refl
        | Equal ↦ λ e. cc
        | Greater ↦ λ e.
            let w = one_on-Err _ i e in
            rw (w.2, add-one) (ap (λ later. first ∷ later) (with_row-insert rest w.0 w.1))
      ] e
