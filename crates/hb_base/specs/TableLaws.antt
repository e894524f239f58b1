-- The laws of tables, each as a fact about an order of keys and the key of a row.
use Rattle.std.specs.Prelude.{◌≡◌, ℕ, List, Some, None, Ok, Err, if◌then◌else◌, insert, slice_set}
use Rattle.std.specs.declared.cmp.Ordering.{Ordering}
use Rattle.std.specs.Ordering.{is_eq}
use Rattle.hb_base.specs.Tables.{row_at, with_row, with_row_by, without_key, place_of, Rises}

module _ {Row K : Type 0} (compare : K → K → Ordering) (key : Row → K) where
  -- A row that is set is found by its key, and by any other key what was found before.
  abbrev pub FindsTheRowSet : Type 0
  FindsTheRowSet = (q : K) (row : Row) (rows : List Row) → row_at compare key q (with_row compare key row rows) ≡ (if is_eq (compare q (key row)) then Some row else row_at compare key q rows)

  -- A key that is dropped isn't found, and by any other key what was found before.
  abbrev pub FindsNoRowDropped : Type 0
  FindsNoRowDropped = (q k : K) (rows : List Row) → row_at compare key q (without_key compare key k rows) ≡ (if is_eq (compare q k) then None else row_at compare key q rows)

  -- Where the keys rise they still do when a row is set.
  abbrev pub RisesWithARowSet : Type 0
  RisesWithARowSet = (row : Row) (rows : List Row) → Rises compare key rows → Rises compare key (with_row compare key row rows)

  -- Where the keys rise they still do when a key is dropped.
  abbrev pub RisesWithAKeyDropped : Type 0
  RisesWithAKeyDropped = (k : K) (rows : List Row) → Rises compare key rows → Rises compare key (without_key compare key k rows)

  -- Two tables whose keys rise, and in which the same is found by every key, are the same rows.
  abbrev pub LookupsTellTheTable : Type 0
  LookupsTellTheTable = (xs ys : List Row) → Rises compare key xs → Rises compare key ys → ((q : K) → row_at compare key q xs ≡ row_at compare key q ys) → xs ≡ ys

-- A row is set over the row at its place where one has its key, and else is inserted there.
pub record PlacesTellWhereRowsGo {Row : Type 0} (order : Row → Row → Ordering) : Type 0 where
  pub over : (row : Row) (rows : List Row) (i : ℕ) → place_of (order row) rows ≡ Ok i → with_row_by order row rows ≡ slice_set rows i row
  pub between : (row : Row) (rows : List Row) (i : ℕ) → place_of (order row) rows ≡ Err i → with_row_by order row rows ≡ insert rows i row
