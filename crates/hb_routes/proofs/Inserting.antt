-- What an insert into a matcher that fails says, where the pattern reads well and conflicts with none that the matcher holds.
use Rattle.std.proofs.Common.{◌≡◌, refl, ℕ, List, Result, Ok, Err, Some, None}
use Rattle.matchit.specs.Rows.{RowsOf}
use Rattle.matchit.specs.Route.{Scan, parse_route}
use Rattle.matchit.specs.Router.{RouteOf, InsertsRead, Refused, nearest}
use Rattle.matchit.specs.declared.error.InsertError.{InsertError}
use Rattle.matchit.specs.declared.error.InsertError.TheVariants.{Conflict, InvalidParam, InvalidParamSegment, InvalidCatchAll, OutOfMemory}

-- a route that reads well and conflicts with none of the rows
abbrev pub IsFree : {T : Type 0} → Result Scan InsertError → RowsOf (RouteOf T) → Type 0
IsFree (Ok s) rows = nearest s.pattern rows ≡ None
IsFree (Err e) rows = ⊥

refused-for-memory : {T : Type 0} (pattern : List ℕ) (rows : RowsOf (RouteOf T)) (e : InsertError) → nearest pattern rows ≡ None → Refused pattern rows e → e ≡ OutOfMemory
refused-for-memory pattern rows OutOfMemory free refused = refl
refused-for-memory pattern rows (Conflict with) free refused = let met : nearest pattern rows ≡ Some refused.0 = refused.1 in cc
refused-for-memory pattern rows InvalidParamSegment free refused = absurd refused
refused-for-memory pattern rows InvalidParam free refused = absurd refused
refused-for-memory pattern rows InvalidCatchAll free refused = absurd refused

free-for-memory : {T : Type 0} (read : Result Scan InsertError) (value : T) (rows new : RowsOf (RouteOf T)) (e : InsertError) → IsFree read rows → InsertsRead read value rows new (Err e) → e ≡ OutOfMemory
free-for-memory (Ok s) value rows new e free inserts = refused-for-memory s.pattern rows e free inserts.1
free-for-memory (Err f) value rows new e free inserts = absurd free

-- into rows that are known, the insert of such a route fails for want of memory alone
pub fails-for-memory : {T : Type 0} (text : List ℕ) (value : T) (new : RowsOf (RouteOf T)) {rows known : RowsOf (RouteOf T)} {e : InsertError} → rows ≡ known → IsFree (parse_route text) known → InsertsRead (parse_route text) value rows new (Err e) → e ≡ OutOfMemory
fails-for-memory text value new {rows} {known} {e} same free inserts =
    free-for-memory (parse_route text) value rows new e (rw same free) inserts
