use Rattle.std.proofs.Common.{◌≡◌, ◌<◌, ◌≤◌, IfSome, take}
use Rattle.hb_rows.specs.Tables.{AreTables, empty_tables}
use Rattle.hb_world.proofs.ReadTables.{with_tables}
use Rattle.hb_world.proofs.reading.read_rows.Given as goal

abbrev pub invariant-loop-table : goal.invariant-loop-table
invariant-loop-table g l = record {
  same : g.K.Keeper.rows l.keeper ≡ g.K.Keeper.rows l.fn.keeper;
  later : g.K.Keeper.faults l.fn.keeper ≤ g.K.Keeper.faults l.keeper;
  tables : 0 < l.table-index → IfSome (g.K.Keeper.rows l.fn.keeper) AreTables;
  told : IfSome (g.K.Keeper.rows l.fn.keeper) (λ t. l.rows ≡ with_tables t empty_tables (take l.table-index l.table-items));
}
