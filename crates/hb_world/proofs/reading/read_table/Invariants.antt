use Rattle.std.proofs.Common.{◌≡◌, ◌≤◌, IfSome}
use Rattle.hb_world.proofs.ReadPages.{HasRead}
use Rattle.hb_world.proofs.reading.read_table.Given as goal

abbrev pub invariant-loop : goal.invariant-loop
invariant-loop g l = record {
  same : g.K.Keeper.rows l.keeper ≡ g.K.Keeper.rows l.fn.keeper;
  later : g.K.Keeper.faults l.fn.keeper ≤ g.K.Keeper.faults l.keeper;
  told : IfSome (g.K.Keeper.rows l.fn.keeper) (λ t. HasRead t l.table l.fn.rows l.rows l.after);
}
