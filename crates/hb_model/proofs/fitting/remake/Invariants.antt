use Rattle.std.proofs.Common.{◌≡◌}
use Rattle.hb_rows.specs.Tables.{entries}
use Rattle.hb_model.proofs.Remaking.{Goes}
use Rattle.hb_model.proofs.fitting.remake.Given as goal

-- the rows of the entries so far, whose kinds are built
abbrev pub invariant-loop-entry : goal.invariant-loop-entry
invariant-loop-entry l = record {
  goes : Goes l.entry-items l.entry-index l.made;
  counted : l.place ≡ l.entry-index;
  items : l.entry-items ≡ entries l.rows;
}
