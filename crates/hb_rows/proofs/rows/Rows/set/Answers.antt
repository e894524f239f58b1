use Rattle.std.proofs.Common.{sym, subst}
use Rattle.hb_rows.specs.Tables.{AreTables}
use Rattle.hb_rows.specs.Lists.{tables_of}
use Rattle.hb_rows.proofs.KeysRise.{AreTables-set}
use Rattle.hb_rows.proofs.rows.Rows.set.Goals as goal

pub invariant_of-self-2 : goal.invariant_of-self-2
invariant_of-self-2 c =
    subst AreTables (sym c.set.ensures.tables) (AreTables-set (tables_of c.reserve.new.lists) c.args.row
    (subst AreTables (sym c.reserve.ensures.same) c.self.invariant))
