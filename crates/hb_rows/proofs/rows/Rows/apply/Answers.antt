use Rattle.std.proofs.Common.{sym, subst}
use Rattle.hb_records.specs.declared.batches.Row.TheVariants as row
use Rattle.hb_rows.specs.Tables.{AreTables}
use Rattle.hb_rows.specs.Lists.{tables_of}
use Rattle.hb_rows.proofs.KeysRise.{AreTables-set, AreTables-changes}
use Rattle.hb_rows.proofs.rows.Rows.apply.Goals as goal

pub invariant_of-self-2 : goal.invariant_of-self-2
invariant_of-self-2 c =
    subst AreTables (sym c.set.ensures.tables) (AreTables-set (tables_of c.change_all.new.lists) (row.Entry c.in_ok-entry.entry)
    (subst AreTables (sym c.change_all.ensures.tables) (AreTables-changes (tables_of c.reserve.new.lists) c.into_vec.result.items
    (subst AreTables (sym c.reserve.ensures.same) c.self.invariant))))
