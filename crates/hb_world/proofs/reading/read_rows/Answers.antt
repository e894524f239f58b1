use Rattle.std.proofs.Common.{IfSome, subst, ◌∙◌, arith}
use Rattle.hb_rows.specs.Tables.{AreTables}
use Rattle.hb_world.proofs.ReadTables.{all_tables, told-all, told-table}
use Rattle.hb_world.proofs.reading.read_rows.Goals as goal

pub loop-table-preserved : goal.loop-table-preserved
loop-table-preserved g c =
    let before = c.loop-table.invariant in
    record {
      same = c.read_table.ensures.rows ∙ before.same;
      later = omega (arith, c.read_table.ensures.cause.later, before.later);
      tables = λ some. subst (λ rows. IfSome rows AreTables) before.same c.in_ok-read_table.ensures.tables;
      told = told-table _ _ all_tables c.loop-table.table-index _ c.loop-table.rows c.read_table.new.rows before.same c.loop-table-test.true before.told c.in_ok-read_table.ensures.told;
    }

pub returns-clause-told : goal.returns-clause-told
returns-clause-told g c =
    let all = c.loop-table.invariant in
    told-all _ c.loop-table.table-index c.loop-table.rows (omega (arith, c.loop-table-test.false, c.loop-table.auto.table-index-end)) (all.tables (omega (arith, c.loop-table-test.false))) all.told
