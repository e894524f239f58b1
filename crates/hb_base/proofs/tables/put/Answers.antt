use Rattle.std.proofs.Common.{sym, ◌∙◌}
use Rattle.hb_base.proofs.Places.{with_row-set, with_row-insert}
use Rattle.hb_base.proofs.tables.put.Goals as goal

pub returns-in-Ok-clause-items : goal.returns-in-Ok-clause-items
returns-in-Ok-clause-items g c = let e = c.in-Ok.ensures.value in sym (with_row-set g.T.Ordered.order c.args.row c.args.rows.now.items c.in-Ok.at cc)

pub returns-in-Ok-insert-clause-items : goal.returns-in-Ok-insert-clause-items
returns-in-Ok-insert-clause-items g c = c.in-Ok-insert.ensures.items ∙ sym (with_row-insert g.T.Ordered.order c.args.row c.args.rows.now.items c.in-Err.at cc)
