use Rattle.std.proofs.Common.{sym, subst}
use Rattle.std.specs.Option.{option_copied}
use Rattle.hb_keeper.specs.PageKeys.{IsPageBehind}
use Rattle.hb_keeper.proofs.PageRows.{page_is_behind}
use Rattle.hb_keeper.proofs.copies.page_behind.Goals as goal

pub returns-clause-behind : goal.returns-clause-behind
returns-clause-behind c = subst (IsPageBehind c.args.table (option_copied c.args.after)) (sym c.in_ok-page.ensures) (page_is_behind c.args.rows.now c.args.table (option_copied c.args.after) c.keys_rise.ensures)
