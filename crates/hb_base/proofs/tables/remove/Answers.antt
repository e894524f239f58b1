use Rattle.std.proofs.Common.{rules, not}
use Rattle.std.specs.Ordering.{is_eq}
use Rattle.std.proofs.lemmas.Fn.{filter_same}
use Rattle.hb_base.proofs.tables.remove.Goals as goal

pub returns-clause-items : goal.returns-clause-items
returns-clause-items g c = filter_same _ (λ row. not (is_eq (g.K.Seeks.seeks c.args.key.now row))) _ (λ x b f' h. search rules) _ _ c.retain.ensures.filtered
