use Rattle.std.proofs.Common.{rules, not, nat_eq, ap}
use Rattle.std.proofs.lemmas.Fn.{filter_same}
use Rattle.hb_world.specs.Remembering.{notes_of}
use Rattle.hb_world.proofs.remembered.Remembered.settle.Goals as goal

pub returns : goal.returns
returns c = rw (← c.self.view_is) (ap (notes_of c.self.inside.out.items c.self.inside.sealed.items) (filter_same _ (λ x. not (nat_eq c.args.upload x.upload)) _ (λ x b f' h. search rules) _ _ c.retain.ensures.filtered))
