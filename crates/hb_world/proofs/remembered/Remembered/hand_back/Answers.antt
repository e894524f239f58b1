use Rattle.std.proofs.Common.{rules, not, nat_eq, ap}
use Rattle.std.proofs.lemmas.Fn.{filter_same}
use Rattle.hb_world.specs.Remembering.{notes_of}
use Rattle.hb_world.proofs.remembered.Remembered.hand_back.Goals as goal

pub returns : goal.returns
returns c = rw (← c.self.view_is) (ap (λ xs. notes_of xs c.self.inside.sealed.items c.self.inside.placements.items) (filter_same _ (λ x. not (nat_eq c.args.upload x)) _ (λ x b f' h. search rules) _ _ c.retain.ensures.filtered))
