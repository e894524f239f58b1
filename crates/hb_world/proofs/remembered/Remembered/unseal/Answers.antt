use Rattle.std.proofs.Common.{rules, not, nat_eq}
use Rattle.std.proofs.lemmas.Fn.{filter_same}
use Rattle.hb_desk.specs.Notes.{is_sealed}
use Rattle.hb_world.specs.Remembering.{notes_of}
use Rattle.hb_world.proofs.remembered.Remembered.unseal.Goals as goal

pub returns : goal.returns
returns c =
    let out = filter_same _ (λ x. not (nat_eq c.args.upload x)) _ (λ x b f' h. search rules) _ _ c.retain.ensures.filtered in
    let sealed = filter_same _ (λ x. not (is_sealed c.args.upload x)) _ (λ x b f' h. search rules) _ _ c.«retain-2».ensures.filtered in
    rw (← c.self.view_is) (λ i. notes_of (out i) (sealed i) c.self.inside.placements.items)
