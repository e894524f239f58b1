use Rattle.std.proofs.Common.{rules, not}
use Rattle.std.proofs.lemmas.Fn.{filter_same}
use Rattle.hb_desk.specs.Notes.{is_sealed}
use Rattle.hb_desk.proofs.alone.Seals.end.Goals as goal

pub returns : goal.returns
returns c = rw (← c.self.view_is) (filter_same _ (λ x. not (is_sealed c.args.upload x)) _ (λ x b f' h. search rules) _ _ c.retain.ensures.filtered)
