use Rattle.std.proofs.Common.{[], refl, inl, inr, ◌∙◌, ap}
use Rattle.hb_routes.specs.Resources.{parts}
use Rattle.hb_routes.proofs.Parts.{parts-one, parts-append}
use Rattle.hb_routes.proofs.registry_paths.last_part.Goals as goal

pub returns-in-Some : goal.returns-in-Some
returns-in-Some c = record {
  before = parts c.in-Some.front.now;
  of_front = inl refl;
  whole = ap parts c.in-Some.ensures.some.0 ∙ parts-append c.in-Some.front.now c.in-Some.last.now c.in-Some.ensures.some.1;
}

pub returns-in-None : goal.returns-in-None
returns-in-None c = record { before = []; of_front = inr (refl, refl); whole = parts-one c.args.text.now c.in-None.ensures.none }
