use Rattle.std.proofs.Common.{◌≡◌, false, cond, sym, ap, ◌∙◌, ◌∷◌, [], ◌++◌, append_assoc, Some}
use Rattle.hb_routes.specs.Resources.{parts, by_ending, is_empty}
use Rattle.hb_routes.specs.Resources.Resource.{Base}
use Rattle.hb_routes.proofs.Endings.{one-named}
use Rattle.hb_routes.proofs.Parts.{parts-one, parts-append}
use Rattle.hb_routes.proofs.Comparisons.{empty-length}
use Rattle.hb_routes.proofs.registry_paths.registry_resource.Goals as goal

pub returns-in_default : goal.returns-in_default
returns-in_default c =
    let full : is_empty c.args.text.now ≡ false = empty-length c.args.text.now ∙ sym c.is_empty.ensures ∙ c.if-is_empty.false in
    sym (ap (λ t. cond t (Some Base) (by_ending (parts c.args.text.now))) full ∙ ap by_ending (parts-one c.args.text.now c.in_default.ensures.none) ∙ one-named c.args.text.now)

pub returns : goal.returns
returns c =
    let full : is_empty c.args.text.now ≡ false = empty-length c.args.text.now ∙ sym c.is_empty.ensures ∙ c.if-is_empty.false in
    let cut = ap parts c.in-Some.ensures.some.0 ∙ parts-append c.in-Some.rest.now c.in-Some.last.now c.in-Some.ensures.some.1 in
    let last = c.last_part.ensures in
    let all : parts c.args.text.now ≡ last.before ++ c.last_part.result.1.now ∷ c.in-Some.last.now ∷ [] = cut ∙ ap (λ ps. ps ++ c.in-Some.last.now ∷ []) last.whole ∙ simp append_assoc in
    c.resource_at.ensures last.before last.of_front ∙ sym (ap (λ t. cond t (Some Base) (by_ending (parts c.args.text.now))) full ∙ ap by_ending all)
