use Rattle.std.proofs.Common.{◌∙◌, not, sym, ap}
use Rattle.std.specs.Prelude.{is_none}
use Rattle.hb_manifest.specs.Descriptors.{descriptor}
use Rattle.hb_manifest.proofs.Listing.{first-here, first-nowhere, first-later}
use Rattle.hb_manifest.proofs.parts.bad_place.Goals as goal

pub returns-then-is_none : goal.returns-then-is_none
returns-then-is_none c =
    first-here (λ d. is_none (descriptor d)) c.args.items.now c.items.place c.index-items-place.result c.items-test.true c.index-items-place.is
    (ap is_none (sym c.descriptor.ensures) ∙ ap not (c.is_none.ensures ∙ ap not c.if-is_none.true)) c.items.invariant

pub returns : goal.returns
returns c = first-nowhere (λ d. is_none (descriptor d)) c.args.items.now c.items.place c.items-test.false c.items.invariant

pub items-preserved : goal.items-preserved
items-preserved c =
    first-later (λ d. is_none (descriptor d)) c.args.items.now c.items.place c.index-items-place.result c.items-test.true c.index-items-place.is
    (ap is_none (sym c.descriptor.ensures) ∙ ap not (c.is_none.ensures ∙ ap not c.if-is_none.false)) c.items.invariant
