use Rattle.std.proofs.Common.{sym, ap, subst, ◌∙◌, option_map}
use Rattle.std.specs.Cow.{cow_slice_items}
use Rattle.hb_routes.specs.Values.{StandsForLimit, IsOutside}
use Rattle.hb_routes.proofs.values.limit_in.Goals as goal

pub returns : goal.returns
returns c = (
  cow_slice_items c.in-Some.text,
  sym c.in_ok-text.ensures ∙ ap (option_map cow_slice_items) c.in-Some.is,
  subst (IsOutside StandsForLimit) c.deref.ensures.value c.in-None.ensures,
)
