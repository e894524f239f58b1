use Rattle.std.proofs.Common.{rules, tests, eqb}
use Rattle.std.proofs.lemmas.Iterator.Search.{find_from_yields_List}
use Rattle.std.proofs.lemmas.Iterator.Splits.{YieldsList-from_slice_split}
use Rattle.hb_routes.specs.Cuts.{is_same}
use Rattle.hb_routes.specs.Queries.{name_in}
use Rattle.hb_routes.proofs.queries.piece_named.Goals as goal

pub returns : goal.returns
returns c = find_from_yields_List (λ piece. is_same (name_in piece) c.args.name.now) _ _ c.find.result c.find.ensures.ran (YieldsList-from_slice_split _ (λ b. eqb b 38) c.args.query.now c.split.ensures.rest c.split.ensures.done c.split.ensures.closure (λ x b q k. search (rules, tests))) (λ x b q k. search (rules, tests))
