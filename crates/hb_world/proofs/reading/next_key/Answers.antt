use Rattle.std.proofs.Common.{map, ap, ◌∙◌, ◌∷◌, []}
use Rattle.std.proofs.lemmas.List.{map-append}
use Rattle.hb_world.proofs.reading.next_key.Goals as goal

pub returns-in_ok-key-in-Some : goal.returns-in_ok-key-in-Some
returns-in_ok-key-in-Some g c =
    let row = g.T.TableRow.as_row in
    let front = c.in-Some.field-0-1.now in
    let last = c.in-Some.last.now in
    (map row front, row last, ap (map row) c.in-Some.ensures.cases.0 ∙ map-append row front (last ∷ []), c.in_ok-key-in-Some.ensures)
