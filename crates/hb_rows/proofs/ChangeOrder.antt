-- Changes that are made from the end of the reversed list are made in order.
use Rattle.std.proofs.Common.{◌≡◌, List, [], ◌∷◌, ◌++◌, reverse, ap}
use Rattle.std.proofs.lemmas.List.{reverse-append}
use Rattle.hb_records.specs.declared.batches.Change.{Change}
use Rattle.hb_rows.specs.Tables.{Tables}
use Rattle.hb_rows.specs.Batches.{after_change, after_changes}

pub last_change : (t : Tables) (rest : List Change) (x : Change) → after_changes t (reverse (rest ++ x ∷ [])) ≡ after_changes (after_change t x) (reverse rest)
last_change t rest x = ap (after_changes t) (reverse-append rest (x ∷ []))
