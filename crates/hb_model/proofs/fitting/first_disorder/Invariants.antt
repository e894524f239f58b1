use Rattle.std.proofs.Common.{◌≡◌, take, reverse}
use Rattle.hb_model.specs.Fit.{IsInOrder}
use Rattle.hb_model.specs.History.{latest}
use Rattle.hb_model.proofs.fitting.first_disorder.Given as goal

-- the entries so far are in order
abbrev pub invariant-loop-entry : goal.invariant-loop-entry
invariant-loop-entry l = record {
  ordered : IsInOrder (reverse (take l.entry-index l.entries));
  counted : l.place ≡ l.entry-index;
  last : l.latest ≡ latest (reverse (take l.entry-index l.entries));
}
