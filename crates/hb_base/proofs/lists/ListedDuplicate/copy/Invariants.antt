use Rattle.std.proofs.Common.{◌≡◌, take}
use Rattle.hb_base.proofs.lists.ListedDuplicate.copy.Given as goal

-- the items so far are copied
abbrev pub invariant-loop-item : goal.invariant-loop-item
invariant-loop-item g l = (l.item-items ≡ l.self) × (l.made ≡ take l.item-index l.self)
