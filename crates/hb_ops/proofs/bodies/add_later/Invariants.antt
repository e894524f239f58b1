use Rattle.std.proofs.Common.{◌≡◌, ◌++◌, codes, take}
use Rattle.std.specs.List.{flat_map}
use Rattle.hb_ops.specs.Errors.{item_text}
use Rattle.hb_ops.proofs.bodies.add_later.Given as goal

-- the members so far are added
abbrev pub invariant-loop-item : goal.invariant-loop-item
invariant-loop-item l = l.text.items ≡ l.initial.text.items ++ flat_map (λ item. codes "," ++ item_text item) (take l.item-index l.items)
