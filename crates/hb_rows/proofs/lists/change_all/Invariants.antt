use Rattle.std.proofs.Common.{◌≡◌, ◌+◌, reverse, vec_len}
use Rattle.hb_rows.specs.Batches.{after_changes}
use Rattle.hb_rows.specs.Lists.{tables_of, HasRoom}
use Rattle.hb_rows.proofs.lists.change_all.Given as goal

-- the changes that are left, from the last on, make what all make
abbrev pub invariant-loop-change : goal.invariant-loop-change
invariant-loop-change l = record {
  left : after_changes (tables_of l.lists) (reverse l.changes.items) ≡ after_changes (tables_of l.fn.lists) l.fn.changes.items;
  room : HasRoom (vec_len l.changes + 1) l.lists;
}

abbrev pub decreases-loop-change : goal.decreases-loop-change
decreases-loop-change l = vec_len l.changes
