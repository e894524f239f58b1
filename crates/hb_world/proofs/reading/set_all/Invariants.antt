use Rattle.std.proofs.Common.{◌≡◌, map, reverse, vec_len}
use Rattle.hb_world.specs.Reading.{with_rows}
use Rattle.hb_world.proofs.reading.set_all.Given as goal

-- the rows that are left, from the last on, make what all make
abbrev pub invariant-loop-item : goal.invariant-loop-item
invariant-loop-item g l = with_rows l.rows (map g.T.TableRow.as_row (reverse l.items.items)) ≡ with_rows l.fn.rows (map g.T.TableRow.as_row l.fn.items.items)

abbrev pub decreases-loop-item : goal.decreases-loop-item
decreases-loop-item g l = vec_len l.items
