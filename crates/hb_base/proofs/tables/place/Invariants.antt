use Rattle.std.proofs.Common.{◌≡◌, drop}
use Rattle.hb_base.specs.Tables.{place_of}
use Rattle.hb_base.proofs.Places.{shifted}
use Rattle.hb_base.proofs.tables.place.Given as goal

-- the place is among the rows that are left
abbrev pub invariant-loop-i : goal.invariant-loop-i
invariant-loop-i g l = place_of (g.T.Ordered.order l.row) l.rows ≡ shifted l.i (place_of (g.T.Ordered.order l.row) (drop l.i l.rows))
