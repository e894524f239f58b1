use Rattle.std.proofs.Common.{◌≡◌, drop}
use Rattle.hb_base.specs.Tables.{found}
use Rattle.hb_base.proofs.tables.find.Given as goal

-- what is found is among the rows that are left
abbrev pub invariant-loop-row : goal.invariant-loop-row
invariant-loop-row g l = found (g.K.Seeks.seeks l.key) l.rows ≡ found (g.K.Seeks.seeks l.key) (drop l.row-index l.rows)
