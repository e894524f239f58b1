use Rattle.std.proofs.Common.{◌≡◌, drop}
use Rattle.std.specs.List.{find}
use Rattle.hb_model.specs.Words.{same_digest}
use Rattle.hb_keeper.proofs.answers.first_owning.Given as goal

-- the first that passes is among the rows that are left
abbrev pub invariant-loop-row : goal.invariant-loop-row
invariant-loop-row l = find (λ row. same_digest l.fn.digest row.digest) l.fn.pairs ≡ find (λ row. same_digest l.fn.digest row.digest) (drop l.row-index l.fn.pairs)
