use Rattle.std.proofs.Common.{◌≡◌, ◌&&◌, not, drop}
use Rattle.std.specs.List.{find}
use Rattle.hb_model.specs.Jobs.{same_kind}
use Rattle.hb_keeper.specs.Answers.{is_finished}
use Rattle.hb_keeper.proofs.answers.first_unfinished.Given as goal

-- the first that passes is among the rows that are left
abbrev pub invariant-loop-row : goal.invariant-loop-row
invariant-loop-row l = find (λ row. same_kind l.fn.kind row.kind && not (is_finished row.phase)) l.fn.jobs ≡ find (λ row. same_kind l.fn.kind row.kind && not (is_finished row.phase)) (drop l.row-index l.fn.jobs)
