use Rattle.std.proofs.Common.{◌≡◌, ◌&&◌, drop}
use Rattle.std.specs.List.{find}
use Rattle.hb_text.specs.Names.{project_of}
use Rattle.hb_model.specs.Words.{same_text}
use Rattle.hb_keeper.specs.Answers.{needs}
use Rattle.hb_keeper.proofs.answers.first_needing.Given as goal

-- the first that passes is among the rows that are left
abbrev pub invariant-loop-row : goal.invariant-loop-row
invariant-loop-row l = find (λ row. same_text l.fn.project (project_of row.name) && needs row l.fn.digest) l.fn.artifacts ≡ find (λ row. same_text l.fn.project (project_of row.name) && needs row l.fn.digest) (drop l.row-index l.fn.artifacts)
