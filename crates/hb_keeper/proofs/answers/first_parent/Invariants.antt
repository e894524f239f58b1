use Rattle.std.proofs.Common.{◌≡◌, ◌&&◌, drop}
use Rattle.std.specs.List.{find}
use Rattle.hb_model.specs.Words.{same_text, among}
use Rattle.hb_keeper.proofs.answers.first_parent.Given as goal

-- the first that passes is among the rows that are left
abbrev pub invariant-loop-row : goal.invariant-loop-row
invariant-loop-row l = find (λ row. same_text l.fn.name row.name && among l.fn.child row.children) l.fn.artifacts ≡ find (λ row. same_text l.fn.name row.name && among l.fn.child row.children) (drop l.row-index l.fn.artifacts)
