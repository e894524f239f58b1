use Rattle.std.proofs.Common.{◌≡◌, ◌≤◌, IfSome, drop}
use Rattle.hb_plan.specs.Findings.{first_missing_ref}
use Rattle.hb_plan.proofs.finding.missing_ref.Given as goal

-- the first that is missing is among the references that are left
abbrev pub invariant-loop-reference : goal.invariant-loop-reference
invariant-loop-reference g l = record {
  same : g.K.Keeper.rows l.keeper ≡ g.K.Keeper.rows l.fn.keeper;
  later : g.K.Keeper.faults l.fn.keeper ≤ g.K.Keeper.faults l.keeper;
  told : IfSome (g.K.Keeper.rows l.fn.keeper) (λ t. first_missing_ref t l.project l.fn.refs ≡ first_missing_ref t l.project (drop l.reference-index l.fn.refs));
}
