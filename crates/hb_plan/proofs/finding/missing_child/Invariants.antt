use Rattle.std.proofs.Common.{◌≡◌, ◌≤◌, IfSome, drop}
use Rattle.hb_plan.specs.Findings.{first_missing_child}
use Rattle.hb_plan.proofs.finding.missing_child.Given as goal

-- the first that is missing is among the children that are left
abbrev pub invariant-loop-child : goal.invariant-loop-child
invariant-loop-child g l = record {
  same : g.K.Keeper.rows l.keeper ≡ g.K.Keeper.rows l.fn.keeper;
  later : g.K.Keeper.faults l.fn.keeper ≤ g.K.Keeper.faults l.keeper;
  told : IfSome (g.K.Keeper.rows l.fn.keeper) (λ t. first_missing_child t l.name l.fn.children ≡ first_missing_child t l.name (drop l.child-index l.fn.children));
}
