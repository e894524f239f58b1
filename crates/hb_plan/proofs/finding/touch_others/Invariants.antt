use Rattle.std.proofs.Common.{◌≡◌, ◌≤◌, ◌++◌, IfSome, drop}
use Rattle.std.specs.List.{flat_map}
use Rattle.hb_model.specs.ArtifactEffects.{other_refs}
use Rattle.hb_model.specs.ContentChanges.{touch_changes}
use Rattle.hb_plan.proofs.finding.touch_others.Given as goal

-- the changes so far and those of the references that are left are those of all
abbrev pub invariant-loop-reference : goal.invariant-loop-reference
invariant-loop-reference g l = record {
  same : g.K.Keeper.rows l.keeper ≡ g.K.Keeper.rows l.fn.keeper;
  later : g.K.Keeper.faults l.fn.keeper ≤ g.K.Keeper.faults l.keeper;
  told : IfSome (g.K.Keeper.rows l.fn.keeper) (λ t. l.made ++ flat_map (touch_changes l.stamp.number l.stamp.moment l.project t) (other_refs l.digest (drop l.reference-index l.refs)) ≡ l.fn.made ++ flat_map (touch_changes l.stamp.number l.stamp.moment l.project t) (other_refs l.digest l.refs));
}
