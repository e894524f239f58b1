use Rattle.std.proofs.Common.{◌≡◌, ◌++◌, drop}
use Rattle.std.specs.List.{flat_map}
use Rattle.hb_model.specs.ContentChanges.{touch_changes}
use Rattle.hb_model.specs.ArtifactEffects.{other_refs}
use Rattle.hb_model.proofs.changes.touch_others.Given as goal

-- the changes so far and those of the references that are left are those of all
abbrev pub invariant-loop-reference : goal.invariant-loop-reference
invariant-loop-reference l =
    l.made ++ flat_map (touch_changes l.stamp.number l.stamp.moment l.project l.rows) (other_refs l.digest (drop l.reference-index l.refs)) ≡ l.fn.made ++ flat_map (touch_changes l.stamp.number l.stamp.moment l.project l.rows) (other_refs l.digest l.refs)
