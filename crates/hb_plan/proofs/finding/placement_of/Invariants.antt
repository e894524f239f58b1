use Rattle.std.proofs.Common.{◌≡◌, drop}
use Rattle.std.specs.List.{find}
use Rattle.hb_desk.specs.Notes.{is_placement}
use Rattle.hb_plan.proofs.finding.placement_of.Given as goal

-- the first that passes is among the placements that are left
abbrev pub invariant-loop-placement : goal.invariant-loop-placement
invariant-loop-placement l = find (is_placement l.upload l.digest) l.fn.placements ≡ find (is_placement l.upload l.digest) (drop l.placement-index l.fn.placements)
