use Rattle.std.proofs.Common.{◌≡◌, length}
use Rattle.hb_routes.specs.Queries.{has_whole_escapes}
use Rattle.hb_routes.proofs.queries.has_whole_escapes.Given as goal

-- what stands before the rest has whole escapes
abbrev pub invariant-loop-rest : goal.invariant-loop-rest
invariant-loop-rest l = has_whole_escapes l.rest ≡ has_whole_escapes l.value

abbrev pub decreases-loop-rest : goal.decreases-loop-rest
decreases-loop-rest l = length l.rest
