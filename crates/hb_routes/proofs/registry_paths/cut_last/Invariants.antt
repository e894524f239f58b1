use Rattle.std.proofs.Common.{◌≡◌, false, nat_eq, drop}
use Rattle.std.specs.List.{list_any}
use Rattle.hb_routes.proofs.registry_paths.cut_last.Given as goal

-- no slash stands from the place on
abbrev pub invariant-loop-place : goal.invariant-loop-place
invariant-loop-place l = list_any (nat_eq 47) (drop l.place l.text) ≡ false
