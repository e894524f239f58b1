use Rattle.std.proofs.Common.{refl, Err}
use Rattle.hb_routes.specs.declared.faults.RouteFault.TheVariants.{Memory}
use Rattle.hb_routes.proofs.OneRoute.{decides-routed}
use Rattle.hb_routes.proofs.laws.one_route.Goals as goal

pub returns-clause-one : goal.returns-clause-one
returns-clause-one c = λ method target answer other. (decides-routed method target).one answer other

pub returns-clause-no_memory : goal.returns-clause-no_memory
returns-clause-no_memory c = λ method target routed. (decides-routed method target).caused (Err Memory) routed refl
