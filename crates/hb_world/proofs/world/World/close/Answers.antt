use Rattle.hb_world.proofs.StartSteps.{closed-rest, rest-pullable}
use Rattle.hb_world.proofs.world.World.close.Goals as goal

pub returns-clause-rest : goal.returns-clause-rest
returns-clause-rest g c = closed-rest _ c.self.invariant

pub returns-clause-pullable : goal.returns-clause-pullable
returns-clause-pullable g c = rest-pullable _ _ (closed-rest _ c.self.invariant)
