use Rattle.hb_world.proofs.StartSteps.{started-world}
use Rattle.hb_world.proofs.world.World.start.Goals as goal

pub invariant_of-result : goal.invariant_of-result
invariant_of-result g c = let e = c.in-Ok.ensures in started-world (g.K.Keeper.rows c.args.keeper) (g.S.Store.contents c.args.store) c.args.now _ _ _ _ _ _ c.new.ensures c.requires.can e.started e.count e.room.0 e.room.1
