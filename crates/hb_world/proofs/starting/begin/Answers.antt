use Rattle.hb_world.proofs.StartSteps.{first-committed}
use Rattle.hb_world.proofs.starting.begin.Goals as goal

pub returns-clause-begun : goal.returns-clause-begun
returns-clause-begun g c = first-committed (g.K.Keeper.rows c.args.keeper.now) _ c.in_ok-batch.batch c.args.moment c.commit.result c.in_ok-batch.ensures.entry c.in_ok-batch.ensures.changes c.commit.ensures.rows
