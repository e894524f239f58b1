use Rattle.std.proofs.Common.{inr}
use Rattle.hb_world.proofs.start_tests.started.Goals as goal

pub returns-in-Ok : goal.returns-in-Ok
returns-in-Ok c = inr c.close-keeper.ensures.rest
