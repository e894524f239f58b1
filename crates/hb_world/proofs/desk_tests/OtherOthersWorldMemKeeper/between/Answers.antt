use Rattle.std.proofs.Common.{refl}
use Rattle.hb_desk.specs.Calls.{Asked}
use Rattle.hb_desk.proofs.Interleave.{one-between}
use Rattle.hb_world.proofs.desk_tests.OtherOthersWorldMemKeeper.between.Goals as goal

pub returns : goal.returns
returns g c = one-between _ _ _ c.args.now (Asked c.self.inside.ask) _ (λ u x mine. c.self.invariant u _) refl refl c.ask-asked.ensures.event c.ask-asked.ensures.causes
