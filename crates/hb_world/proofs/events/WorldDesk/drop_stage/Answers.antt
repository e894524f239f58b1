use Rattle.std.proofs.Common.{refl, arith, true}
use Rattle.hb_desk.specs.Calls.{StageDropped}
use Rattle.hb_world.proofs.StoreEvents.{event-store, handed-answers, handed-done, whole-store}
use Rattle.hb_world.proofs.events.WorldDesk.drop_stage.Goals as goal

pub invariant_of-self : goal.invariant_of-self
invariant_of-self g c = let e = c.drop_handed-result.ensures in whole-store _ _ (StageDropped c.args.upload true) _ refl
    (handed-done _ _ c.args.upload _ (record { rows = refl; stands = e.stands; entries = refl; start = refl; last = refl; later = omega (arith, c.moment_of-moment.ensures); past = omega (arith, c.moment_of-moment.ensures, c.self.invariant.past) }) e.noted (handed-answers (g.K.Keeper.rows c.self.inside.keeper) c.self.inside.notes c.args.upload c.drop_handed-result.result e.fault))
    c.self.invariant

pub returns-clause-event : goal.returns-clause-event
returns-clause-event g c = let e = c.drop_handed-result.ensures in rw (← c.self.view_is) (event-store _ _ (StageDropped c.args.upload true) _ refl
    (handed-done _ _ c.args.upload _ (record { rows = refl; stands = e.stands; entries = refl; start = refl; last = refl; later = omega (arith, c.moment_of-moment.ensures); past = omega (arith, c.moment_of-moment.ensures, c.self.invariant.past) }) e.noted (handed-answers (g.K.Keeper.rows c.self.inside.keeper) c.self.inside.notes c.args.upload c.drop_handed-result.result e.fault))
    c.self.invariant)
