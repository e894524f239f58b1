use Rattle.std.proofs.Common.{refl, arith}
use Rattle.hb_desk.specs.Calls.{StageTaken}
use Rattle.hb_world.proofs.StoreCalled.{acknowledged}
use Rattle.hb_world.proofs.StoreEvents.{event-store, taken-done, whole-store}
use Rattle.hb_world.proofs.events.WorldDesk.stage.Goals as goal

pub invariant_of-self : goal.invariant_of-self
invariant_of-self g c = let e = c.take_stage-result.ensures in whole-store _ _ (StageTaken c.args.name.now c.args.upload c.args.start) _ refl
    (taken-done _ _ c.args.name.now c.args.upload c.args.start _ (record { rows = e.rows; stands = e.stands; entries = refl; start = refl; last = refl; later = omega (arith, c.moment_of-moment.ensures); past = omega (arith, c.moment_of-moment.ensures, c.self.invariant.past) }) e.noted e.reply)
    c.self.invariant

pub returns-clause-event : goal.returns-clause-event
returns-clause-event g c = let e = c.take_stage-result.ensures in rw (← c.self.view_is) (event-store _ _ (StageTaken c.args.name.now c.args.upload c.args.start) _ refl
    (taken-done _ _ c.args.name.now c.args.upload c.args.start _ (record { rows = e.rows; stands = e.stands; entries = refl; start = refl; last = refl; later = omega (arith, c.moment_of-moment.ensures); past = omega (arith, c.moment_of-moment.ensures, c.self.invariant.past) }) e.noted e.reply)
    c.self.invariant)

pub returns-clause-store : goal.returns-clause-store
returns-clause-store g c = λ sole. let called = c.take_stage-result.ensures.called in
    rw (← c.self.view_is) (called.0, acknowledged _ c.args.upload called.0 c.self.invariant.rows called.1, called.2, called.3)
