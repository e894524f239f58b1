use Rattle.std.proofs.Common.{refl, sym, arith, false}
use Rattle.hb_desk.specs.Calls.{StageDropped}
use Rattle.hb_world.proofs.StoreEvents.{event-store, same-done, whole-store}
use Rattle.hb_world.proofs.events.WorldDesk.drop_left_stage.Goals as goal

pub invariant_of-self : goal.invariant_of-self
invariant_of-self g c = let e = c.drop_left-result.ensures in whole-store _ _ (StageDropped c.args.upload false) _ refl
    (same-done _ _ (StageDropped c.args.upload false) _ (record { rows = e.rows; stands = e.stands; entries = refl; start = refl; last = refl; later = omega (arith, c.moment_of-moment.ensures); past = omega (arith, c.moment_of-moment.ensures, c.self.invariant.past) }) (λ s. refl) refl (e.reply c.self.inside.notes (sym c.is_out-out.ensures)))
    c.self.invariant

pub returns-clause-event : goal.returns-clause-event
returns-clause-event g c = let e = c.drop_left-result.ensures in rw (← c.self.view_is) (event-store _ _ (StageDropped c.args.upload false) _ refl
    (same-done _ _ (StageDropped c.args.upload false) _ (record { rows = e.rows; stands = e.stands; entries = refl; start = refl; last = refl; later = omega (arith, c.moment_of-moment.ensures); past = omega (arith, c.moment_of-moment.ensures, c.self.invariant.past) }) (λ s. refl) refl (e.reply c.self.inside.notes (sym c.is_out-out.ensures)))
    c.self.invariant)
