use Rattle.std.proofs.Common.{refl, rules, arith}
use Rattle.hb_desk.specs.Calls.{StagePlaced}
use Rattle.hb_desk.proofs.Interleave.{keeps-placed}
use Rattle.hb_world.proofs.StoreEvents.{event-store, placed-answers, placed-done, placed-held, whole-store}
use Rattle.hb_world.proofs.events.WorldDesk.place.Goals as goal

pub invariant_of-self : goal.invariant_of-self
invariant_of-self g c = let e = c.place_noted-result.ensures in whole-store _ _ (StagePlaced c.args.upload c.args.digest.now) _ refl
    (placed-done _ _ c.args.upload c.args.digest.now _ _
    (record { rows = refl; stands = e.stands; entries = refl; start = refl; last = refl; later = omega (arith, c.moment_of-moment.ensures); past = omega (arith, c.moment_of-moment.ensures, c.self.invariant.past) })
    (rw (← c.self.view_is) at c.requires.own) e.noted (placed-held _ _ e.held) (placed-answers _ c.args.upload c.args.digest.now _ c.self.invariant e.number e.fault))
    c.self.invariant

pub returns-clause-event : goal.returns-clause-event
returns-clause-event g c = let e = c.place_noted-result.ensures in rw (← c.self.view_is) (event-store _ _ (StagePlaced c.args.upload c.args.digest.now) _ refl
    (placed-done _ _ c.args.upload c.args.digest.now _ _
    (record { rows = refl; stands = e.stands; entries = refl; start = refl; last = refl; later = omega (arith, c.moment_of-moment.ensures); past = omega (arith, c.moment_of-moment.ensures, c.self.invariant.past) })
    (rw (← c.self.view_is) at c.requires.own) e.noted (placed-held _ _ e.held) (placed-answers _ c.args.upload c.args.digest.now _ c.self.invariant e.number e.fault))
    c.self.invariant)

pub returns-clause-causes : goal.returns-clause-causes
returns-clause-causes g c = let e = c.place_noted-result.ensures in rw (← c.self.view_is) (record {
  keeper_later = search rules;
  store_later = e.later;
  keeper = search rules;
  storage = search rules;
  spent = search rules;
  seat = search rules;
  entries = search rules;
  room = c.self.invariant.room;
  rises = omega (arith, c.moment_of-moment.ensures);
  sealed = λ u x apart h. search (rules, keeps-placed);
  moment = search rules;
  clock = λ alone. omega (arith, c.moment_of-moment.ensures);
  told = refl;
  sole = refl;
  told_bytes = search rules;
})
