use Rattle.std.proofs.Common.{refl, arith}
use Rattle.hb_world.proofs.AskEvents.{event-ask, whole-ask}
use Rattle.hb_world.proofs.events.WorldDesk.ask.Goals as goal

pub invariant_of-self : goal.invariant_of-self
invariant_of-self g c = let e = c.ask_noted-result.ensures in whole-ask _ _ c.args.ask.now _
    (record { told = e.told; noted = e.noted; untold = e.untold; contents = refl; later = omega (arith, c.moment_of-moment.ensures); past = omega (arith, c.moment_of-moment.ensures, c.self.invariant.past); room = e.room; grows = e.grows; low = e.low; start = refl })
    c.self.invariant

pub returns-clause-event : goal.returns-clause-event
returns-clause-event g c = let e = c.ask_noted-result.ensures in rw (← c.self.view_is) (event-ask _ _ c.args.ask.now _
    (record { told = e.told; noted = e.noted; untold = e.untold; contents = refl; later = omega (arith, c.moment_of-moment.ensures); past = omega (arith, c.moment_of-moment.ensures, c.self.invariant.past); room = e.room; grows = e.grows; low = e.low; start = refl })
    c.self.invariant)
