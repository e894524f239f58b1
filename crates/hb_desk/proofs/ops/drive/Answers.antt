use Rattle.std.proofs.Common.{refl}
use Rattle.hb_desk.proofs.Chains.{moves-none, moves-on}
use Rattle.hb_desk.proofs.Driving.{driven-none, driven-step, not-done}
use Rattle.hb_desk.proofs.ops.drive.Goals as goal

pub loop-init : goal.loop-init
loop-init g c = record { ready = c.requires.ready; fits = c.requires.fits; moves = moves-none _; driven = λ begun went. driven-none _ _ _ went }

pub step-requires-clause-ready : goal.step-requires-clause-ready
step-requires-clause-ready g c = c.loop.invariant.ready

pub step-requires-clause-fits : goal.step-requires-clause-fits
step-requires-clause-fits g c = c.loop.invariant.fits

pub returns-in-Done-clause-moves : goal.returns-in-Done-clause-moves
returns-in-Done-clause-moves g c = moves-on _ _ _ c.loop.invariant.moves c.in-Done.ensures.moves

pub returns-in-Done-clause-driven : goal.returns-in-Done-clause-driven
returns-in-Done-clause-driven g c = λ begun went. driven-step _ _ _ _ _ _ _ begun (c.loop.invariant.driven begun went) c.now.ensures.reading c.now.ensures.goes_on c.in-Done.ensures.event

pub loop-smaller : goal.loop-smaller
loop-smaller g c = c.in-More.ensures.more refl

pub loop-preserved : goal.loop-preserved
loop-preserved g c = record {
  ready = not-done _ c.in-More.ensures.done;
  fits = c.in-More.ensures.fits;
  moves = moves-on _ _ _ c.loop.invariant.moves c.in-More.ensures.moves;
  driven = λ begun went. driven-step _ _ _ _ _ _ _ begun (c.loop.invariant.driven begun went) c.now.ensures.reading c.now.ensures.goes_on c.in-More.ensures.event;
}
