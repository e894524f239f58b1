use Rattle.std.proofs.Common.{None, refl}
use Rattle.hb_desk.specs.Calls.{Asked, Tells, plain}
use Rattle.hb_desk.specs.Points.{point_of}
use Rattle.hb_desk.proofs.Stepping.{asked-once, one-step}
use Rattle.hb_desk.proofs.tests.AskingOp.step.Goals as goal

pub returns-clause-event : goal.returns-clause-event
returns-clause-event g c = one-step _ (g.D.Desk.view c.args.desk.now) (g.D.Desk.view c.ask.new.self) c.args.now (Asked c.args.self.now.ask) (plain Tells c.ask.result) None _ _ c.ask.ensures.event c.ask.ensures.causes tt
    (λ s begun points h. asked-once begun.ask c.args.self.now.ask c.args.self.now.answer c.ask.result points (point_of (g.D.Desk.view c.args.desk.now) (g.D.Desk.view c.ask.new.self) s (Asked c.args.self.now.ask) (plain Tells c.ask.result) None) c.requires.ready refl refl h)
