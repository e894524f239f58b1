use Rattle.std.proofs.Common.{None, is_some, refl, ap, sym}
use Rattle.hb_desk.specs.Calls.{Tells, plain}
use Rattle.hb_upload.specs.Places.{Ending, next}
use Rattle.hb_upload.proofs.Leads.{one-event}
use Rattle.hb_upload.proofs.steps.end_step.Goals as goal

pub returns-in-Some-clause-event : goal.returns-in-Some-clause-event
returns-in-Some-clause-event g c = λ b. one-event _ b (g.D.Desk.view c.args.desk.now) (g.D.Desk.view c.ask-ended.new.self) c.args.now _ _ (plain Tells c.ask-ended.result) None (Ending c.args.upload (is_some c.args.stage) c.args.stop) _ refl c.ask-ended.ensures.event c.ask-ended.ensures.causes tt (ap (λ s. next b (Ending c.args.upload (is_some s) c.args.stop) (g.D.Desk.view c.ask-ended.new.self).moment (plain Tells c.ask-ended.result) None) (sym c.in-Some.is))

pub returns-clause-event : goal.returns-clause-event
returns-clause-event g c = λ b. one-event _ b (g.D.Desk.view c.args.desk.now) (g.D.Desk.view c.ask-ended.new.self) c.args.now _ _ (plain Tells c.ask-ended.result) None (Ending c.args.upload (is_some c.args.stage) c.args.stop) _ refl c.ask-ended.ensures.event c.ask-ended.ensures.causes tt (ap (λ s. next b (Ending c.args.upload (is_some s) c.args.stop) (g.D.Desk.view c.ask-ended.new.self).moment (plain Tells c.ask-ended.result) None) (sym c.in-None.is))
