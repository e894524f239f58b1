use Rattle.std.proofs.Common.{None, ap, sym, true, ◌∙◌}
use Rattle.hb_desk.specs.Calls.{Asked, Tells, plain}
use Rattle.hb_upload.specs.Places.{Ending, Sealing, next}
use Rattle.hb_upload.specs.declared.phase.Stop.TheVariants.{Refused}
use Rattle.hb_upload.proofs.Leads.{one-event}
use Rattle.hb_upload.proofs.steps.seal_step.Goals as goal

pub returns-in-Ok-clause-event : goal.returns-in-Ok-clause-event
returns-in-Ok-clause-event g c = λ b is. one-event _ b (g.D.Desk.view c.args.desk.now) (g.D.Desk.view c.ask.new.self) c.args.now _ _ (plain Tells c.ask.result) None (Sealing c.args.upload) _ (ap Asked is) c.ask.ensures.event c.ask.ensures.causes tt (ap (λ r. next b (Sealing c.args.upload) (g.D.Desk.view c.ask.new.self).moment (plain Tells r) None) (sym c.in-Ok.is))

pub returns-clause-event : goal.returns-clause-event
returns-clause-event g c = λ b is. one-event _ b (g.D.Desk.view c.args.desk.now) (g.D.Desk.view c.ask.new.self) c.args.now _ _ (plain Tells c.ask.result) None (Sealing c.args.upload) _ (ap Asked is) c.ask.ensures.event c.ask.ensures.causes tt
    (ap (λ t. Ending c.args.upload true (Refused c.in-Err.refusal t)) c.moment.ensures ∙ ap (λ r. next b (Sealing c.args.upload) (g.D.Desk.view c.ask.new.self).moment (plain Tells r) None) (sym c.in-Err.is))
