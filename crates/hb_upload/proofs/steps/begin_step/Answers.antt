use Rattle.std.proofs.Common.{None, Ok, ap, sym, ◌∙◌}
use Rattle.hb_desk.specs.Calls.{Asked, Tells, plain}
use Rattle.hb_upload.specs.Places.{Beginning, Stopped, next}
use Rattle.hb_upload.specs.declared.phase.Stop.TheVariants.{Refused}
use Rattle.hb_upload.proofs.Leads.{one-event}
use Rattle.hb_upload.proofs.steps.begin_step.Goals as goal

pub returns-in-Ok-clause-event : goal.returns-in-Ok-clause-event
returns-in-Ok-clause-event g c = λ b is. one-event _ b (g.D.Desk.view c.args.desk.now) (g.D.Desk.view c.ask.new.self) c.args.now _ _ (plain Tells c.ask.result) None Beginning _ (ap Asked is) c.ask.ensures.event c.ask.ensures.causes tt
    (c.begun.ensures.leads b ∙ ap (λ t. next b Beginning t (plain Tells (Ok c.in-Ok.told)) None) c.moment.ensures ∙ ap (λ r. next b Beginning (g.D.Desk.view c.ask.new.self).moment (plain Tells r) None) (sym c.in-Ok.is))

pub returns-in-Err-clause-event : goal.returns-in-Err-clause-event
returns-in-Err-clause-event g c = λ b is. one-event _ b (g.D.Desk.view c.args.desk.now) (g.D.Desk.view c.ask.new.self) c.args.now _ _ (plain Tells c.ask.result) None Beginning _ (ap Asked is) c.ask.ensures.event c.ask.ensures.causes tt
    (ap (λ t. Stopped (Refused c.in-Err.refusal t)) c.moment-in-Err.ensures ∙ ap (λ r. next b Beginning (g.D.Desk.view c.ask.new.self).moment (plain Tells r) None) (sym c.in-Err.is))
