use Rattle.std.proofs.Common.{None, refl, ap, ◌∙◌}
use Rattle.hb_desk.specs.Calls.{Asked, Tells, plain}
use Rattle.hb_desk.specs.Points.{point_of}
use Rattle.hb_desk.proofs.Stepping.{one-step}
use Rattle.hb_ops.specs.Checks.{checked_as}
use Rattle.hb_ops.proofs.Checking.{went-checked}
use Rattle.hb_ops.proofs.checks.asked.Goals as goal

pub returns-clause-event : goal.returns-clause-event
returns-clause-event g c = λ before open_.
    let old = g.D.Desk.view c.args.desk.now in
    let new = g.D.Desk.view c.ask-answer.new.self in
    let ask = c.args.ask.now in
    one-step _ old new c.args.now (Asked ask) (plain Tells c.ask-answer.result) None _ _ c.ask-answer.ensures.event c.ask-answer.ensures.causes tt
    (λ s begun points went. went-checked begun (record { ask = ask; ended = before }) (point_of old new s (Asked ask) (plain Tells c.ask-answer.result) None) _ points open_ refl refl (c.checked_as.ensures ∙ ap (checked_as ask (plain Tells c.ask-answer.result)) c.moment.ensures) went)
