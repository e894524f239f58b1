use Rattle.std.proofs.Common.{None, refl}
use Rattle.hb_desk.specs.Calls.{Asked, Tells, plain}
use Rattle.hb_desk.specs.Points.{point_of}
use Rattle.hb_ops.proofs.Leads.{went-by-note}
use Rattle.hb_desk.proofs.Stepping.{one-step}
use Rattle.hb_ops.proofs.gets.note_step.Goals as goal

pub returns-clause-event : goal.returns-clause-event
returns-clause-event g c = λ sought. let old = g.D.Desk.view c.args.desk.now in let new = g.D.Desk.view c.ask-noted.new.self in
    one-step _ old new c.args.now (Asked c.args.ask) (plain Tells c.ask-noted.result) None _ _ c.ask-noted.ensures.event c.ask-noted.ensures.causes tt
    (λ s begun points went. went-by-note begun sought (point_of old new s (Asked c.args.ask) (plain Tells c.ask-noted.result) None) c.args.ask c.args.got points refl went)
