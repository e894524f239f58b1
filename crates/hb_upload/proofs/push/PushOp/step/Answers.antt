use Rattle.hb_upload.proofs.Leads.{stepped}
use Rattle.hb_upload.proofs.push.PushOp.step.Goals as goal

pub returns-clause-event : goal.returns-clause-event
returns-clause-event g c = rw (← c.self.view_is) (stepped _ c.args.now (g.D.Desk.view c.args.desk.now) (g.D.Desk.view c.next-phase.new.desk) _ _ c.next-phase.ensures.same
    (rw (c.replace-phase.ensures.value) at c.next-phase.ensures.event))
