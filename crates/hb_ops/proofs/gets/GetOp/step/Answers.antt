use Rattle.hb_ops.proofs.gets.GetOp.step.Goals as goal

pub returns-clause-event : goal.returns-clause-event
returns-clause-event g c = rw (← c.self.view_is) (rw (c.replace-phase.ensures.value) at c.next-phase.ensures.event)
