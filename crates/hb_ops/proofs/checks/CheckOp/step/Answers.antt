use Rattle.hb_ops.proofs.checks.CheckOp.step.Goals as goal

pub returns-clause-event : goal.returns-clause-event
returns-clause-event g c = rw (← c.self.view_is) (c.asked-ended.ensures.event c.self.inside.ended (rw (← c.self.view_is) at c.requires.ready))
