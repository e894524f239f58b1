use Rattle.hb_ops.proofs.gets.next.Goals as goal

pub returns-in-Open-clause-event : goal.returns-in-Open-clause-event
returns-in-Open-clause-event g c = rw (c.in-Open.is) c.open_step.ensures.event

pub returns-in-Note-clause-event : goal.returns-in-Note-clause-event
returns-in-Note-clause-event g c = rw (c.in-Note.is) (c.note_step.ensures.event c.args.sought.now)
