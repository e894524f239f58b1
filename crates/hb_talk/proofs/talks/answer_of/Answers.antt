use Rattle.std.proofs.Common.{Ok, subst, sym}
use Rattle.hb_base.specs.declared.memory.Memory.{Memory}
use Rattle.hb_desk.specs.Points.{IsStreamFault}
use Rattle.hb_desk.specs.ClockedDesks.{clocked}
use Rattle.hb_talk.specs.Progress.{Served}
use Rattle.hb_talk.proofs.Served.{served-task, unserved-task}
use Rattle.hb_talk.proofs.talks.answer_of.Goals as goal

pub returns-in-Ok-clause-served : goal.returns-in-Ok-clause-served
returns-in-Ok-clause-served g c = λ given comes.
    subst (λ a. Served {E = Memory} (IsStreamFault g.row.D-Stage.Denot g.row.D-Reader.Denot g.D.Stage.Stage.faults g.D.Reader.Reader.faults) (clocked (g.D.Desk.view c.args.desk.now) (g.C.Clock.readings c.args.clock.now)) (clocked (g.D.Desk.view c.serve-served.new.desk) (g.C.Clock.readings c.serve-served.new.clock)) given (Ok a)) (sym c.as_asked.ensures)
    (served-task _ _ given c.args.coming c.of.result c.in-Ok.answer (clocked (g.D.Desk.view c.args.desk.now) (g.C.Clock.readings c.args.clock.now)) (clocked (g.D.Desk.view c.serve-served.new.desk) (g.C.Clock.readings c.serve-served.new.clock)) comes c.of.ensures c.in-Ok.ensures.worked)

pub returns-in-Err-clause-served : goal.returns-in-Err-clause-served
returns-in-Err-clause-served g c = λ given comes.
    unserved-task _ given c.args.coming c.of.result (clocked (g.D.Desk.view c.args.desk.now) (g.C.Clock.readings c.args.clock.now)) (clocked (g.D.Desk.view c.serve-served.new.desk) (g.C.Clock.readings c.serve-served.new.clock)) _ comes c.of.ensures c.in-Err.ensures.worked
