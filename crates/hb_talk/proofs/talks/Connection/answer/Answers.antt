use Rattle.std.proofs.Common.{◌∙◌, Ok, Some, refl, subst, sym}
use Rattle.hb_base.specs.declared.memory.Memory.{Memory}
use Rattle.hb_outside.specs.Streams.{Writes}
use Rattle.hb_desk.specs.Points.{IsStreamFault}
use Rattle.hb_desk.specs.ClockedDesks.{clocked}
use Rattle.hb_talk.specs.Progress.{Answered, Comes}
use Rattle.hb_talk.proofs.Served.{answered-fails, left-unanswered, turn-of, turn-text}
use Rattle.hb_talk.proofs.talks.Connection.answer.Goals.{in-Ok-write, in-Ok-2, in-Err}
use Rattle.hb_talk.proofs.talks.Connection.answer.Goals as goal

pub returns-clause-answered : goal.returns-clause-answered
returns-clause-answered g c = rw (← c.self.view_is) (λ given comes.
    let mine = subst (λ coming. Comes coming (Some given)) (sym c.in-Some.ensures.value) comes in
    let served = c.in-Ok.ensures.served given mine in
    let t = turn-of Memory (IsStreamFault g.row.D-Stage.Denot g.row.D-Reader.Denot g.D.Stage.Stage.faults g.D.Reader.Reader.faults) (clocked (g.D.Desk.view c.args.desk.now) (g.C.Clock.readings c.args.clock.now)) (clocked (g.D.Desk.view c.answer_of.new.desk) (g.C.Clock.readings c.answer_of.new.clock)) given c.in-Some.coming c.in-Ok.answer mine served in
    elim c.match-write.branch [
      | in-Ok-write w ↦ subst (λ turned. Answered (IsStreamFault g.row.D-Stage.Denot g.row.D-Reader.Denot g.D.Stage.Stage.faults g.D.Reader.Reader.faults) (clocked (g.D.Desk.view c.args.desk.now) (g.C.Clock.readings c.args.clock.now)) (clocked (g.D.Desk.view c.answer_of.new.desk) (g.C.Clock.readings c.answer_of.new.clock)) (g.O.Sink.held c.args.out.now) (g.O.Sink.held c.write.new.out) given turned) (sym w.result-is)
          (t.turn, t.next, t.closes_is ∙ w.if-last.true, turn-text (Writes (g.O.Sink.held c.args.out.now) (g.O.Sink.held c.write.new.out)) t w.in-Ok-write.ensures.wrote)
      | in-Ok-2 w ↦ subst (λ turned. Answered (IsStreamFault g.row.D-Stage.Denot g.row.D-Reader.Denot g.D.Stage.Stage.faults g.D.Reader.Reader.faults) (clocked (g.D.Desk.view c.args.desk.now) (g.C.Clock.readings c.args.clock.now)) (clocked (g.D.Desk.view c.answer_of.new.desk) (g.C.Clock.readings c.answer_of.new.clock)) (g.O.Sink.held c.args.out.now) (g.O.Sink.held c.write.new.out) given turned) (sym w.result-is)
          (t.turn, t.next, t.closes_is ∙ w.if-last.false, turn-text (Writes (g.O.Sink.held c.args.out.now) (g.O.Sink.held c.write.new.out)) t w.in-Ok-2.ensures.wrote)
      | in-Err w ↦ subst (λ turned. Answered (IsStreamFault g.row.D-Stage.Denot g.row.D-Reader.Denot g.D.Stage.Stage.faults g.D.Reader.Reader.faults) (clocked (g.D.Desk.view c.args.desk.now) (g.C.Clock.readings c.args.clock.now)) (clocked (g.D.Desk.view c.answer_of.new.desk) (g.C.Clock.readings c.answer_of.new.clock)) (g.O.Sink.held c.args.out.now) (g.O.Sink.held c.write.new.out) given turned) (sym w.result-is)
          (answered-fails _ (clocked (g.D.Desk.view c.args.desk.now) (g.C.Clock.readings c.args.clock.now)) (clocked (g.D.Desk.view c.answer_of.new.desk) (g.C.Clock.readings c.answer_of.new.clock)) given c.in-Some.coming.last c.in-Ok.answer (g.O.Sink.held c.args.out.now) (g.O.Sink.held c.write.new.out) w.in-Err.end t
          (left-unanswered _ (clocked (g.D.Desk.view c.args.desk.now) (g.C.Clock.readings c.args.clock.now)) (clocked (g.D.Desk.view c.answer_of.new.desk) (g.C.Clock.readings c.answer_of.new.clock)) given (Ok c.in-Ok.answer) served) w.in-Err.ensures.fails)
    ])

pub returns-in_default-answer_of-clause-answered : goal.returns-in_default-answer_of-clause-answered
returns-in_default-answer_of-clause-answered g c = rw (← c.self.view_is) (λ given comes.
    let mine = subst (λ coming. Comes coming (Some given)) (sym c.in-Some.ensures.value) comes in
    (left-unanswered _ (clocked (g.D.Desk.view c.args.desk.now) (g.C.Clock.readings c.args.clock.now)) (clocked (g.D.Desk.view c.answer_of.new.desk) (g.C.Clock.readings c.answer_of.new.clock)) given c.answer_of.result (c.answer_of.ensures.served given mine), refl))
