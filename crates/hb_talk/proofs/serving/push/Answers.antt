use Rattle.hb_desk.specs.ClockedDesks.{clocked}
use Rattle.hb_talk.proofs.Answering.{answer-for, push-worked}
use Rattle.hb_talk.proofs.serving.push.Goals as goal

pub returns-clause-worked : goal.returns-clause-worked
returns-clause-worked g c =
    push-worked _ c.args.push c.drive.new.op (clocked (g.D.Desk.view c.args.desk.now) (g.C.Clock.readings c.args.clock.now)) (clocked (g.D.Desk.view c.drive.new.desk) (g.C.Clock.readings c.drive.new.clock)) c.in-Some.stop c.push_answer.result
    (c.drive.ensures.driven c.args.push c.requires.went) c.drive.ensures.done (λ points went. c.in-Some.ensures.decided c.args.push points went)
    (answer-for c.args.push.parcel c.in-Some.stop c.args.digest c.args.location c.push_answer.result c.requires.location c.requires.digest c.push_answer.ensures)
