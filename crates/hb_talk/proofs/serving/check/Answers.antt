use Rattle.std.proofs.Common.{sym}
use Rattle.hb_desk.specs.ClockedDesks.{clocked}
use Rattle.hb_talk.proofs.Answering.{check-worked}
use Rattle.hb_talk.proofs.serving.check.Goals as goal

pub returns-clause-worked : goal.returns-clause-worked
returns-clause-worked g c =
    let is = c.in-Some.ensures in
    check-worked _ c.args.check c.drive.new.op (clocked (g.D.Desk.view c.args.desk.now) (g.C.Clock.readings c.args.clock.now)) (clocked (g.D.Desk.view c.drive.new.desk) (g.C.Clock.readings c.drive.new.clock)) c.in-Some.end c.checked.result
    (c.drive.ensures.driven c.args.check c.requires.went) (sym is.is) (λ points went. is.decided c.args.check points went) c.checked.ensures
