use Rattle.hb_desk.specs.ClockedDesks.{clocked}
use Rattle.hb_talk.proofs.Answering.{get-worked}
use Rattle.hb_talk.proofs.serving.get.Goals as goal

pub returns-clause-worked : goal.returns-clause-worked
returns-clause-worked g c =
    let is = c.in-Some.ensures in
    get-worked _ c.args.get c.drive.new.op (clocked (g.D.Desk.view c.args.desk.now) (g.C.Clock.readings c.args.clock.now)) (clocked (g.D.Desk.view c.drive.new.desk) (g.C.Clock.readings c.drive.new.clock)) c.in-Some.end c.got.result
    (c.drive.ensures.driven c.args.get c.requires.went) is.is (λ points went. is.decided c.args.get points went) c.drive.ensures.fits c.drive.ensures.moves.told_bytes c.got.ensures
