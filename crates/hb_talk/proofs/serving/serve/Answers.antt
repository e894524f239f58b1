use Rattle.std.proofs.Common.{ap}
use Rattle.hb_desk.specs.ClockedDesks.{clocked}
use Rattle.hb_talk.specs.Tasks.{base, route_error, task_of, unsupported}
use Rattle.hb_talk.specs.Tasks.Task.{Refuses, Tells}
use Rattle.hb_talk.proofs.Answering.{as-task, refused-worked, told-worked}
use Rattle.hb_talk.proofs.serving.serve.Goals as goal

pub returns-in-Base-clause-worked : goal.returns-in-Base-clause-worked
returns-in-Base-clause-worked g c =
    as-task _ _ (Tells base) (clocked (g.D.Desk.view c.args.desk.now) (g.C.Clock.readings c.args.clock.now)) (clocked (g.D.Desk.view c.args.desk.now) (g.C.Clock.readings c.args.clock.now)) c.base.result
    (ap (λ w. task_of w c.args.media.now c.args.body) c.in-Base.is)
    (told-worked _ base (clocked (g.D.Desk.view c.args.desk.now) (g.C.Clock.readings c.args.clock.now)) c.base.result c.base.ensures)

pub returns-in-Unbuilt-clause-worked : goal.returns-in-Unbuilt-clause-worked
returns-in-Unbuilt-clause-worked g c =
    as-task _ _ (Refuses unsupported) (clocked (g.D.Desk.view c.args.desk.now) (g.C.Clock.readings c.args.clock.now)) (clocked (g.D.Desk.view c.args.desk.now) (g.C.Clock.readings c.args.clock.now)) c.unsupported.result
    (ap (λ w. task_of w c.args.media.now c.args.body) c.in-Unbuilt.is)
    (refused-worked _ unsupported (clocked (g.D.Desk.view c.args.desk.now) (g.C.Clock.readings c.args.clock.now)) c.unsupported.result c.unsupported.ensures)

pub returns-in-Unrouted-clause-worked : goal.returns-in-Unrouted-clause-worked
returns-in-Unrouted-clause-worked g c =
    as-task _ _ (Refuses (route_error c.in-Unrouted.fault)) (clocked (g.D.Desk.view c.args.desk.now) (g.C.Clock.readings c.args.clock.now)) (clocked (g.D.Desk.view c.args.desk.now) (g.C.Clock.readings c.args.clock.now)) c.no_route.result
    (ap (λ w. task_of w c.args.media.now c.args.body) c.in-Unrouted.is)
    (refused-worked _ (route_error c.in-Unrouted.fault) (clocked (g.D.Desk.view c.args.desk.now) (g.C.Clock.readings c.args.clock.now)) c.no_route.result c.no_route.ensures)
