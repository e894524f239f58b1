use Rattle.std.proofs.Common.{refl}
use Rattle.hb_desk.specs.Calls.{StageTaken}
use Rattle.hb_desk.proofs.Interleave.{alone-quiet}
use Rattle.hb_desk.proofs.alone.AloneDesk.stage.Goals as goal

pub returns-clause-event : goal.returns-clause-event
returns-clause-event g c =
    rw (← c.self.view_is) (alone-quiet c.self.inside.own (g.D.Desk.view c.self.inside.desk) (g.D.Desk.view c.between.new.desk) (g.D.Desk.view c.stage.new.self) c.self.inside.last c.self.inside.sealed c.self.inside.sealed
    (StageTaken c.args.name.now c.args.upload c.args.start) _ refl c.between.ensures c.stage.ensures.event)

pub returns-clause-store : goal.returns-clause-store
returns-clause-store g c = rw (← c.self.view_is) (λ alone. cc alone)
