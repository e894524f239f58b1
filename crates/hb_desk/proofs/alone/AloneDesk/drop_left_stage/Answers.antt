use Rattle.std.proofs.Common.{refl, false}
use Rattle.hb_desk.specs.Calls.{StageDropped}
use Rattle.hb_desk.proofs.Interleave.{alone-quiet}
use Rattle.hb_desk.proofs.alone.AloneDesk.drop_left_stage.Goals as goal

pub returns-clause-event : goal.returns-clause-event
returns-clause-event g c =
    rw (← c.self.view_is) (alone-quiet c.self.inside.own (g.D.Desk.view c.self.inside.desk) (g.D.Desk.view c.between.new.desk) (g.D.Desk.view c.drop_left_stage.new.self) c.self.inside.last c.self.inside.sealed c.self.inside.sealed
    (StageDropped c.args.upload false) _ refl c.between.ensures c.drop_left_stage.ensures.event)

pub returns-clause-store : goal.returns-clause-store
returns-clause-store g c = rw (← c.self.view_is) (λ alone. cc alone)
