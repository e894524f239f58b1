use Rattle.std.proofs.Common.{refl}
use Rattle.hb_desk.specs.Calls.{ManifestOpened}
use Rattle.hb_desk.proofs.Interleave.{alone-quiet}
use Rattle.hb_desk.proofs.alone.AloneDesk.open_manifest.Goals as goal

pub returns-clause-event : goal.returns-clause-event
returns-clause-event g c =
    rw (← c.self.view_is) (alone-quiet c.self.inside.own (g.D.Desk.view c.self.inside.desk) (g.D.Desk.view c.between.new.desk) (g.D.Desk.view c.open_manifest.new.self) c.self.inside.last c.self.inside.sealed c.self.inside.sealed
    (ManifestOpened c.args.name.now c.args.reference.now) _ refl c.between.ensures c.open_manifest.ensures.event)

pub returns-clause-store : goal.returns-clause-store
returns-clause-store g c = rw (← c.self.view_is) (λ alone. cc alone)
