use Rattle.std.proofs.Common.{refl, sym, subst}
use Rattle.hb_desk.specs.Alone.{AloneKnows}
use Rattle.hb_desk.specs.Calls.{StagePlaced}
use Rattle.hb_desk.proofs.Interleave.{alone-quiet, knows-placed, causes-after, keeps-placed}
use Rattle.hb_desk.proofs.alone.AloneDesk.place.Goals as goal

pub invariant_of-self : goal.invariant_of-self
invariant_of-self g c =
    subst (AloneKnows (g.D.Desk.view c.place-result.new.self) c.self.inside.last) (sym c.end.ensures)
    (knows-placed (g.D.Desk.view c.self.inside.desk) (g.D.Desk.view c.between.new.desk) (g.D.Desk.view c.place-result.new.self) c.args.now c.self.inside.last c.args.upload c.args.digest.now c.self.inside.sealed _ c.self.invariant c.between.ensures c.place-result.ensures.causes)

pub returns-clause-event : goal.returns-clause-event
returns-clause-event g c =
    rw (← c.self.view_is) (alone-quiet c.self.inside.own (g.D.Desk.view c.self.inside.desk) (g.D.Desk.view c.between.new.desk) (g.D.Desk.view c.place-result.new.self) c.self.inside.last c.self.inside.sealed c.end.new.self
    (StagePlaced c.args.upload c.args.digest.now) _ refl c.between.ensures c.place-result.ensures.event)

pub returns-clause-causes : goal.returns-clause-causes
returns-clause-causes g c =
    rw (← c.self.view_is, c.end.ensures) (causes-after c.self.inside.own c.self.inside.own (g.D.Desk.view c.self.inside.desk) (g.D.Desk.view c.between.new.desk) (g.D.Desk.view c.place-result.new.self) c.args.now c.self.inside.last c.self.inside.last c.self.inside.sealed _
    (StagePlaced c.args.upload c.args.digest.now) _ (λ u x apart h. keeps-placed u c.args.upload x c.self.inside.sealed apart h) c.between.ensures c.place-result.ensures.causes)

pub returns-clause-store : goal.returns-clause-store
returns-clause-store g c = rw (← c.self.view_is) (λ alone. cc alone)
