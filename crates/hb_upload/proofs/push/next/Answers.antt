use Rattle.std.proofs.Common.{is_some, refl, ap, ◌∙◌}
use Rattle.hb_upload.specs.Phases.{place_at}
use Rattle.hb_upload.specs.Places.{Beginning, Staging, Sealing, Placing, Settling, Ending, Dropping}
use Rattle.hb_upload.specs.Pushes.{parcel_of}
use Rattle.hb_upload.proofs.Leads.{called, ending-at}
use Rattle.hb_upload.proofs.push.next.Goals as goal

pub returns-in-Begin-clause-event : goal.returns-in-Begin-clause-event
returns-in-Begin-clause-event g c = called _ (parcel_of c.args.given.now c.args.seal.now) c.args.now (g.D.Desk.view c.args.desk.now) (g.D.Desk.view c.begin_step.new.desk) _ (place_at c.args.phase) Beginning c.begin_step.result (ap (λ p. place_at p) c.in-Begin.is) refl (c.begin_step.ensures.event _ c.requires.ready.begins)

pub returns-in-Stage-clause-event : goal.returns-in-Stage-clause-event
returns-in-Stage-clause-event g c = called _ (parcel_of c.args.given.now c.args.seal.now) c.args.now (g.D.Desk.view c.args.desk.now) (g.D.Desk.view c.stage_step.new.desk) _ (place_at c.args.phase) (Staging c.in-Stage.upload) c.stage_step.result (ap (λ p. place_at p) c.in-Stage.is) refl (c.stage_step.ensures.event c.args.seal.now)

pub returns-in-Seal-clause-event : goal.returns-in-Seal-clause-event
returns-in-Seal-clause-event g c = called _ (parcel_of c.args.given.now c.args.seal.now) c.args.now (g.D.Desk.view c.args.desk.now) (g.D.Desk.view c.seal_step.new.desk) _ (place_at c.args.phase) (Sealing c.in-Seal.upload) c.seal_step.result (ap (λ p. place_at p) c.in-Seal.is) refl (c.seal_step.ensures.event _ (c.name_upload.ensures ∙ c.requires.ready.seals c.in-Seal.upload))

pub returns-in-Place-clause-event : goal.returns-in-Place-clause-event
returns-in-Place-clause-event g c = called _ (parcel_of c.args.given.now c.args.seal.now) c.args.now (g.D.Desk.view c.args.desk.now) (g.D.Desk.view c.place_step.new.desk) _ (place_at c.args.phase) (Placing c.in-Place.upload) c.place_step.result (ap (λ p. place_at p) c.in-Place.is) refl (c.place_step.ensures.event c.args.seal.now)

pub returns-in-Settle-clause-event : goal.returns-in-Settle-clause-event
returns-in-Settle-clause-event g c = called _ (parcel_of c.args.given.now c.args.seal.now) c.args.now (g.D.Desk.view c.args.desk.now) (g.D.Desk.view c.settle_step.new.desk) _ (place_at c.args.phase) (Settling c.in-Settle.upload) c.settle_step.result (ap (λ p. place_at p) c.in-Settle.is) refl (c.settle_step.ensures.event _ c.in-Settle.upload (c.name_upload-in-Settle.ensures ∙ c.requires.ready.settles c.in-Settle.upload))

pub returns-in-End-clause-event : goal.returns-in-End-clause-event
returns-in-End-clause-event g c = called _ (parcel_of c.args.given.now c.args.seal.now) c.args.now (g.D.Desk.view c.args.desk.now) (g.D.Desk.view c.end_step.new.desk) _ (place_at c.args.phase) (Ending c.in-End.upload (is_some c.in-End.stage) c.in-End.stop) c.end_step.result (ap (λ p. place_at p) c.in-End.is ∙ ending-at c.in-End.upload c.in-End.stage c.in-End.stop) refl (c.end_step.ensures.event _)

pub returns-in-Drop-clause-event : goal.returns-in-Drop-clause-event
returns-in-Drop-clause-event g c = called _ (parcel_of c.args.given.now c.args.seal.now) c.args.now (g.D.Desk.view c.args.desk.now) (g.D.Desk.view c.drop_step.new.desk) _ (place_at c.args.phase) (Dropping c.in-Drop.upload c.in-Drop.stop) c.drop_step.result (ap (λ p. place_at p) c.in-Drop.is) refl (c.drop_step.ensures.event _)
