use Rattle.std.proofs.Common.{None, ap, refl, sym, ◌∙◌}
use Rattle.hb_desk.specs.Calls.{Number, plain}
use Rattle.hb_upload.specs.Places.{Placing, Stopped, next}
use Rattle.hb_upload.specs.Pushes.{parcel_of}
use Rattle.hb_upload.specs.declared.phase.Stop.TheVariants.{Refused}
use Rattle.hb_upload.proofs.Leads.{one-event}
use Rattle.hb_upload.proofs.steps.place_step.Goals as goal

pub returns-in-Ok-clause-event : goal.returns-in-Ok-clause-event
returns-in-Ok-clause-event g c = λ seal. let b = parcel_of c.args.given.now seal in
    one-event _ b (g.D.Desk.view c.args.desk.now) (g.D.Desk.view c.place.new.self) c.args.now _ _ (plain Number c.place.result) None (Placing c.args.upload) _ refl c.place.ensures.event c.place.ensures.causes tt
    (ap (λ r. next b (Placing c.args.upload) (g.D.Desk.view c.place.new.self).moment (plain Number r) None) (sym c.in-Ok.is))

pub returns-in-Err-clause-event : goal.returns-in-Err-clause-event
returns-in-Err-clause-event g c = λ seal. let b = parcel_of c.args.given.now seal in
    one-event _ b (g.D.Desk.view c.args.desk.now) (g.D.Desk.view c.place.new.self) c.args.now _ _ (plain Number c.place.result) None (Placing c.args.upload) _ refl c.place.ensures.event c.place.ensures.causes tt
    (ap (λ t. Stopped (Refused c.in-Err.refusal t)) c.moment.ensures ∙ ap (λ r. next b (Placing c.args.upload) (g.D.Desk.view c.place.new.self).moment (plain Number r) None) (sym c.in-Err.is))
