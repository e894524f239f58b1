use Rattle.std.proofs.Common.{None, false, refl, ap, sym, ◌∙◌}
use Rattle.hb_desk.specs.Calls.{StageAt, plain}
use Rattle.hb_upload.specs.Places.{Ending, Staging, next}
use Rattle.hb_upload.specs.declared.phase.Stop.TheVariants.{Refused}
use Rattle.hb_upload.specs.Pushes.{parcel_of}
use Rattle.hb_upload.proofs.Leads.{one-event, stage-leads, stage-stream}
use Rattle.hb_upload.proofs.steps.stage_step.Goals as goal

pub returns-in-Ok-clause-event : goal.returns-in-Ok-clause-event
returns-in-Ok-clause-event g c = λ seal. let b = parcel_of c.args.given.now seal in let leads = c.filled.ensures.leads seal in
    one-event _ b (g.D.Desk.view c.args.desk.now) (g.D.Desk.view c.stage-taken.new.self) c.args.now _ _ (plain (λ s. StageAt s.offset) c.stage-taken.result) leads.fault (Staging c.args.upload) _ refl c.stage-taken.ensures.event c.stage-taken.ensures.causes
    (stage-stream g.D.Stage.Stage.faults g.D.Reader.Reader.faults leads.fault leads.stream)
    (stage-leads b c.args.upload c.in-Ok.taken.offset c.moment-moment.result _ _ leads.fault _ c.moment-moment.ensures (ap (λ r. plain (λ s. StageAt s.offset) r) (sym c.in-Ok.is)) leads.leads)

pub returns-in-Err-clause-event : goal.returns-in-Err-clause-event
returns-in-Err-clause-event g c = λ seal. let b = parcel_of c.args.given.now seal in
    one-event _ b (g.D.Desk.view c.args.desk.now) (g.D.Desk.view c.stage-taken.new.self) c.args.now _ _ (plain (λ s. StageAt s.offset) c.stage-taken.result) None (Staging c.args.upload) _ refl c.stage-taken.ensures.event c.stage-taken.ensures.causes tt
    (ap (λ t. Ending c.args.upload false (Refused c.in-Err.refusal t)) c.moment-moment.ensures ∙ ap (λ r. next b (Staging c.args.upload) (g.D.Desk.view c.stage-taken.new.self).moment (plain (λ s. StageAt s.offset) r) None) (sym c.in-Err.is))
