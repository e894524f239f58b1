use Rattle.std.proofs.Common.{◌≡◌, ◌∙◌, IfErr, IfOk, ap, subst, sym}
use Rattle.std.specs.Option.{option_copied}
use Rattle.hb_desk.specs.ClockedDesks.{clocked}
use Rattle.hb_talk.specs.Driving.{IsPut, IsRefused, parcel_of}
use Rattle.hb_talk.specs.Tasks.{task_of}
use Rattle.hb_talk.specs.Tasks.Task.{Pushes}
use Rattle.hb_talk.specs.declared.wanted.Wanted.TheVariants.{PutManifest}
use Rattle.hb_talk.proofs.Answering.{as-task, refused-task}
use Rattle.hb_talk.proofs.serving.put_manifest.Goals as goal

pub returns-in_ok-begun-in-Ok-clause-worked : goal.returns-in_ok-begun-in-Ok-clause-worked
returns-in_ok-begun-in-Ok-clause-worked g c =
    let read = subst (λ read. IfOk read (λ put. IsPut c.bytes.result.now put × (task_of (PutManifest c.args.name c.args.reference) (option_copied c.args.media) c.bytes.result.now ≡ Pushes (parcel_of put c.bytes.result.now)))) c.in-Ok.is c.in_ok-put.ensures.pushes in
    as-task _ _ (Pushes c.in_ok-begun-in-Ok.begun.parcel) (clocked (g.D.Desk.view c.args.desk.now) (g.C.Clock.readings c.args.clock.now)) (clocked (g.D.Desk.view c.push.new.desk) (g.C.Clock.readings c.push.new.clock)) c.push.result
    (subst (λ body. task_of (PutManifest c.args.name c.args.reference) (option_copied c.args.media) body ≡ Pushes (parcel_of c.in-Ok.put body)) c.bytes.ensures read.1 ∙ ap (λ b. Pushes b) (sym c.in_ok-begun-in-Ok.ensures.parcel))
    c.push.ensures.worked

pub returns-in-Err-clause-worked : goal.returns-in-Err-clause-worked
returns-in-Err-clause-worked g c =
    let read = subst (λ read. IfErr read (λ a. IsRefused (task_of (PutManifest c.args.name c.args.reference) (option_copied c.args.media) c.bytes.result.now) a)) c.in-Err.is c.in_ok-put.ensures.refuses in
    refused-task _ _ _ c.in-Err.answer (clocked (g.D.Desk.view c.args.desk.now) (g.C.Clock.readings c.args.clock.now))
    (subst (λ body. IsRefused (task_of (PutManifest c.args.name c.args.reference) (option_copied c.args.media) body) c.in-Err.answer) c.bytes.ensures read)
