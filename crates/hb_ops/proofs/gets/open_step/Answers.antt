use Rattle.std.proofs.Common.{None, Ok, Err, refl, sym, ◌∙◌}
use Rattle.hb_desk.specs.Calls.{Content}
use Rattle.hb_desk.specs.Points.{point_of}
use Rattle.hb_ops.specs.Gets.{open_call}
use Rattle.hb_ops.proofs.Leads.{none-behind, nothing-behind, note-behind, noted-at-end, opened-by, stream-fault, went-to-end, went-to-note}
use Rattle.hb_desk.proofs.Stepping.{one-step}
use Rattle.hb_ops.specs.declared.gets.Got.TheVariants.{Refused}
use Rattle.hb_ops.proofs.gets.open_step.Goals as goal

pub returns-in-Some-clause-event : goal.returns-in-Some-clause-event
returns-in-Some-clause-event g c =
    let old = g.D.Desk.view c.args.desk.now in
    let new = g.D.Desk.view c.open.new.desk in
    let o = c.in-Ok.opened in
    let outcome = Ok (Content o.digest o.size o.media) in
    let gives = c.read-got.ensures.gives in
    let x = c.read-got.result in
    one-step _ old new c.args.now (open_call c.args.sought.now) outcome gives.0 _ _ c.in-Ok.ensures.event c.in-Ok.ensures.causes (stream-fault _ _ gives.0 gives.1)
    (λ s begun points went. went-to-note begun c.args.sought.now c.args.note (point_of old new s (open_call c.args.sought.now) outcome gives.0) c.named.result x points
    (opened-by c.args.sought.now _ x c.moment.result refl c.moment.ensures gives.2)
    (note-behind c.args.sought.now c.args.note c.in-Some.ask c.named.result o.digest c.requires.noted c.in-Some.is c.named.ensures) went)

pub returns-in-Some-clause-fits : goal.returns-in-Some-clause-fits
returns-in-Some-clause-fits g c = c.read-got.ensures.digest _ (λ told. c.in-Ok.ensures.bytes (sym c.in-Ok.ensures.causes.told_bytes ∙ told))

pub returns-in-None-clause-event : goal.returns-in-None-clause-event
returns-in-None-clause-event g c =
    let old = g.D.Desk.view c.args.desk.now in
    let new = g.D.Desk.view c.open.new.desk in
    let o = c.in-Ok.opened in
    let outcome = Ok (Content o.digest o.size o.media) in
    let gives = c.read-got.ensures.gives in
    let x = c.read-got.result in
    one-step _ old new c.args.now (open_call c.args.sought.now) outcome gives.0 _ _ c.in-Ok.ensures.event c.in-Ok.ensures.causes (stream-fault _ _ gives.0 gives.1)
    (λ s begun points went. went-to-end begun c.args.sought.now c.args.note (point_of old new s (open_call c.args.sought.now) outcome gives.0) x points
    (opened-by c.args.sought.now _ x c.moment.result refl c.moment.ensures gives.2)
    (none-behind c.args.sought.now c.args.note o.digest c.requires.noted c.in-None.is) went)

pub returns-in-None-clause-fits : goal.returns-in-None-clause-fits
returns-in-None-clause-fits g c = c.read-got.ensures.digest _ (λ told. c.in-Ok.ensures.bytes (sym c.in-Ok.ensures.causes.told_bytes ∙ told))

pub returns-in-Err-clause-event : goal.returns-in-Err-clause-event
returns-in-Err-clause-event g c =
    let old = g.D.Desk.view c.args.desk.now in
    let new = g.D.Desk.view c.open.new.desk in
    one-step _ old new c.args.now (open_call c.args.sought.now) (Err c.in-Err.refusal) None _ _ c.in-Err.ensures.event c.in-Err.ensures.causes tt
    (λ s begun points went. went-to-end begun c.args.sought.now c.args.note (point_of old new s (open_call c.args.sought.now) (Err c.in-Err.refusal) None) (Refused c.in-Err.refusal c.moment-in-Err.result) points
    (opened-by c.args.sought.now _ _ c.moment-in-Err.result refl c.moment-in-Err.ensures refl) (nothing-behind c.args.sought.now c.in-Err.refusal) went)

pub returns-in-Err-clause-noted : goal.returns-in-Err-clause-noted
returns-in-Err-clause-noted g c = noted-at-end c.args.sought.now _
