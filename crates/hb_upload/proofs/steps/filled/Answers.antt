use Rattle.std.proofs.Common.{None, Some, inl, refl, length, ap, ◌∙◌, arith}
use Rattle.hb_desk.specs.declared.refusals.Refusal.TheVariants.{Memory}
use Rattle.hb_desk.specs.declared.asks.Ask.TheVariants.{EndUpload}
use Rattle.hb_upload.specs.Pushes.{parcel_of}
use Rattle.hb_upload.proofs.Leads.{bytes-appended, stage-fault, staged-fits, staged-leads}
use Rattle.hb_upload.proofs.steps.filled.Goals as goal

pub returns-then-taken-ne0-clause-leads : goal.returns-then-taken-ne0-clause-leads
returns-then-taken-ne0-clause-leads g c = λ seal. record { fault = Some Memory; stream = inl refl; leads = refl }

pub returns-in-Err-clause-leads : goal.returns-in-Err-clause-leads
returns-in-Err-clause-leads g c = λ seal. record { fault = Some c.from.result; stream = stage-fault g.T.Stage.faults c.args.taken.stage c.append.new.self c.in-Err.fault c.from.result c.from.ensures.0 c.from.ensures.1 c.in-Err.ensures.cause; leads = refl }

pub returns-in-Ok-clause-leads : goal.returns-in-Ok-clause-leads
returns-in-Ok-clause-leads g c = λ seal. record { fault = None; stream = tt; leads = staged-leads (parcel_of c.args.given.now seal) c.args.upload c.append.new.self c.args.given.now.found c.staged.result c.requires.found c.staged.ensures.right c.staged.ensures.wrong c.args.taken.offset c.args.moment }

pub returns-in-Ok-clause-fits : goal.returns-in-Ok-clause-fits
returns-in-Ok-clause-fits g c = λ v told. staged-fits (parcel_of c.args.given.now (EndUpload 0 0)) c.args.upload c.append.new.self c.args.given.now.found c.staged.result c.requires.found c.staged.ensures.right c.staged.ensures.wrong g.T.Stage.upload g.T.Stage.size g.T.Stage.bytes v
    (c.append.ensures.upload ∙ c.requires.upload)
    (omega (arith, c.in-Ok.ensures.size, c.requires.size, c.if-taken-ne0.false, ap (λ x. length x) c.bytes.ensures))
    (λ h. bytes-appended v.told_bytes (g.T.Stage.bytes c.args.taken.stage) (g.T.Stage.bytes c.append.new.self) c.bytes.result.now c.args.taken.offset (omega (arith, c.if-taken-ne0.false)) told c.in-Ok.ensures.bytes h ∙ ap Some c.bytes.ensures)
