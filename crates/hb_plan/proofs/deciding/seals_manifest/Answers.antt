use Rattle.std.proofs.Common.{◌≡◌, None, sym, ap, subst, ◌∙◌}
use Rattle.hb_records.specs.declared.entries.EntryKind.TheVariants as entry
use Rattle.hb_model.specs.Words.{same_text, some_and}
use Rattle.hb_desk.specs.Refusing.{unless}
use Rattle.hb_desk.specs.Reply.{refuse, commits}
use Rattle.hb_desk.specs.declared.told.Told.TheVariants as told
use Rattle.hb_desk.specs.declared.refusals.Refusal.TheVariants.{UploadUnknown}
use Rattle.hb_plan.specs.Findings.{Decides}
use Rattle.hb_plan.specs.RowRefusals.{no_upload_row_of}
use Rattle.hb_plan.specs.RowReplies.{parts_over}
use Rattle.hb_plan.proofs.deciding.seals_manifest.Goals as goal

pub returns-clause-decides : goal.returns-clause-decides
returns-clause-decides c r upload parts =
    let next = commits r.audit told.Done (entry.UploadEnded 0 c.args.upload) in
    let known : no_upload_row_of r c.args.put.now.name c.args.upload ≡ None =
    ap (λ x. unless (some_and (λ row. same_text c.args.put.now.name row.name) x) UploadUnknown) upload ∙ ap (λ b. unless b UploadUnknown) (sym c.if-not-is_of.ensures) in
    subst (λ cause. Decides (refuse cause (parts_over r c.args.put.now c.args.put.now.size next)) (λ x. next) c.is_whole.result) (sym known) (c.is_whole.ensures.decides r next parts)
