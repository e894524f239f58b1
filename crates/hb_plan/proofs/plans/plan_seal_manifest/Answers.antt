use Rattle.std.proofs.Common.{◌≡◌, suc, length, sym, ap, ◌∙◌}
use Rattle.hb_records.specs.declared.notes.Notes.{Notes}
use Rattle.hb_rows.specs.Tables.{upload_at}
use Rattle.hb_plan.specs.Findings.{parts_of}
use Rattle.hb_plan.specs.Plans.{PlanFits}
use Rattle.hb_plan.specs.RowReplies.{seal_manifest_over}
use Rattle.hb_plan.proofs.Findings.{found-both, read-ok}
use Rattle.hb_plan.proofs.plans.plan_seal_manifest.Goals as goal

pub returns-clause-plan : goal.returns-clause-plan
returns-clause-plan g c =
    let project = c.in_ok-project.ensures in
    found-both
    (λ r. c.in_ok-row.row ≡ upload_at r c.args.upload)
    (λ r. c.in_ok-parts.parts ≡ parts_of r c.in_ok-project.project c.args.put.now)
    (λ r. c.args.stamp.number ≡ suc (length r.audit) → (notes : Notes) → PlanFits (seal_manifest_over r c.args.upload c.args.put.now) r c.args.stamp.number c.args.stamp.moment c.seal_manifest.result)
    (g.K.Keeper.rows c.args.keeper.now) (g.K.Keeper.rows c.upload.new.self) c.upload.ensures.rows
    (read-ok (g.K.Keeper.rows c.args.keeper.now) (λ r. upload_at r c.args.upload) c.upload.result c.in_ok-row.row c.upload.ensures.told c.in_ok-row.ensures.ok)
    (read-ok (g.K.Keeper.rows c.upload.new.self) (λ r. parts_of r c.in_ok-project.project c.args.put.now) c.parts.result c.in_ok-parts.parts c.parts.ensures.told c.in_ok-parts.ensures.ok)
    (λ r row parts number notes. c.seal_manifest.ensures.fits r number (sym row, ap (λ p. parts_of r p c.args.put.now) (sym project) ∙ sym parts))
