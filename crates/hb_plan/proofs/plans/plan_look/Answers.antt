use Rattle.std.proofs.Common.{◌≡◌, suc, length, sym, ap, ◌∙◌}
use Rattle.hb_records.specs.declared.notes.Notes.{Notes}
use Rattle.hb_rows.specs.Tables.{project_at}
use Rattle.hb_plan.specs.Plans.{PlanFits}
use Rattle.hb_plan.specs.RowReplies.{look_over, row_named_by}
use Rattle.hb_plan.proofs.Findings.{found-both, read-ok}
use Rattle.hb_plan.proofs.plans.plan_look.Goals as goal

pub returns-clause-plan : goal.returns-clause-plan
returns-clause-plan g c =
    let name = c.args.name.now in
    let ref = c.args.reference.now in
    found-both
    (λ r. c.in_ok-project.project ≡ project_at r c.in_ok-owner.owner)
    (λ r. c.in_ok-row.row ≡ row_named_by r name ref)
    (λ r. c.args.stamp.number ≡ suc (length r.audit) → (notes : Notes) → PlanFits (look_over r name ref) r c.args.stamp.number c.args.stamp.moment c.look.result)
    (g.K.Keeper.rows c.args.keeper.now) (g.K.Keeper.rows c.project.new.self) c.project.ensures.rows
    (read-ok (g.K.Keeper.rows c.args.keeper.now) (λ r. project_at r c.in_ok-owner.owner) c.project.result c.in_ok-project.project c.project.ensures.told c.in_ok-project.ensures.ok)
    (read-ok (g.K.Keeper.rows c.project.new.self) (λ r. row_named_by r name ref) c.find_artifact.result c.in_ok-row.row c.find_artifact.ensures.told c.in_ok-row.ensures.ok)
    (λ r project row number notes. c.look.ensures.fits name ref r number (ap (λ p. project_at r p) (sym c.in_ok-owner.ensures) ∙ sym project, sym row))
