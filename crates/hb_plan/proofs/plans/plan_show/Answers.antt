use Rattle.std.proofs.Common.{◌≡◌, suc, length, sym}
use Rattle.hb_records.specs.declared.notes.Notes.{Notes}
use Rattle.hb_rows.specs.Tables.{project_at}
use Rattle.hb_plan.specs.Plans.{PlanFits}
use Rattle.hb_plan.specs.RowReplies.{show_row}
use Rattle.hb_plan.proofs.Findings.{found-one, read-ok}
use Rattle.hb_plan.proofs.plans.plan_show.Goals as goal

pub returns-clause-plan : goal.returns-clause-plan
returns-clause-plan g c = found-one
    (λ r. c.in_ok-row.row ≡ project_at r c.args.name.now)
    (λ r. c.args.stamp.number ≡ suc (length r.audit) → (notes : Notes) → PlanFits (show_row (project_at r c.args.name.now)) r c.args.stamp.number c.args.stamp.moment c.show.result)
    (g.K.Keeper.rows c.args.keeper.now)
    (read-ok (g.K.Keeper.rows c.args.keeper.now) (λ r. project_at r c.args.name.now) c.project.result c.in_ok-row.row c.project.ensures.told c.in_ok-row.ensures.ok)
    (λ r row number notes. c.show.ensures.fits c.args.name.now r number (sym row))
