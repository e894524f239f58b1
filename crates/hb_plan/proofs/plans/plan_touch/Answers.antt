use Rattle.std.proofs.Common.{◌≡◌, suc, length, sym}
use Rattle.hb_records.specs.declared.notes.Notes.{Notes}
use Rattle.hb_rows.specs.Tables.{blob_at}
use Rattle.hb_plan.specs.Findings.{holding_of}
use Rattle.hb_plan.specs.Plans.{PlanFits}
use Rattle.hb_plan.specs.RowReplies.{touch_over}
use Rattle.hb_plan.proofs.Findings.{found-both, read-ok}
use Rattle.hb_plan.proofs.plans.plan_touch.Goals as goal

pub returns-clause-plan : goal.returns-clause-plan
returns-clause-plan g c =
    let name = c.args.name.now in
    let d = c.args.digest.now in
    found-both
    (λ r. c.in_ok-held.held ≡ holding_of r c.in_ok-project.project d)
    (λ r. c.in_ok-blob.blob ≡ blob_at r d)
    (λ r. c.args.stamp.number ≡ suc (length r.audit) → (notes : Notes) → PlanFits (touch_over r name d) r c.args.stamp.number c.args.stamp.moment c.touch.result)
    (g.K.Keeper.rows c.args.keeper.now) (g.K.Keeper.rows c.holding.new.keeper) c.holding.ensures.rows
    (read-ok (g.K.Keeper.rows c.args.keeper.now) (λ r. holding_of r c.in_ok-project.project d) c.holding.result c.in_ok-held.held c.holding.ensures.told c.in_ok-held.ensures.ok)
    (read-ok (g.K.Keeper.rows c.holding.new.keeper) (λ r. blob_at r d) c.blob.result c.in_ok-blob.blob c.blob.ensures.told c.in_ok-blob.ensures.ok)
    (λ r held blob number notes. c.touch.ensures.fits name c.in_ok-project.ensures r number (sym held, sym blob))
