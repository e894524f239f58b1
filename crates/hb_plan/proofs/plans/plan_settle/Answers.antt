use Rattle.std.proofs.Common.{◌≡◌, suc, length, find, sym, ap, subst, ◌∙◌}
use Rattle.hb_text.specs.Names.{project_of}
use Rattle.hb_records.specs.declared.notes.Notes.{Notes}
use Rattle.hb_rows.specs.Tables.{blob_at}
use Rattle.hb_desk.specs.Notes.{is_placement, placement_of}
use Rattle.hb_desk.specs.Reply.{refuse}
use Rattle.hb_plan.specs.Findings.{holding_of}
use Rattle.hb_plan.specs.Plans.{PlanFits}
use Rattle.hb_plan.specs.RowRefusals.{no_project_row}
use Rattle.hb_plan.specs.RowReplies.{settle_over}
use Rattle.hb_plan.proofs.Findings.{found-both, read-ok}
use Rattle.hb_plan.proofs.plans.plan_settle.Goals as goal

pub returns-clause-plan : goal.returns-clause-plan
returns-clause-plan g c =
    let name = c.args.name.now in
    let d = c.args.digest.now in
    let project = c.in_ok-project.ensures in
    found-both
    (λ r. c.in_ok-held.held ≡ holding_of r c.in_ok-project.project d)
    (λ r. c.in_ok-blob.blob ≡ blob_at r d)
    (λ r. c.args.stamp.number ≡ suc (length r.audit) → (notes : Notes) → notes.placements ≡ c.args.placements.now → PlanFits (refuse (no_project_row r (project_of name)) (settle_over r name d (placement_of notes c.args.upload d))) r c.args.stamp.number c.args.stamp.moment c.settle.result)
    (g.K.Keeper.rows c.args.keeper.now) (g.K.Keeper.rows c.holding.new.keeper) c.holding.ensures.rows
    (read-ok (g.K.Keeper.rows c.args.keeper.now) (λ r. holding_of r c.in_ok-project.project d) c.holding.result c.in_ok-held.held c.holding.ensures.told c.in_ok-held.ensures.ok)
    (read-ok (g.K.Keeper.rows c.holding.new.keeper) (λ r. blob_at r d) c.blob.result c.in_ok-blob.blob c.blob.ensures.told c.in_ok-blob.ensures.ok)
    (λ r held blob number notes same.
    subst (λ x. PlanFits (refuse (no_project_row r (project_of name)) (settle_over r name d x)) r c.args.stamp.number c.args.stamp.moment c.settle.result)
    (c.placement_of-placement.ensures ∙ ap (λ xs. find (is_placement c.args.upload d) xs) (sym same))
    (c.settle.ensures.fits r number (ap (λ p. holding_of r p d) (sym project) ∙ sym held, sym blob)))
