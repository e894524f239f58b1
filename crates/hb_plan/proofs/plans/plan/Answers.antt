use Rattle.hb_plan.proofs.Findings.{with-notes}
use Rattle.hb_plan.proofs.plans.plan.Goals as goal

pub returns-in-ShowProject-clause-plan : goal.returns-in-ShowProject-clause-plan
returns-in-ShowProject-clause-plan g c = with-notes (g.K.Keeper.rows c.args.keeper.now) c.args.placements.now c.args.number c.args.moment c.plan_show.result _ _ c.in-ShowProject.is c.plan_show.ensures.plan

pub returns-in-BeginUpload-clause-plan : goal.returns-in-BeginUpload-clause-plan
returns-in-BeginUpload-clause-plan g c = with-notes (g.K.Keeper.rows c.args.keeper.now) c.args.placements.now c.args.number c.args.moment c.plan_begin.result _ _ c.in-BeginUpload.is c.plan_begin.ensures.plan

pub returns-in-EndUpload-clause-plan : goal.returns-in-EndUpload-clause-plan
returns-in-EndUpload-clause-plan g c = with-notes (g.K.Keeper.rows c.args.keeper.now) c.args.placements.now c.args.number c.args.moment c.plan_end.result _ _ c.in-EndUpload.is c.plan_end.ensures.plan

pub returns-in-Seal-clause-plan : goal.returns-in-Seal-clause-plan
returns-in-Seal-clause-plan g c = with-notes (g.K.Keeper.rows c.args.keeper.now) c.args.placements.now c.args.number c.args.moment c.plan_seal.result _ _ c.in-Seal.is c.plan_seal.ensures.plan

pub returns-in-SealManifest-clause-plan : goal.returns-in-SealManifest-clause-plan
returns-in-SealManifest-clause-plan g c = with-notes (g.K.Keeper.rows c.args.keeper.now) c.args.placements.now c.args.number c.args.moment c.plan_seal_manifest.result _ _ c.in-SealManifest.is c.plan_seal_manifest.ensures.plan

pub returns-in-NotePull-clause-plan : goal.returns-in-NotePull-clause-plan
returns-in-NotePull-clause-plan g c = with-notes (g.K.Keeper.rows c.args.keeper.now) c.args.placements.now c.args.number c.args.moment c.plan_pull.result _ _ c.in-NotePull.is c.plan_pull.ensures.plan

pub returns-in-TouchBlob-clause-plan : goal.returns-in-TouchBlob-clause-plan
returns-in-TouchBlob-clause-plan g c = with-notes (g.K.Keeper.rows c.args.keeper.now) c.args.placements.now c.args.number c.args.moment c.plan_touch.result _ _ c.in-TouchBlob.is c.plan_touch.ensures.plan

pub returns-in-Look-clause-plan : goal.returns-in-Look-clause-plan
returns-in-Look-clause-plan g c = with-notes (g.K.Keeper.rows c.args.keeper.now) c.args.placements.now c.args.number c.args.moment c.plan_look.result _ _ c.in-Look.is c.plan_look.ensures.plan
