use Rattle.std.proofs.Common.{refl}
use Rattle.hb_world.proofs.AskCommits.{commit-fits, refused-plan}
use Rattle.hb_world.proofs.asking.commit_ask.Goals as goal

pub returns-in-Ok-clause-told : goal.returns-in-Ok-clause-told
returns-in-Ok-clause-told g c = let e = c.commit_planned.ensures in commit-fits (g.K.Keeper.rows c.args.keeper.now) (g.K.Keeper.rows c.plan.new.keeper) c.args.placements.now c.args.ask.now _ c.args.moment c.args.entries.now c.args.last.now c.in-Ok.planned c.commit_planned.result _ _ _ c.in-Ok.ensures.rows refl c.in-Ok.ensures.plan e.told e.rows e.count e.last e.same e.fault

pub returns-in-Err-clause-told : goal.returns-in-Err-clause-told
returns-in-Err-clause-told g c = refused-plan (g.K.Keeper.rows c.args.keeper.now) c.args.placements.now c.args.ask.now _ c.args.moment c.args.entries.now c.args.last.now c.in-Err.refusal _ refl c.in-Err.ensures.plan c.in-Err.ensures.rows
