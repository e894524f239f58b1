use Rattle.std.proofs.Common.{Some, true, refl}
use Rattle.hb_desk.specs.Calls.{StageDropped, StageTaken}
use Rattle.hb_desk.proofs.Interleave.{between-more, one-between}
use Rattle.hb_talk.proofs.shared_tests.staged.Goals as goal

pub returns-then-staged-ne0-clause-between : goal.returns-then-staged-ne0-clause-between
returns-then-staged-ne0-clause-between g c = λ own. between-more own _ _ _
    (one-between own _ _ c.args.now (StageTaken c.args.name.now c.args.upload (Some 0)) _ (λ u x mine. refl) (c.requires.unspent _) (c.requires.unspent _) c.stage.ensures.event c.stage.ensures.causes)
    (one-between own _ _ c.args.now (StageDropped c.args.upload true) _ (λ u x mine. refl) (c.requires.unspent _) (c.requires.unspent _) c.drop_stage-dropped.ensures.event c.drop_stage-dropped.ensures.causes)

pub returns-clause-between : goal.returns-clause-between
returns-clause-between g c = λ own. one-between own _ _ c.args.now (StageTaken c.args.name.now c.args.upload (Some 0)) _ (λ u x mine. refl) (c.requires.unspent _) (c.requires.unspent _) c.stage.ensures.event c.stage.ensures.causes
