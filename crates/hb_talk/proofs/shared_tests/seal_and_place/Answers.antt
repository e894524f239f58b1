use Rattle.std.proofs.Common.{true, refl}
use Rattle.hb_desk.specs.Calls.{StageDropped, StagePlaced}
use Rattle.hb_desk.proofs.Interleave.{between-more, one-between}
use Rattle.hb_talk.proofs.Sharing.{others-sealed, sealing-between}
use Rattle.hb_talk.proofs.shared_tests.seal_and_place.Goals as goal

pub returns-in-Ok : goal.returns-in-Ok
returns-in-Ok g c = λ own none. between-more own _ _ _
    (sealing-between own _ _ c.args.now c.args.ask.now _ _ c.requires.seal none (c.requires.unspent _) (c.requires.unspent _) c.ask.ensures.event c.ask.ensures.causes)
    (one-between own _ _ c.args.now (StagePlaced c.args.upload c.args.digest.now) _ (λ u x mine. others-sealed c.args.upload own none u x mine) (c.requires.unspent _) (c.requires.unspent _) c.place.ensures.event c.place.ensures.causes)

pub returns : goal.returns
returns g c = λ own none. between-more own _ _ _
    (sealing-between own _ _ c.args.now c.args.ask.now _ _ c.requires.seal none (c.requires.unspent _) (c.requires.unspent _) c.ask.ensures.event c.ask.ensures.causes)
    (one-between own _ _ c.args.now (StageDropped c.args.upload true) _ (λ u x mine. refl) (c.requires.unspent _) (c.requires.unspent _) c.drop_stage-dropped.ensures.event c.drop_stage-dropped.ensures.causes)
