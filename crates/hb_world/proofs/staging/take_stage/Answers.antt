use Rattle.std.proofs.Common.{refl, rules}
use Rattle.std.proofs.lemmas.Result.{err_from_is_err_and}
use Rattle.hb_store.specs.Calls.{Staging}
use Rattle.hb_world.proofs.Standing.{Stands-staging}
use Rattle.hb_world.proofs.StoreCalled.{called-done, called-refused, staging-not}
use Rattle.hb_world.proofs.staging.take_stage.Goals as goal

pub returns-in-Ok-clause-stands : goal.returns-in-Ok-clause-stands
returns-in-Ok-clause-stands g c = let h = c.in-Ok.ensures.contents in search (rules, Stands-staging)

pub returns-in-Err-clause-stands : goal.returns-in-Err-clause-stands
returns-in-Err-clause-stands g c = let h = c.in-Err.ensures.contents in search (rules, Stands-staging)

pub returns-in-Ok-clause-called : goal.returns-in-Ok-clause-called
returns-in-Ok-clause-called g c = (c.in_ok-offset.offset, c.in_ok-offset.ensures.offset, refl, called-done _ (Staging c.args.upload _) _ c.args.moment _ _ c.in-Ok.ensures.contents)

pub returns-in-Err-clause-called : goal.returns-in-Err-clause-called
returns-in-Err-clause-called g c = (c.in_ok-offset.offset, c.in_ok-offset.ensures.offset, tt, called-refused _ (Staging c.args.upload _) _ c.args.moment _ _ _ c.store_refusal.ensures.failed c.store_refusal.ensures.fault c.in-Err.ensures.contents)

pub returns-in_err-offset-clause-called : goal.returns-in_err-offset-clause-called
returns-in_err-offset-clause-called g c =
    let left = err_from_is_err_and c.from_residual.result c.from_residual.ensures.1 in
    staging-not _ (λ s. s.offset) (g.K.Keeper.rows c.args.keeper.now) c.args.upload _ c.args.moment c.from_residual.result left.0 left.1 (λ is. c.in_err-offset.ensures.storage (cc (is, left.2)))
