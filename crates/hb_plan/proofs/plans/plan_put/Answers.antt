use Rattle.std.proofs.Common.{arith}
use Rattle.hb_plan.proofs.Findings.{own-cause}
use Rattle.hb_plan.proofs.plans.plan_put.Goals as goal

pub returns-in-Err-clause-cause : goal.returns-in-Err-clause-cause
returns-in-Err-clause-cause g c = own-cause c.args.stamp.number _ _ c.in-Err.refusal (omega (arith, c.parts.ensures.cause.later, c.blob.ensures.cause.later)) (c.in-Err.ensures.own c.args.stamp.number)
