use Rattle.std.proofs.Common.{rules}
use Rattle.hb_store.specs.Calls.{Dropping}
use Rattle.hb_world.proofs.Standing.{Stands-dropping, dropped-ended}
use Rattle.hb_world.proofs.StoreCalled.{called-done, called-refused}
use Rattle.hb_world.proofs.staging.end_stage.Goals as goal

pub returns-in-Ok-clause-ended : goal.returns-in-Ok-clause-ended
returns-in-Ok-clause-ended g c = dropped-ended _ c.args.moment c.args.upload _ _ c.in-Ok.ensures.contents

pub returns-in-Ok-clause-stands : goal.returns-in-Ok-clause-stands
returns-in-Ok-clause-stands g c = let h = c.in-Ok.ensures.contents in search (rules, Stands-dropping)

pub returns-in-Err-clause-stands : goal.returns-in-Err-clause-stands
returns-in-Err-clause-stands g c = let h = c.in-Err.ensures.contents in search (rules, Stands-dropping)

pub returns-in-Ok-clause-called : goal.returns-in-Ok-clause-called
returns-in-Ok-clause-called g c = called-done _ (Dropping c.args.upload) _ c.args.moment _ _ c.in-Ok.ensures.contents

pub returns-in-Err-clause-called : goal.returns-in-Err-clause-called
returns-in-Err-clause-called g c = called-refused _ (Dropping c.args.upload) _ c.args.moment _ _ _ c.store_refusal.ensures.failed c.store_refusal.ensures.fault c.in-Err.ensures.contents
