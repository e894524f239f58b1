use Rattle.hb_store.specs.Calls.{Unchanged}
use Rattle.hb_world.proofs.Standing.{Stands-unchanged}
use Rattle.hb_world.proofs.StoreCalled.{called-done, called-refused}
use Rattle.hb_world.proofs.opens.fetch.Goals as goal

pub returns-in-Ok-clause-stands : goal.returns-in-Ok-clause-stands
returns-in-Ok-clause-stands g c = Stands-unchanged _ c.args.moment _ c.in-Ok.ensures.contents

pub returns-in-Err-clause-stands : goal.returns-in-Err-clause-stands
returns-in-Err-clause-stands g c = Stands-unchanged _ c.args.moment _ c.in-Err.ensures.contents

pub returns-in-Ok-clause-called : goal.returns-in-Ok-clause-called
returns-in-Ok-clause-called g c = called-done _ (λ answer. Unchanged) _ c.args.moment _ _ c.in-Ok.ensures.contents

pub returns-in-Err-clause-called : goal.returns-in-Err-clause-called
returns-in-Err-clause-called g c = called-refused _ (λ answer. Unchanged) _ c.args.moment _ _ _ c.store_refusal.ensures.failed c.store_refusal.ensures.fault c.in-Err.ensures.contents
