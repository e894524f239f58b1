use Rattle.hb_store.specs.Calls.{Placing}
use Rattle.hb_world.proofs.Standing.{Stands-given, held-given, placed-ended}
use Rattle.hb_world.proofs.StoreCalled.{called-done, called-refused}
use Rattle.hb_world.proofs.staging.place_noted.Goals as goal

pub returns-in-Ok-clause-ended : goal.returns-in-Ok-clause-ended
returns-in-Ok-clause-ended g c = placed-ended _ c.args.moment c.args.upload _ c.args.digest.now _ _ c.in-Ok.ensures.contents

pub returns-in-Ok-clause-held : goal.returns-in-Ok-clause-held
returns-in-Ok-clause-held g c = held-given _ _ c.args.moment c.args.upload _ c.args.digest.now _ _ c.requires.bytes c.in-Ok.ensures.contents

pub returns-in-Ok-clause-stands : goal.returns-in-Ok-clause-stands
returns-in-Ok-clause-stands g c = Stands-given _ _ c.args.moment c.args.upload _ c.args.digest.now _ _ (λ bytes h. h.0) c.requires.bytes c.in-Ok.ensures.contents

pub returns-in-Err-clause-stands : goal.returns-in-Err-clause-stands
returns-in-Err-clause-stands g c = Stands-given _ _ c.args.moment c.args.upload _ c.args.digest.now _ _ (λ bytes h. h.0) c.requires.bytes c.in-Err.ensures.contents

pub returns-in-Ok-clause-called : goal.returns-in-Ok-clause-called
returns-in-Ok-clause-called g c = called-done _ (Placing c.args.upload _ c.args.digest.now) _ c.args.moment _ _ c.in-Ok.ensures.contents

pub returns-in-Err-clause-called : goal.returns-in-Err-clause-called
returns-in-Err-clause-called g c = called-refused _ (Placing c.args.upload _ c.args.digest.now) _ c.args.moment _ _ _ c.store_refusal.ensures.failed c.store_refusal.ensures.fault c.in-Err.ensures.contents
