use Rattle.std.proofs.Common.{Some, Err, refl, ap}
use Rattle.hb_ops.proofs.Leads.{read-fault}
use Rattle.hb_ops.proofs.gets.read.Goals as goal

pub returns-in-Err-clause-gives : goal.returns-in-Err-clause-gives
returns-in-Err-clause-gives g c = (Some c.from.result, read-fault g.R.Reader.faults c.in-Err.fault c.from.result c.from.ensures (λ failed. c.in-Err.ensures.failed (ap Err failed)), refl)
