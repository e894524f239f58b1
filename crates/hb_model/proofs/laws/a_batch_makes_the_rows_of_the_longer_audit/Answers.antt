use Rattle.hb_model.proofs.Batches.{batch-rows}
use Rattle.hb_model.proofs.laws.a_batch_makes_the_rows_of_the_longer_audit.Goals as goal

pub returns : goal.returns
returns c = batch-rows
