use Rattle.hb_model.proofs.Batches.{history-numbered}
use Rattle.hb_model.proofs.laws.histories_are_numbered.Goals as goal

pub returns : goal.returns
returns c = history-numbered
