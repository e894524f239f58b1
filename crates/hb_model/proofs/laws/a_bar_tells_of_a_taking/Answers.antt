use Rattle.hb_model.proofs.BlobRows.{bar-tells}
use Rattle.hb_model.proofs.laws.a_bar_tells_of_a_taking.Goals as goal

pub returns : goal.returns
returns c = bar-tells
