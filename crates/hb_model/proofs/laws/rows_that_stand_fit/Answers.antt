use Rattle.hb_model.proofs.FitLaws.{stands-fits}
use Rattle.hb_model.proofs.laws.rows_that_stand_fit.Goals as goal

pub returns : goal.returns
returns c = stands-fits
