use Rattle.hb_model.proofs.FitLaws.{fit-or-not}
use Rattle.hb_model.proofs.laws.rows_fit_or_not.Goals as goal

pub returns : goal.returns
returns c = fit-or-not
