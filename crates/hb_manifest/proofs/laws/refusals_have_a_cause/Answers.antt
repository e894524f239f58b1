use Rattle.hb_manifest.proofs.Told.{told}
use Rattle.hb_manifest.proofs.laws.refusals_have_a_cause.Goals as goal

pub returns : goal.returns
returns c = told
