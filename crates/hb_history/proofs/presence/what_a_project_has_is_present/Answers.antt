use Rattle.hb_history.proofs.Settled.{settled}
use Rattle.hb_history.proofs.presence.what_a_project_has_is_present.Goals as goal

pub returns : goal.returns
returns c = λ j legal p d there. (settled j legal p d there).here
