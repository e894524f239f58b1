use Rattle.hb_history.proofs.IdleRows.{idle-rows}
use Rattle.hb_history.proofs.presence.what_a_project_has_is_idle.Goals as goal

pub returns : goal.returns
returns c = idle-rows
