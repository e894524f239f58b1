use Rattle.hb_history.proofs.IdleRows.{idle-touch}
use Rattle.hb_history.proofs.presence.a_touch_meets_an_idle_row.Goals as goal

pub returns : goal.returns
returns c = idle-touch
