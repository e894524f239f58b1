use Rattle.hb_history.proofs.PresentRows.{present-rows}
use Rattle.hb_history.proofs.presence.the_row_tells_what_is_present.Goals as goal

pub returns : goal.returns
returns c = present-rows
