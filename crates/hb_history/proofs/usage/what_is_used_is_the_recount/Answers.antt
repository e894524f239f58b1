use Rattle.hb_history.proofs.UsedRows.{used-rows}
use Rattle.hb_history.proofs.usage.what_is_used_is_the_recount.Goals as goal

pub returns : goal.returns
returns c = used-rows
