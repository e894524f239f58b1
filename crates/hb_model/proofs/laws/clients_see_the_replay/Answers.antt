use Rattle.hb_model.proofs.SeenRows.{seen-rows}
use Rattle.hb_model.proofs.laws.clients_see_the_replay.Goals as goal

pub returns : goal.returns
returns c = seen-rows
