use Rattle.hb_desk.proofs.Histories.{events-history}
use Rattle.hb_desk.proofs.laws.events_keep_a_history.Goals as goal

pub returns : goal.returns
returns c = events-history
