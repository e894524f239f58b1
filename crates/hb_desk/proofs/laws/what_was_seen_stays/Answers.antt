use Rattle.hb_desk.proofs.Histories.{events-go-on}
use Rattle.hb_desk.proofs.laws.what_was_seen_stays.Goals as goal

pub returns : goal.returns
returns c = events-go-on
