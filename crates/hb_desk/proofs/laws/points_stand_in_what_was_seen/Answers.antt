use Rattle.hb_desk.proofs.Chains.{chain-stands}
use Rattle.hb_desk.proofs.laws.points_stand_in_what_was_seen.Goals as goal

pub returns : goal.returns
returns c = chain-stands
