use Rattle.hb_history.proofs.Additions.{added-within}
use Rattle.hb_history.proofs.usage.additions_stay_within_the_limit.Goals as goal

pub returns : goal.returns
returns c = added-within
