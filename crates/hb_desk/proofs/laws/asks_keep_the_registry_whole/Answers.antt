use Rattle.hb_desk.proofs.AskedWhole.{asked-whole}
use Rattle.hb_desk.proofs.laws.asks_keep_the_registry_whole.Goals as goal

pub returns : goal.returns
returns c = asked-whole
