use Rattle.hb_history.proofs.NamedGrace.{named-grace}
use Rattle.hb_history.proofs.grace.what_is_named_has_its_grace.Goals as goal

pub returns : goal.returns
returns c = named-grace
