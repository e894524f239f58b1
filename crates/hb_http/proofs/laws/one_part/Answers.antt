use Rattle.hb_http.proofs.OnePart.{Gives-unique}
use Rattle.hb_http.proofs.laws.one_part.Goals as goal

pub returns : goal.returns
returns c = Gives-unique
