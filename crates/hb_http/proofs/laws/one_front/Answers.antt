use Rattle.hb_http.proofs.HeadLaws.{IsHead-not_many, IsHead-not_never}
use Rattle.hb_http.proofs.laws.one_front.Goals as goal

pub returns : goal.returns
returns c = record { malformed = IsHead-not_never; many = IsHead-not_many; long = λ bytes h rest is long. long.1 h rest is }
