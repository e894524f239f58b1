use Rattle.hb_http.proofs.RequestLaws.{RequestsOf-unique}
use Rattle.hb_http.proofs.laws.one_reading.Goals as goal

pub returns : goal.returns
returns g c = λ bytes requests others rest other. RequestsOf-unique g.R.Reading.ends g.R.Reading.closes bytes requests others rest other
