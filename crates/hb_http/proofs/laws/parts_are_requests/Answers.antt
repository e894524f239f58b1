use Rattle.hb_http.proofs.PartRequests.{requests_before}
use Rattle.hb_http.proofs.laws.parts_are_requests.Goals as goal

pub returns : goal.returns
returns g c = requests_before g.R.Reading.closes
