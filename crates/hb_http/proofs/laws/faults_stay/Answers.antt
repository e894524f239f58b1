use Rattle.hb_http.proofs.PartRequests.{IsBad-append}
use Rattle.hb_http.proofs.laws.faults_stay.Goals as goal

pub returns : goal.returns
returns c = IsBad-append
