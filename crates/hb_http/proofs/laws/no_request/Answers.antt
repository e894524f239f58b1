use Rattle.hb_http.proofs.HeadLaws.{IsHead-not_many}
use Rattle.hb_http.proofs.RequestLaws.{HasNoHead-no_request, IsMalformed-no_request}
use Rattle.hb_http.proofs.laws.no_request.Goals as goal

pub returns : goal.returns
returns g c = record {
  none = HasNoHead-no_request g.R.Reading.ends;
  malformed = IsMalformed-no_request g.R.Reading.ends;
  many = λ bytes many. HasNoHead-no_request g.R.Reading.ends bytes (λ h rest is. IsHead-not_many bytes h rest is many);
}
