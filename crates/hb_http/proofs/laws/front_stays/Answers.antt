use Rattle.hb_http.proofs.HeadLaws.{HasTooManyHeaders-append, IsHead-append, IsMalformed-append, IsHeadTooLong-append, HasTooManyHeaders-not_append, NeverHasHead-append, window-append}
use Rattle.hb_http.proofs.laws.front_stays.Goals as goal

pub returns : goal.returns
returns c = record {
  head = IsHead-append;
  malformed = NeverHasHead-append;
  unframed = IsMalformed-append;
  many = HasTooManyHeaders-append;
  not_many = HasTooManyHeaders-not_append;
  long = IsHeadTooLong-append;
  window = window-append;
}
