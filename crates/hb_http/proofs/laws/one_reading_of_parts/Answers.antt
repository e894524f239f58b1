use Rattle.std.proofs.Common.{[], refl}
use Rattle.hb_http.proofs.OneReading.{HasRead-unique, one_feeding}
use Rattle.hb_http.proofs.laws.one_reading_of_parts.Goals as goal

pub returns : goal.returns
returns c = record {
  start = record { whole = []; begun = []; text = refl; are_whole = refl; is_begun = refl };
  taken = HasRead-unique;
  fed = one_feeding;
}
