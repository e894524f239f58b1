use Rattle.hb_http.proofs.FramingLaws.{HasLength-unique, HasLength-not_chunked}
use Rattle.hb_http.proofs.laws.one_framing.Goals as goal

pub returns : goal.returns
returns c = record { length = HasLength-unique; chunked = HasLength-not_chunked }
