use Rattle.std.proofs.Common.{take, map}
use Rattle.httparse.specs.Spans.{header_bytes}
use Rattle.hb_http.specs.BodyHeaders.{SayLength}
use Rattle.hb_http.specs.Framing.{lengths}
use Rattle.hb_http.proofs.framing.length_said.Given as goal

abbrev pub invariant-headers : goal.invariant-headers
invariant-headers l = SayLength (lengths (map (header_bytes l.bytes) (take l.place l.headers))) l.said
