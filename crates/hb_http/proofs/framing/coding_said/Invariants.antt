use Rattle.std.proofs.Common.{take, map}
use Rattle.httparse.specs.Spans.{header_bytes}
use Rattle.hb_http.specs.BodyHeaders.{SayCoding}
use Rattle.hb_http.specs.Framing.{codings}
use Rattle.hb_http.proofs.framing.coding_said.Given as goal

abbrev pub invariant-headers : goal.invariant-headers
invariant-headers l = SayCoding (codings (map (header_bytes l.bytes) (take l.place l.headers))) l.said
