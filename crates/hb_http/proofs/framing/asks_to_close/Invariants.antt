use Rattle.std.proofs.Common.{◌≡◌, take, map}
use Rattle.httparse.specs.Spans.{header_bytes}
use Rattle.hb_http.specs.Framing.{says_close}
use Rattle.hb_http.proofs.framing.asks_to_close.Given as goal

abbrev pub invariant-headers : goal.invariant-headers
invariant-headers l = l.said ≡ says_close (map (header_bytes l.bytes) (take l.place l.headers))
