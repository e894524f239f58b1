use Rattle.std.proofs.Common.{◌≡◌, [], map, take}
use Rattle.httparse.specs.Spans.{header_bytes}
use Rattle.hb_http.specs.Headers.{values_of}
use Rattle.hb_http.proofs.told.first_value.Given as goal

abbrev pub invariant-headers : goal.invariant-headers
invariant-headers l = values_of l.name (map (header_bytes l.bytes) (take l.place l.headers)) ≡ []
