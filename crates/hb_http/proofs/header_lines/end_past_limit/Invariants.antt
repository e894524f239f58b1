use Rattle.std.proofs.Common.{◌≡◌, ◌<◌, ◌+◌, take, fold, false}
use Rattle.hb_http.specs.declared.TheConstants.{MAX_HEADERS}
use Rattle.hb_http.specs.WholeLines.{after_byte}
use Rattle.hb_http.proofs.header_lines.end_past_limit.Given as goal

abbrev pub invariant-bytes : goal.invariant-bytes
invariant-bytes l = ((l.started, l.count) ≡ fold after_byte (false, 0) (take l.place l.bytes)) × (l.count < MAX_HEADERS + 2)
