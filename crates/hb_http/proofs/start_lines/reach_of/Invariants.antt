use Rattle.std.proofs.Common.{◌≡◌, take, fold}
use Rattle.hb_http.specs.declared.start_lines.Reach.TheVariants.{EmptyLines}
use Rattle.hb_http.specs.Reaches.{reach_after}
use Rattle.hb_http.proofs.start_lines.reach_of.Given as goal

abbrev pub invariant-bytes : goal.invariant-bytes
invariant-bytes l = l.reach ≡ fold reach_after EmptyLines (take l.place l.bytes)
