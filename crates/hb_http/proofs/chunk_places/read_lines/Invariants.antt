use Rattle.std.proofs.Common.{◌≡◌, take}
use Rattle.hb_http.specs.ChunkPlaces.{AreLines, IsPlace, place_after}
use Rattle.hb_http.proofs.chunk_places.read_lines.Given as goal

abbrev pub invariant-bytes : goal.invariant-bytes
invariant-bytes l = (l.now ≡ place_after l.fn.place (take l.count l.bytes)) × AreLines l.fn.place (take l.count l.bytes) × IsPlace l.now
