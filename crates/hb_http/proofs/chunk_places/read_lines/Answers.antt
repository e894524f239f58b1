use Rattle.std.proofs.Common.{◌∙◌, sym}
use Rattle.std.proofs.lemmas.Bool.{false≢true}
use Rattle.hb_http.proofs.ChunkRuns.{one_more}
use Rattle.hb_http.proofs.chunk_places.read_lines.Goals as goal

pub bytes-preserved : goal.bytes-preserved
bytes-preserved c =
    let more = one_more c.args.place c.bytes.now _ c.args.bytes.now c.bytes.count c.bytes-test.true c.bytes.invariant.0 c.bytes.invariant.1
    (λ stop. false≢true (sym c.if-is_stop.false ∙ c.is_stop.ensures.1 stop)) c.chunk_step-now.ensures.value in
    (more.0, more.1, c.chunk_step-now.ensures.place)
