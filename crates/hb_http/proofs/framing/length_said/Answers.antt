use Rattle.std.proofs.Common.{sym}
use Rattle.std.specs.Prelude.{codes}
use Rattle.httparse.specs.declared.spans.HeaderSpan.{HeaderSpan}
use Rattle.hb_http.proofs.HeaderValues.{values_named, values_other}
use Rattle.hb_http.proofs.framing.length_said.Goals as goal
use Rattle.hb_http.proofs.framing.length_said.Goals.{then-is_named, else-is_named}

pub headers-preserved : goal.headers-preserved
headers-preserved c =
    let empty : HeaderSpan = record { name = record { start = 0; end = 0 }; value = record { start = 0; end = 0 } } in
    elim c.if-is_named.branch [
      | then-is_named w ↦
          let more = rw w.of.ensures at (w.with_length-said.ensures _ c.headers.invariant) in
          rw (w.said-is, values_named (codes "content-length") c.args.bytes.now c.args.headers.now c.headers.place empty c.headers-test.true (sym w.if-is_named.ensures)) more
      | else-is_named w ↦
          rw (w.said-is, values_other (codes "content-length") c.args.bytes.now c.args.headers.now c.headers.place empty c.headers-test.true (sym w.if-is_named.ensures)) c.headers.invariant
    ]
