use Rattle.std.proofs.Common.{◌∙◌, ap, sym, Some}
use Rattle.httparse.specs.declared.spans.HeaderSpan.{HeaderSpan}
use Rattle.hb_http.proofs.PartLemmas.{first_found}
use Rattle.hb_http.proofs.told.first_value.Goals as goal

pub returns-then-is_named : goal.returns-then-is_named
returns-then-is_named c =
    let empty : HeaderSpan = record { name = record { start = 0; end = 0 }; value = record { start = 0; end = 0 } } in
    ap Some (c.in_ok-new.ensures ∙ c.of.ensures)
    ∙ sym (first_found c.args.name.now c.args.bytes.now c.args.headers.now c.headers.place empty c.headers-test.true c.headers.invariant (sym c.is_named.ensures ∙ c.if-is_named.true))
