use Rattle.hb_http.proofs.Said.{all_but_last, say_both}
use Rattle.hb_http.proofs.framing.with_length.Goals as goal

pub returns-in-Everywhere : goal.returns-in-Everywhere
returns-in-Everywhere c = λ values said.
    let before = rw c.in-Everywhere.is at said in say_both values _ _ _ _ before c.in-Some.ensures.some c.both_said.ensures.same c.both_said.ensures.other

pub returns-in-Unclear : goal.returns-in-Unclear
returns-in-Unclear c = λ values said n all.
    let before = rw c.in-Unclear.is at said in before n (all_but_last _ values c.args.value.now all)
