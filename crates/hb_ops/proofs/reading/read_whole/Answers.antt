use Rattle.std.proofs.Common.{◌≡◌, ◌++◌, [], Err, sym, ap, ◌∙◌, arith, append-nil}
use Rattle.hb_store.specs.declared.store.StoreFault.TheVariants.{Failed}
use Rattle.std.proofs.lemmas.List.{nil_from_length}
use Rattle.hb_ops.proofs.reading.read_whole.Goals as goal

pub loop-reader-preserved : goal.loop-reader-preserved
loop-reader-preserved g c = record {
  piece = c.loop-reader.invariant.piece;
  all = λ bytes is long.
      let before = c.loop-reader.invariant.all bytes is long in
      let after = c.in-Ok-read_some.ensures.left before.0 before.1 before.2 in
      (after.0, after.1, after.2, before.3 ∙ after.3);
}

pub returns-in-Err-clause-failed : goal.returns-in-Err-clause-failed
returns-in-Err-clause-failed g c = λ failed. let same : c.in-Err.fault ≡ Failed = cc in c.in-Err.ensures.failed (ap Err same)

pub returns-clause-all : goal.returns-clause-all
returns-clause-all g c = λ bytes is long.
    let all = c.loop-reader.invariant.all bytes is long in
    let none : all.0 ≡ [] = nil_from_length all.0 (let test = c.loop-reader-test.false in let left = c.left.ensures in let rest = all.2 in omega arith) in
    c.of.ensures ∙ sym (all.3 ∙ ap (λ rest. c.loop-reader.text.items ++ rest) none ∙ append-nil c.loop-reader.text.items)
