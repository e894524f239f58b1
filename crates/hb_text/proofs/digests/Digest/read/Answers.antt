use Rattle.std.proofs.Common.{◌∙◌, ap, sym, length, take, drop, ◌-◌, arith}
use Rattle.hex.specs.Hex.{decode_sized}
use Rattle.hb_text.proofs.DigestTexts.{length-text, decoded, when-decoded, no-error, not-told-apart}
use Rattle.hb_text.specs.Digests.{digest_text}
use Rattle.hb_text.proofs.digests.Digest.read.Goals as goal

pub returns-then-text-ne71-clause-none : goal.returns-then-text-ne71-clause-none
returns-then-text-ne71-clause-none c = λ d h e. omega (arith, c.if-text-ne71.true, ap length e, length-text d h)

pub returns-then-is_err-clause-none : goal.returns-then-is_err-clause-none
returns-then-is_err-clause-none c = λ d h e. let f = decoded c.args.text.now d h e in let v = when-decoded c.decode_to_slice.result c.decode_to_slice.new.out (decode_sized (take (length c.args.text.now - 7) (drop 7 c.args.text.now)) 32) d.0 f c.decode_to_slice.ensures.value in no-error c.is_err.result c.decode_to_slice.result c.is_err.ensures.value c.if-is_err.true v.0

pub returns-else-eq-clause-none : goal.returns-else-eq-clause-none
returns-else-eq-clause-none c = λ d h e. let f = decoded c.args.text.now d h e in let v = when-decoded c.decode_to_slice.result c.decode_to_slice.new.out (decode_sized (take (length c.args.text.now - 7) (drop 7 c.args.text.now)) 32) d.0 f c.decode_to_slice.ensures.value in not-told-apart c.eq.result c.as_slice.result.now c.args.text.now c.eq.ensures c.if-eq.false (c.as_slice.ensures ∙ c.write-written.ensures ∙ ap (λ bytes. digest_text (record { 0 = bytes })) v.1 ∙ sym e)
