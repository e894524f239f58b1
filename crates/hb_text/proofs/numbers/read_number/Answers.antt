use Rattle.std.proofs.Common.{◌≡◌, ◌+◌, ◌*◌, ◌-◌, ◌<◌, ◌≤◌, ℕ, List, length, drop, fold, get_or, sym, ◌∙◌, arith}
use Rattle.std.specs.List.{list_all}
use Rattle.std.proofs.lemmas.Bool.Decides.{nat_tests}
use Rattle.std.proofs.lemmas.List.{at_drop_more, at_drop_all}
use Rattle.hb_text.specs.Numbers.{value_of, is_digit}
use Rattle.hb_text.proofs.Digits.{grows}
use Rattle.hb_text.proofs.numbers.read_number.Goals as goal
use Rattle.hb_text.proofs.numbers.read_number.Goals.{else-text-gt1-via-then-text-gt1+else-text-eq48, else-text-gt1-via-else-text-gt1}

-- the number is no less than what is read of it
reached : (v : ℕ) (s : List ℕ) (i : ℕ) → i < length s → fold (λ value b. 10 * value + (b - 48)) v (drop i s) ≡ value_of s → 10 * v + (get_or s i 0 - 48) ≤ value_of s
reached v s i h e = omega (arith, e, at_drop_more (fold (λ value b. 10 * value + (b - 48)) v) s i 0 h, grows (10 * v + (get_or s i 0 - 48)) (drop (i + 1) s))

pub returns-in_default-clause-none : goal.returns-in_default-clause-none
returns-in_default-clause-none c = λ n is. omega (arith, is.value, is.fits, c.in_default.ensures, reached c.loop-byte.value c.args.text.now c.loop-byte.byte-index (omega arith) c.loop-byte.invariant.value)

pub returns-in_default-checked_add-clause-none : goal.returns-in_default-checked_add-clause-none
returns-in_default-checked_add-clause-none c = λ n is. omega (arith, is.value, is.fits, c.in-Some.ensures, c.in_default-checked_add.ensures, c.from.ensures, reached c.loop-byte.value c.args.text.now c.loop-byte.byte-index (omega arith) c.loop-byte.invariant.value)

pub returns-clause-some : goal.returns-clause-some
returns-clause-some c = record {
  some_digit = let said = c.is_empty.ensures in let test = c.if-is_empty.false in grind (arith, nat_tests);
  digits = c.loop-byte.invariant.digits ∙ at_drop_all (list_all is_digit) c.args.text.now c.loop-byte.byte-index (omega arith);
  no_zero = λ long. elim c.else-text-gt1.branch [ else-text-gt1-via-then-text-gt1+else-text-eq48 w ↦ w.if-text-eq48.false | else-text-gt1-via-else-text-gt1 w ↦ absurd (omega (arith, w.if-text-gt1.false)) ];
  value = sym c.loop-byte.invariant.value ∙ at_drop_all (fold (λ value b. 10 * value + (b - 48)) c.loop-byte.value) c.args.text.now c.loop-byte.byte-index (omega arith);
  fits = c.loop-byte.invariant.fits;
}
