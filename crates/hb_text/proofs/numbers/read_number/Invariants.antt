use Rattle.std.proofs.Common.{◌≡◌, ◌+◌, ◌*◌, ◌-◌, ◌^◌, ◌<◌, drop, fold}
use Rattle.std.specs.List.{list_all}
use Rattle.hb_text.specs.Numbers.{value_of, is_digit}
use Rattle.hb_text.proofs.numbers.read_number.Given as goal

-- the digits that are left complete the number
abbrev pub invariant-loop-byte : goal.invariant-loop-byte
invariant-loop-byte l = record {
  value : fold (λ value b. 10 * value + (b - 48)) l.value (drop l.byte-index l.text) ≡ value_of l.text;
  fits : l.value < 2 ^ 64;
  digits : list_all is_digit l.text ≡ list_all is_digit (drop l.byte-index l.text);
}
