use Rattle.std.proofs.Common.{◌≡◌, ◌+◌, eqb, nat_eq, drop}
use Rattle.std.specs.List.{list_any, position_or_len}
use Rattle.hb_text.proofs.names.first_slash.Given as goal

-- no slash stands before the place
abbrev pub invariant-loop-place : goal.invariant-loop-place
invariant-loop-place l = record {
  further : l.place + position_or_len (λ b. eqb b 47) (drop l.place l.text) ≡ position_or_len (λ b. eqb b 47) l.text;
  same : list_any (nat_eq 47) (drop l.place l.text) ≡ list_any (nat_eq 47) l.text;
}
