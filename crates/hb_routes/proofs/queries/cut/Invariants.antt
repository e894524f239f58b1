use Rattle.std.proofs.Common.{◌≡◌, ◌+◌, eqb, drop}
use Rattle.std.specs.List.{position_or_len}
use Rattle.hb_routes.proofs.queries.cut.Given as goal

-- no such byte stands before the place
abbrev pub invariant-loop-place : goal.invariant-loop-place
invariant-loop-place l = l.place + position_or_len (λ b. eqb b l.at) (drop l.place l.text) ≡ position_or_len (λ b. eqb b l.at) l.text
