use Rattle.std.proofs.Common.{◌≡◌, ◌==◌, ◌+◌, drop}
use Rattle.std.specs.List.{position_or_len}
use Rattle.hb_manifest.proofs.media.parameters_start.Given as goal

abbrev pub invariant-loop-place : goal.invariant-loop-place
invariant-loop-place l = position_or_len (λ b. b == 59) l.text ≡ l.place + position_or_len (λ b. b == 59) (drop l.place l.text)
