use Rattle.std.proofs.Common.{◌≡◌, ◌≤◌, ◌-◌, take, length}
use Rattle.hb_model.proofs.comparing.first_difference.Given as goal

-- up to here the two are the same
abbrev pub invariant-loop-place : goal.invariant-loop-place
invariant-loop-place g l = record {
  same : take l.place l.rows ≡ take l.place l.others;
  within : l.place ≤ length l.rows;
  within_others : l.place ≤ length l.others;
}

abbrev pub decreases-loop-place : goal.decreases-loop-place
decreases-loop-place g l = length l.rows - l.place
