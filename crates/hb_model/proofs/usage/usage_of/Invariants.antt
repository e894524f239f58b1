use Rattle.std.proofs.Common.{◌≡◌, ◌*◌, ◌^◌, ◌≤◌, take, map, sum_by}
use Rattle.std.specs.List.{filter}
use Rattle.hb_model.specs.Words.{same_text}
use Rattle.hb_model.specs.Seen.{seen_pair}
use Rattle.hb_model.proofs.usage.usage_of.Given as goal

-- the sum over the pairs so far
abbrev pub invariant-loop-pair : goal.invariant-loop-pair
invariant-loop-pair l = record {
  counted : l.used ≡ sum_by (λ x. x.size) (filter (λ x. same_text l.project x.project) (map seen_pair (take l.pair-index l.pair-items)));
  fits : l.used ≤ 2 ^ 64 * l.pair-index;
  items : l.pair-items ≡ l.rows.pairs;
}
