use Rattle.std.proofs.Common.{◌∙◌, ℕ, sym, ap, subst, true≢false, Err, inr}
use Rattle.httparse.specs.Spans.{RequestExceeds}
use Rattle.hb_http.specs.declared.TheConstants.{MAX_HEADERS}
use Rattle.hb_http.proofs.HeaderLimit.{few_lines}
use Rattle.hb_http.proofs.Targets.{no_more}
use Rattle.hb_http.proofs.heads.front_of.Goals as goal

pub unreachable-requires : goal.unreachable-requires
unreachable-requires c =
    let over = c.in-Err.ensures.too_many (ap Err (c.is_room.ensures.0 c.if-is_room.true)) in
    few_lines MAX_HEADERS c.args.bytes.now c.in-None-end_past_limit.ensures.none (subst (λ (n : ℕ). RequestExceeds n c.args.bytes.now) c.requires over)

pub returns-in-None-clause-more : goal.returns-in-None-clause-more
returns-in-None-clause-more c = λ _. (
  rw c.in-Ok-Partial.field-0-is at c.in-Ok-Partial.ensures.partial,
  rw c.in-Ok-Partial.field-0-is at c.in-Ok-Partial.ensures.unfinished,
  few_lines MAX_HEADERS c.args.bytes.now c.in-None.ensures.none,
)

pub returns-then-ends_in_target-clause-more : goal.returns-then-ends_in_target-clause-more
returns-then-ends_in_target-clause-more c = λ _. (
  no_more c.args.bytes.now (c.in-Err.ensures.invalid (λ e. true≢false (sym (c.is_room.ensures.1 e) ∙ c.if-is_room.false))),
  inr (c.ends_in_target.ensures.0 c.if-ends_in_target.true),
  few_lines MAX_HEADERS c.args.bytes.now c.in-None-end_past_limit.ensures.none,
)

pub returns-else-ends_in_target-clause-malformed : goal.returns-else-ends_in_target-clause-malformed
returns-else-ends_in_target-clause-malformed c = λ _. (
  c.in-Err.ensures.invalid (λ e. true≢false (sym (c.is_room.ensures.1 e) ∙ c.if-is_room.false)),
  (λ e. true≢false (sym (c.ends_in_target.ensures.1 e) ∙ c.if-ends_in_target.false)),
  few_lines MAX_HEADERS c.args.bytes.now c.in-None-end_past_limit.ensures.none,
)
