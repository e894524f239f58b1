use Rattle.std.proofs.Common.{◌≡◌, ◌≤◌, ◌+◌, ◌∙◌, ℕ, List, ◌++◌, length, take, drop, map, sym, ap, subst, arith, take-append-drop, length-take, true≢false, Err}
use Rattle.std.proofs.Math.ListN.{length-map}
use Rattle.httparse.specs.Grammar.{ReadsRequest, NeverHasRequest}
use Rattle.httparse.specs.Spans.{RequestExceeds, IsRequestOf, name_and_value}
use Rattle.httparse.proofs.GrammarLemmas.{ReadsRequest-append}
use Rattle.hb_http.specs.declared.TheConstants.{MAX_HEADERS}
use Rattle.hb_http.proofs.HeaderLimit.{may_exceeds, never_exceeds, exceeds_more}
use Rattle.hb_http.proofs.LineCounts.{never_more}
use Rattle.hb_http.proofs.Targets.{past_target}
use Rattle.hb_http.proofs.heads.front_past_limit.Goals as goal

fields_fit : {A B : Type 0} (f : A → List ℕ × List ℕ) (g : B → List ℕ × List ℕ) (xs : List A) (ys : List B) (n : ℕ) → map f (take n xs) ≡ map g ys → length ys ≤ length xs
fields_fit f g xs ys n e = let sizes : length (take n xs) ≡ length ys = sym (length-map (take n xs) f) ∙ (ap length e ∙ length-map ys g) in omega (arith, length-take n xs)

pub unreachable-requires : goal.unreachable-requires
unreachable-requires c =
    let k : IsRequestOf (take c.args.end c.args.bytes.now) c.parse_request.new.headers c.in-Ok-Complete.field-0-0 = rw c.in-Ok-Complete.field-0-is at c.in-Ok-Complete.ensures.complete in
    let h = k.0 in
    let few : length h.fields ≤ MAX_HEADERS = let fit = fields_fit _ name_and_value c.parse_request.new.headers h.fields _ k.1.fields in let room = c.requires.room in let kept = c.parse_request.auto.headers in omega arith in
    let after : List ℕ = drop c.in-Ok-Complete.field-0-0.len (take c.args.end c.args.bytes.now) in
    let longer = ReadsRequest-append (take c.args.end c.args.bytes.now) h after (drop c.args.end c.args.bytes.now) k.1.reads in
    c.requires.none h _ (subst (λ (b : List ℕ). ReadsRequest b h (after ++ drop c.args.end c.args.bytes.now)) (take-append-drop c.args.end c.args.bytes.now) longer) few

pub returns-in-Ok-Partial-clause-many : goal.returns-in-Ok-Partial-clause-many
returns-in-Ok-Partial-clause-many c = λ _.
    let p = rw c.in-Ok-Partial.field-0-is at c.in-Ok-Partial.ensures.partial in
    let q = rw c.in-Ok-Partial.field-0-is at c.in-Ok-Partial.ensures.unfinished in
    exceeds_more MAX_HEADERS (take c.args.end c.args.bytes.now) (drop c.args.end c.args.bytes.now) c.args.bytes.now (take-append-drop c.args.end c.args.bytes.now)
    (may_exceeds MAX_HEADERS (take c.args.end c.args.bytes.now) c.requires.lines c.requires.ends p q)

pub returns-then-is_room-clause-many : goal.returns-then-is_room-clause-many
returns-then-is_room-clause-many c = λ _.
    let x = c.in-Err.ensures.too_many (ap Err (c.is_room.ensures.0 c.if-is_room.true)) in
    exceeds_more MAX_HEADERS (take c.args.end c.args.bytes.now) (drop c.args.end c.args.bytes.now) c.args.bytes.now (take-append-drop c.args.end c.args.bytes.now) (x.0, x.1, x.2, x.3, x.4, (let over = x.5 in let room = c.requires.room in omega arith))

pub returns-else-is_room-clause-malformed : goal.returns-else-is_room-clause-malformed
returns-else-is_room-clause-malformed c = λ _.
    let seen : List ℕ = take c.args.end c.args.bytes.now in
    let rest : List ℕ = drop c.args.end c.args.bytes.now in
    let parts = take-append-drop c.args.end c.args.bytes.now in
    let never : NeverHasRequest seen = c.in-Err.ensures.invalid (λ e. true≢false (sym (c.is_room.ensures.1 e) ∙ c.if-is_room.false)) in (
      never_more seen rest c.args.bytes.now parts never,
      past_target (MAX_HEADERS + 2) seen rest c.args.bytes.now parts c.requires.lines (omega arith),
      λ x. never_exceeds MAX_HEADERS seen rest c.requires.lines c.requires.ends never (subst (RequestExceeds MAX_HEADERS) (sym parts) x),
    )
