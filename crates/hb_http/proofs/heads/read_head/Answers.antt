use Rattle.std.proofs.Common.{refl, sym, subst}
use Rattle.httparse.specs.Grammar.{NeverHasRequest, EndsInTarget}
use Rattle.httparse.specs.Spans.{RequestExceeds}
use Rattle.hb_http.specs.declared.TheConstants.{MAX_HEADERS}
use Rattle.hb_http.proofs.Windows.{head_of_window, lie_within, may_begin, no_head, reads_in_window}
use Rattle.hb_http.proofs.heads.read_head.Goals as goal

pub returns-then-bytes-lt-MAX_HEAD-clause-found : goal.returns-then-bytes-lt-MAX_HEAD-clause-found
returns-then-bytes-lt-MAX_HEAD-clause-found c = λ h rest is. absurd (no_head c.args.bytes.now _ c.window_of.ensures (c.in-More.ensures.more refl).0 h rest is)

pub returns-then-bytes-lt-MAX_HEAD-clause-more : goal.returns-then-bytes-lt-MAX_HEAD-clause-more
returns-then-bytes-lt-MAX_HEAD-clause-more c = λ more.
    let said = c.in-More.ensures.more more in (
      no_head c.args.bytes.now _ c.window_of.ensures said.0,
      c.if-bytes-lt-MAX_HEAD.true,
      may_begin c.args.bytes.now _ c.window_of.ensures said.1,
      λ many. said.2 (subst (RequestExceeds MAX_HEADERS) (sym c.window_of.ensures) many),
    )

pub returns-else-bytes-lt-MAX_HEAD-clause-found : goal.returns-else-bytes-lt-MAX_HEAD-clause-found
returns-else-bytes-lt-MAX_HEAD-clause-found c = λ h rest is. absurd (no_head c.args.bytes.now _ c.window_of.ensures (c.in-More.ensures.more refl).0 h rest is)

pub returns-else-bytes-lt-MAX_HEAD-clause-long : goal.returns-else-bytes-lt-MAX_HEAD-clause-long
returns-else-bytes-lt-MAX_HEAD-clause-long c = λ _.
    let said = c.in-More.ensures.more refl in (
      (c.if-bytes-lt-MAX_HEAD.false, no_head c.args.bytes.now _ c.window_of.ensures said.0),
      may_begin c.args.bytes.now _ c.window_of.ensures said.1,
      λ many. said.2 (subst (RequestExceeds MAX_HEADERS) (sym c.window_of.ensures) many),
    )

pub returns-in_default : goal.returns-in_default
returns-in_default c = record {
  head = λ r e. head_of_window c.args.bytes.now _ _ r c.window_of.ensures (c.front_of.ensures.head r e);
  within = λ r e. lie_within c.args.bytes.now _ r (head_of_window c.args.bytes.now _ _ r c.window_of.ensures (c.front_of.ensures.head r e)).1.within;
  found = λ h rest is. c.front_of.ensures.found h _ (reads_in_window c.args.bytes.now _ h rest c.window_of.ensures is) is.few;
  more = λ e. absurd (c.in_default.not-More e);
  malformed = λ e.
      let said = c.front_of.ensures.malformed e in (
        (subst NeverHasRequest c.window_of.ensures said.0, λ t. said.1 (subst EndsInTarget (sym c.window_of.ensures) t)),
        λ many. said.2 (subst (RequestExceeds MAX_HEADERS) (sym c.window_of.ensures) many),
      );
  many = λ e. subst (RequestExceeds MAX_HEADERS) c.window_of.ensures (c.front_of.ensures.many e);
  long = λ e. absurd (c.front_of.ensures.any_length e);
}
