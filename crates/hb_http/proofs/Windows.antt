-- What is known of the first bytes of a text, said of the text.
use Rattle.std.proofs.Common.{◌≡◌, ◌≤◌, ◌+◌, ◌-◌, ◌∙◌, ⊎_elim, ℕ, List, [], ◌∷◌, ◌++◌, length, take, drop, map, refl, sym, ap, subst, arith, All, length-take, length-append, take-append-drop}
use Rattle.std.proofs.lemmas.List.{drop-take, take-take, drop_at, length-map}
use Rattle.std.proofs.lemmas.List.Elements.{All-head, All-tail, All-weaker}
use Rattle.std.proofs.Math.Seq.{take-append-add}
use Rattle.httparse.specs.declared.spans.Span.{Span}
use Rattle.httparse.specs.declared.spans.HeaderSpan.{HeaderSpan}
use Rattle.httparse.specs.declared.spans.RequestSpans.{RequestSpans}
use Rattle.httparse.specs.Grammar.{RequestHead, ReadsRequest, HasNoRequest, MayBecomeRequest, print_request}
use Rattle.httparse.specs.Spans.{span_bytes, IsWithin, IsHeaderWithin, header_bytes, IsRequestAt, IsRequestOf, IsRequestWithin, name_and_value}
use Rattle.httparse.proofs.GrammarLemmas.{ReadsRequest-append}
use Rattle.hb_http.specs.declared.TheConstants.{MAX_HEAD, MAX_HEADERS}
use Rattle.hb_http.specs.Heads.{IsHead, IsHeadAt, AreWithin, HasNoHead, NeverHasHead, window}

-- a part of the first n bytes is that part of them all
part_of_front : (n : ℕ) (b : List ℕ) (from to : ℕ) → from ≤ to → to ≤ n → take (to - from) (drop from (take n b)) ≡ take (to - from) (drop from b)
part_of_front n b from to ordered within =
    let cut : n ≡ from + (n - from) = omega arith in
    let fits : to - from ≤ n - from = omega arith in
    ap (λ (m : ℕ). take (to - from) (drop from (take m b))) cut
    ∙ (ap (take (to - from)) (drop-take from (n - from) b) ∙ take-take (to - from) (n - from) (drop from b) fits)

-- a span within the first n bytes covers the same bytes of them all
pub span_of_front : (n : ℕ) (b : List ℕ) (s : Span) → IsWithin n s → span_bytes (take n b) s ≡ span_bytes b s
span_of_front n b s within = part_of_front n b s.start s.end within.0 within.1

-- and so do the spans of headers
pub headers_of_front : (n : ℕ) (b : List ℕ) (hs : List HeaderSpan) → All (IsHeaderWithin n) hs → map (header_bytes (take n b)) hs ≡ map (header_bytes b) hs
headers_of_front n b [] within = refl
headers_of_front n b (h ∷ hs) within =
    let here : IsHeaderWithin n h = All-head (IsHeaderWithin n) h hs within in
    let name = span_of_front n b h.name here.0 in
    let value = span_of_front n b h.value here.1 in
    let rest = headers_of_front n b hs (All-tail (IsHeaderWithin n) h hs within) in
    λ i. (name i, value i) ∷ rest i

-- a head that the first n bytes begin with is one that they all begin with
pub head_of_front : (n : ℕ) (b : List ℕ) (h : RequestHead) (rest : List ℕ) → ReadsRequest (take n b) h rest → ReadsRequest b h (drop (length (print_request h)) b)
head_of_front n b h rest reads =
    let longer = ReadsRequest-append (take n b) h rest (drop n b) reads in
    let whole : b ≡ print_request h ++ (rest ++ drop n b) = sym (take-append-drop n b) ∙ longer.1 in
    let behind : drop (length (print_request h)) b ≡ rest ++ drop n b = ap (drop (length (print_request h))) whole ∙ drop_at (print_request h) (rest ++ drop n b) (length (print_request h)) refl in
    (reads.0, whole ∙ ap (λ (t : List ℕ). print_request h ++ t) (sym behind))

-- its text is no longer than they are
pub short_in_front : (n : ℕ) (b : List ℕ) (h : RequestHead) (rest : List ℕ) → ReadsRequest (take n b) h rest → length (print_request h) ≤ n
short_in_front n b h rest reads =
    let sizes : length (take n b) ≡ length (print_request h) + length rest = ap length reads.1 ∙ length-append (print_request h) rest in
    omega (arith, length-take n b)

-- and a head of at most n bytes is one that the first n bytes begin with
pub head_in_front : (n : ℕ) (b : List ℕ) (h : RequestHead) (rest : List ℕ) → length (print_request h) ≤ n → ReadsRequest b h rest → ReadsRequest (take n b) h (take (n - length (print_request h)) rest)
head_in_front n b h rest short reads =
    (reads.0, ap (take n) reads.1 ∙ cut n (print_request h) rest short)
  where
    cut : (n : ℕ) (a r : List ℕ) → length a ≤ n → take n (a ++ r) ≡ a ++ take (n - length a) r
    cut n a r le =
        let split : n ≡ length a + (n - length a) = omega arith in
        ap (λ (m : ℕ). take m (a ++ r)) split ∙ take-append-add a r (n - length a)

-- the parts of a head that the first n bytes begin with
pub at_of_front : (n : ℕ) (b : List ℕ) (headers : List HeaderSpan) (r : RequestSpans) (h : RequestHead) → r.len ≤ n
    → IsRequestWithin (take n b) headers r → IsRequestAt (take n b) headers r h → IsRequestAt b headers r h
at_of_front n b headers r h short within at = record {
  reads = subst (λ (k : ℕ). ReadsRequest b h (drop k b)) (sym at.len) (head_of_front n b h (drop r.len (take n b)) at.reads);
  len = at.len;
  method = sym (span_of_front n b r.method (wider r.method within.method)) ∙ at.method;
  path = sym (span_of_front n b r.path (wider r.path within.path)) ∙ at.path;
  version = at.version;
  fields = sym (headers_of_front n b (take r.headers headers) spans) ∙ at.fields;
}
  where
    wider : (s : Span) → IsWithin r.len s → IsWithin n s
    wider s is = (is.0, omega (arith, is.1, short))

    spans : All (IsHeaderWithin n) (take r.headers headers)
    spans = All-weaker (IsHeaderWithin r.len) (IsHeaderWithin n) (λ s is. (wider s.name is.0, wider s.value is.1)) (take r.headers headers) within.section.headers_fit

-- where the parts lie
pub within_of_front : (n : ℕ) (b : List ℕ) (headers : List HeaderSpan) (r : RequestSpans) → IsRequestWithin (take n b) headers r → IsRequestWithin b headers r
within_of_front n b headers r within = record {
  method = within.method;
  path = within.path;
  version = within.version;
  section = record {
    len_fits = (let fits = within.section.len_fits in omega (arith, length-take n b));
    count_fits = within.section.count_fits;
    headers_fit = within.section.headers_fit;
  };
}

-- no head begins the window, so none within the limits begins the bytes
pub no_head : (b w : List ℕ) → w ≡ window b → HasNoRequest w → HasNoHead b
no_head b w is none h rest head = subst HasNoRequest is none h _ (head_in_front MAX_HEAD b h rest head.short head.reads)

-- a head within the limits stands in the window too
pub reads_in_window : (b w : List ℕ) (h : RequestHead) (rest : List ℕ) → w ≡ window b → IsHead b h rest → ReadsRequest w h (take (MAX_HEAD - length (print_request h)) rest)
reads_in_window b w h rest is head =
    (head.reads.0, is ∙ (head_in_front MAX_HEAD b h rest head.short head.reads).1)

-- bytes may still make a head of the window
pub may_begin : (b w : List ℕ) → w ≡ window b → MayBecomeRequest w → ¬ (NeverHasHead b)
may_begin b w is may never = ⊎_elim (λ m. never.0 m.0 m.1 [] m.2) never.1 (subst MayBecomeRequest is may)

-- fields that fit headers are as few as they
few_fields : {A B : Type 0} (f : A → List ℕ × List ℕ) (g : B → List ℕ × List ℕ) (xs : List A) (ys : List B) (n : ℕ) → map f (take n xs) ≡ map g ys → length ys ≤ n
few_fields f g xs ys n e = let sizes : length (take n xs) ≡ length ys = sym (length-map (take n xs) f) ∙ (ap length e ∙ length-map ys g) in omega (arith, length-take n xs)

-- a head of the window within the limits, with its parts
pub head_of_window : (b w : List ℕ) (headers : List HeaderSpan) (r : RequestSpans) → w ≡ window b
    → IsRequestOf w headers r × IsRequestWithin w headers r × (r.headers ≤ MAX_HEADERS) → (h : RequestHead) × IsHeadAt b headers r h
head_of_window b w headers r is front =
    let h : RequestHead = front.0.0 in
    let at : IsRequestAt (window b) headers r h = subst (λ (t : List ℕ). IsRequestAt t headers r h) is front.0.1 in
    let within : IsRequestWithin (window b) headers r = subst (λ (t : List ℕ). IsRequestWithin t headers r) is front.1 in
    let short : length (print_request h) ≤ MAX_HEAD = short_in_front MAX_HEAD b h _ at.reads in
    let fields = few_fields _ name_and_value headers h.fields r.headers at.fields in
    let size = at.len in
    let lifted : IsRequestAt b headers r h = at_of_front MAX_HEAD b headers r h (omega arith) within at in (
      h,
      record {
        head = record { reads = lifted.reads; few = omega (arith, fields, front.2); short = short };
        at = lifted;
        within = within_of_front MAX_HEAD b headers r within;
      },
    )

-- what lies in a head of the bytes lies in the bytes
pub lie_within : (b : List ℕ) (headers : List HeaderSpan) (r : RequestSpans) → IsRequestWithin b headers r → AreWithin b headers r
lie_within b headers r is =
    let fits = is.section.len_fits in
    let wider : (s : Span) → IsWithin r.len s → IsWithin (length b) s = λ s w. (w.0, omega (arith, w.1)) in
    record {
      len = fits;
      method = wider r.method is.method;
      path = wider r.path is.path;
      count = is.section.count_fits;
      headers = All-weaker (IsHeaderWithin r.len) (IsHeaderWithin (length b)) (λ s w. (wider s.name w.0, wider s.value w.1)) (take r.headers headers) is.section.headers_fit;
    }
