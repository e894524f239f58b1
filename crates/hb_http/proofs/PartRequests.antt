-- Requests that were given are requests of the bytes.
use Rattle.std.proofs.Common.{◌≡◌, ◌<◌, ◌∙◌, ⊎_elim, inl, inr, ℕ, List, [], ◌∷◌, ◌++◌, length, take, drop, None, refl, sym, ap, subst, arith, append_assoc, append-nil, length-take, length-drop, take-append-drop}
use Rattle.std.specs.List.{AllByRecursion, flat_map}
use Rattle.httparse.specs.Grammar.{RequestHead}
use Rattle.hb_http.specs.Chunks.{IsChunkedBody}
use Rattle.hb_http.specs.Framing.{HasLength, IsChunked, IsFramed}
use Rattle.hb_http.specs.Headers.{headers_of}
use Rattle.hb_http.specs.Heads.{IsHead}
use Rattle.hb_http.specs.Parts.{IsBad}
use Rattle.hb_http.specs.Readings.{AreRequests, AreWhole, Given, HasRead, IsBodyOf, IsBodyText, IsWhole}
use Rattle.hb_http.specs.Requests.{IsRequest, Request, RequestsOf, request_text}
use Rattle.hb_http.specs.declared.places.Place.{Place}
use Rattle.hb_http.specs.declared.places.Place.TheVariants.{Between, Counted, Chunked}
use Rattle.hb_http.proofs.ChunkLaws.{no_front}
use Rattle.hb_http.proofs.FramingLaws.{HasLength-not_chunked, HasLength-unique}
use Rattle.hb_http.proofs.HeadLaws.{HasTooManyHeaders-not_append, IsHead-append, IsHead-not_many, IsMalformed-append}
use Rattle.hb_http.proofs.RequestLaws.{RequestsOf-behind}

-- a body says where its head's body ends
framed_by : (h : RequestHead) (body content : List ℕ) → IsBodyOf h body content → IsFramed (headers_of h)
framed_by h body content is = ⊎_elim (λ (x : HasLength (headers_of h) (length body) × (body ≡ content)). inl (length body, x.0)) (λ (x : IsChunked (headers_of h) × IsChunkedBody body content). inr x.0) is

-- no body of a head is a proper front of another
first_end : (h : RequestHead) (body content : List ℕ) (n : ℕ) → n < length body → IsBodyOf h body content → ¬ (IsBodyText h (take n body))
first_end h body content n less is short =
    let size : length (take n body) ≡ n = omega (arith, length-take n body) in
    ⊎_elim
    (λ (x : HasLength (headers_of h) (length body) × (body ≡ content)). ⊎_elim
    (λ (y : HasLength (headers_of h) (length (take n body)) × (take n body ≡ short.0)).
    let same : length body ≡ length (take n body) = HasLength-unique (headers_of h) (length body) (length (take n body)) x.0 y.0 in
    absurd (omega arith))
    (λ (y : IsChunked (headers_of h) × IsChunkedBody (take n body) short.0). HasLength-not_chunked (headers_of h) (length body) x.0 y.0)
    short.1)
    (λ (x : IsChunked (headers_of h) × IsChunkedBody body content). ⊎_elim
    (λ (y : HasLength (headers_of h) (length (take n body)) × (take n body ≡ short.0)). HasLength-not_chunked (headers_of h) (length (take n body)) y.0 x.0)
    (λ (y : IsChunked (headers_of h) × IsChunkedBody (take n body) short.0).
    let none : drop n body ≡ [] = no_front (take n body) (drop n body) short.0 content y.1 (subst (λ (t : List ℕ). IsChunkedBody t content) (sym (take-append-drop n body)) x.1) in
    absurd (let gone : length (drop n body) ≡ 0 = ap length none in omega (arith, length-drop n body)))
    short.1)
    is

-- a request that was given
whole_request : (g : Given) (text : List ℕ) (is : IsWhole g text) → IsRequest IsBodyText (record { head = g.head; body = is.body })
whole_request g text is = record {
  head = is.is_head.reads.0;
  few = is.is_head.few;
  short = is.is_head.short;
  framed = framed_by g.head is.body g.content is.is_body;
  ends = (g.content, is.is_body);
  first = λ n less. first_end g.head is.body g.content n less is.is_body;
}

-- and all of them
pub whole_requests : (gs : List Given) (bytes : List ℕ) → AreWhole gs bytes → (rs : List Request) × AreRequests IsBodyOf gs rs × (bytes ≡ flat_map request_text rs)
whole_requests [] bytes all = ([], tt, all)
whole_requests (g ∷ gs) bytes all =
    let rest = whole_requests gs all.1 all.4 in
    let r : Request = record { head = g.head; body = all.3.body } in (
      r ∷ rest.0,
      ((refl, all.3.is_body, whole_request g all.0 all.3), rest.1),
      all.2 ∙ (λ i. all.3.is_head.reads.1 i ++ rest.2 i),
    )

-- they are requests
each_request : (gs : List Given) (rs : List Request) (Closes : RequestHead → List ℕ → Type 0) → AreRequests IsBodyOf gs rs → AllByRecursion (λ r. ¬ (Closes r.head r.body)) rs
    → AllByRecursion (λ r. IsRequest IsBodyText r × ¬ (Closes r.head r.body)) rs
each_request [] [] Closes are open_ = tt
each_request [] (r ∷ rs) Closes are open_ = absurd are
each_request (g ∷ gs) [] Closes are open_ = absurd are
each_request (g ∷ gs) (r ∷ rs) Closes are open_ = ((are.0.2, open_.0), each_request gs rs Closes are.1 open_.1)

-- between two requests, those that were given stand before the requests of the bytes behind
pub requests_before : (Closes : RequestHead → List ℕ → Type 0) (done : List Given) (taken : List ℕ) → HasRead done None taken Between
    → (rs : List Request) × AreRequests IsBodyOf done rs × (taken ≡ flat_map request_text rs)
    × (AllByRecursion (λ r. ¬ (Closes r.head r.body)) rs → (more : List ℕ) (others : List Request) (rest : List ℕ)
    → RequestsOf IsBodyText Closes more others rest → RequestsOf IsBodyText Closes (taken ++ more) (rs ++ others) rest)
requests_before Closes done taken read =
    let whole = whole_requests done read.whole read.are_whole in
    let text : taken ≡ flat_map request_text whole.0 = read.text ∙ (ap (λ (t : List ℕ). read.whole ++ t) read.is_begun ∙ (append-nil read.whole ∙ whole.2)) in (
      whole.0,
      whole.1,
      text,
      λ open_ more others rest reads.
          subst (λ (t : List ℕ). RequestsOf IsBodyText Closes (t ++ more) (whole.0 ++ others) rest) (sym text)
          (RequestsOf-behind IsBodyText Closes whole.0 others more rest (each_request done whole.0 Closes whole.1 open_) reads),
    )

-- bad bytes stay bad
pub IsBad-append : (place : Place) (bytes more : List ℕ) → IsBad place bytes → IsBad place (bytes ++ more)
IsBad-append Between bytes more bad = (
  IsMalformed-append bytes more bad.0,
  ⊎_elim
      (λ (m : (h : RequestHead) × (rest : List ℕ) × IsHead bytes h rest × ¬ (IsFramed (headers_of h))). IsHead-not_many (bytes ++ more) m.0 (m.1 ++ more) (IsHead-append bytes more m.0 m.1 m.2))
      (λ never. HasTooManyHeaders-not_append bytes more never bad.1)
      bad.0,
)
IsBad-append (Counted left) bytes more bad = bad
IsBad-append (Chunked place) bytes more bad = (bad.0, bad.1 ++ more, ap (λ (t : List ℕ). t ++ more) bad.2 ∙ append_assoc bad.0 bad.1 more, bad.3)
