-- How much of a body is read: all of one that isn't too long, and of another one the shortest front that shows it.
use Rattle.std.proofs.Common.{◌≡◌, ◌≢◌, ◌<◌, ◌≤◌, ◌+◌, ◌-◌, ◌∙◌, ⊎_elim, ℕ, zero, suc, List, [], ◌∷◌, ◌++◌, length, take, drop, refl, sym, ap, subst, inl, inr, arith, append_assoc, append-nil, length-append, take-append-drop}
use Rattle.std.proofs.lemmas.Bool.{cases_lt}
use Rattle.std.proofs.lemmas.List.Sums.{fold-append}
use Rattle.httparse.specs.Grammar.{RequestHead}
use Rattle.hb_http.specs.ChunkPlaces.{body_start, chunk_step, data_after, data_at, place_after}
use Rattle.hb_http.specs.Chunks.{IsChunkedBody}
use Rattle.hb_http.specs.Framing.{HasLength, IsChunked}
use Rattle.hb_http.specs.Headers.{headers_of}
use Rattle.hb_http.specs.Heads.{IsHead}
use Rattle.hb_http.specs.Readings.{Given, IsBegunInChunks, IsBodyOf, IsBodyText}
use Rattle.hb_http.specs.Requests.{IsRequest, Request}
use Rattle.hb_http.specs.declared.chunk_places.ChunkPlace.{ChunkPlace}
use Rattle.hb_http.specs.declared.chunk_places.ChunkPlace.TheVariants.{Over, Bad as BadBody}
use Rattle.hb_http.proofs.ChunkLaws.{bad_stays}
use Rattle.hb_http.proofs.ChunkRuns.{data_after-append, run_body}
use Rattle.hb_http.proofs.FramingLaws.{HasLength-not_chunked}
use Rattle.hb_http.proofs.OneReading.{same_body}
use Rattle.hb_talk.specs.Bodies.{IsReadOf, IsReadText, IsShortBody, IsTooLong, Overruns, TellsTooLong}
use Rattle.hb_talk.specs.declared.wanted.TheConstants.{MAX_BODY}

pub not-both : (n most : ℕ) → n ≤ most → most < n → ⊥
not-both n most few above = omega (arith, few, above)

pub few-data : (h : RequestHead) (content : List ℕ) → ¬ (IsTooLong h content) → length content ≤ MAX_BODY
few-data h content short = ⊎_elim (λ above. absurd (short (inr above))) (λ few. few) (cases_lt MAX_BODY (length content))

-- ---- places in a body in chunks
-- behind the end of a body is no further place of one
behind-over : (more : List ℕ) (place : ChunkPlace) → place_after Over more ≡ place → place ≢ Over → place ≢ BadBody → ⊥
behind-over [] place is not_over not_bad = not_over (sym is)
behind-over (c ∷ more) place is not_over not_bad = not_bad (sym is ∙ bad_stays more)

-- bytes behind an end that is within a body
pub over-within : (body : List ℕ) (front more : List ℕ) (place : ChunkPlace) → place_after body_start front ≡ Over → front ++ more ≡ body → place_after body_start body ≡ place → place ≢ Over → place ≢ BadBody → ⊥
over-within body front more place over joined arrives not_over not_bad =
    behind-over more place (ap (λ (p : ChunkPlace). place_after p more) (sym over) ∙ (sym (fold-append chunk_step body_start front more) ∙ (ap (place_after body_start) joined ∙ arrives))) not_over not_bad

-- ---- data above a limit
-- a front of bytes has no more data than they
pub front-data : (place : ChunkPlace) (front more : List ℕ) (most : ℕ) → length (data_after place (front ++ more)) ≤ most → length (data_after place front) ≤ most
front-data place front more most few =
    let joined : length (data_after place (front ++ more)) ≡ length (data_after place front ++ data_after (place_after place front) more) = ap (λ d. length d) (data_after-append place front more) in
    omega (arith, few, joined, length-append (data_after place front) (data_after (place_after place front) more))

-- the shortest front of bytes whose data is above it
pub record Shortest (place : ChunkPlace) (most : ℕ) (bytes : List ℕ) : Type 0 where
  pub front : List ℕ
  pub back : List ℕ
  pub joined : front ++ back ≡ bytes
  pub above : most < length (data_after place front)
  pub first : (n : ℕ) → n < length front → length (data_after place (take n front)) ≤ most

-- a shorter front, by what it has behind the first byte
shorter : (place : ChunkPlace) (most : ℕ) (c : ℕ) (front : List ℕ) → ((n : ℕ) → n < length front → length (data_at place c) + length (data_after (chunk_step place c) (take n front)) ≤ most) → (n : ℕ) → n < length (c ∷ front) → length (data_after place (take n (c ∷ front))) ≤ most
shorter place most c front behind zero less = omega (arith)
shorter place most c front behind (suc n) less =
    let few = behind n (omega (arith, less)) in
    let joined : length (data_at place c ++ data_after (chunk_step place c) (take n front)) ≤ most = omega (arith, few, length-append (data_at place c) (data_after (chunk_step place c) (take n front))) in
    joined

pub shortest : (place : ChunkPlace) (most : ℕ) (bytes : List ℕ) → most < length (data_after place bytes) → Shortest place most bytes
shortest place most [] above = absurd (omega (arith, above))
shortest place most (c ∷ bytes) above = ⊎_elim
    (λ (here : most < length (data_at place c)). record {
      front = c ∷ [];
      back = bytes;
      joined = refl;
      above = subst (λ d. most < length d) (sym (append-nil (data_at place c))) here;
      first = shorter place most c [] (λ n none. absurd (omega (arith, none)));
    })
    (λ (fits : length (data_at place c) ≤ most).
    let all : most < length (data_at place c ++ data_after (chunk_step place c) bytes) = above in
    let rest = shortest (chunk_step place c) (most - length (data_at place c)) bytes (omega (arith, all, fits, length-append (data_at place c) (data_after (chunk_step place c) bytes))) in
    let more = rest.above in
    let whole : most < length (data_at place c ++ data_after (chunk_step place c) rest.front) = omega (arith, more, fits, length-append (data_at place c) (data_after (chunk_step place c) rest.front)) in
    record {
      front = c ∷ rest.front;
      back = rest.back;
      joined = ap (λ bytes. c ∷ bytes) rest.joined;
      above = whole;
      first = shorter place most c rest.front (λ n less. let few = rest.first n less in omega (arith, few, fits));
    })
    (cases_lt most (length (data_at place c)))

-- ---- what isn't too long
-- no front of a short body is above the limit
none-overruns : (h : RequestHead) (front more body content other : List ℕ) → front ++ more ≡ body → IsBodyOf h body content → length content ≤ MAX_BODY → ¬ (Overruns h front other)
none-overruns h front more body content other joined is few over = ⊎_elim
    (λ (x : HasLength (headers_of h) (length body) × (body ≡ content)). HasLength-not_chunked (headers_of h) (length body) x.0 over.0)
    (λ (x : IsChunked (headers_of h) × IsChunkedBody body content).
    let told_of : content ≡ data_after body_start (front ++ more) = sym (run_body body content x.1).gives ∙ ap (data_after body_start) (sym joined) in
    not-both (length (data_after body_start front)) MAX_BODY (front-data body_start front more MAX_BODY (subst (λ d. length d ≤ MAX_BODY) told_of few)) (subst (λ d. MAX_BODY < length d) (sym over.1) over.2))
    is

-- it is read whole
reads-all : (h : RequestHead) (body content : List ℕ) → IsReadOf h body content → ¬ (IsTooLong h content) → IsShortBody h body content
reads-all h body content read short = ⊎_elim
    (λ all. all)
    (λ part. ⊎_elim (λ (told : TellsTooLong h × (body ≡ []) × (content ≡ [])). absurd (short (inl told.0))) (λ (over : Overruns h body content). absurd (short (inr over.2))) part)
    read

-- and has one data
pub one-content : (h : RequestHead) (body content other : List ℕ) → IsReadOf h body content → ¬ (IsTooLong h content) → IsReadOf h body other → content ≡ other
one-content h body content other read short again =
    let all = reads-all h body content read short in
    ⊎_elim
    (λ (same : IsShortBody h body other). (same_body h body body [] [] content other refl all.0 same.0).1)
    (λ part. ⊎_elim
    (λ (told : TellsTooLong h × (body ≡ []) × (other ≡ [])). absurd (short (inl told.0)))
    (λ (over : Overruns h body other). absurd (none-overruns h body [] body content other (append-nil body) all.0 all.1 over))
    part)
    again

-- a request with its whole body is read to its end, and not before
whole-read : (r : Request) (content : List ℕ) → IsBodyOf r.head r.body content → IsRequest IsBodyText r → ¬ (IsTooLong r.head content) → IsRequest IsReadText r
whole-read r content is request short =
    let few = few-data r.head content short in
    record {
      head = request.head;
      few = request.few;
      short = request.short;
      framed = request.framed;
      ends = (content, inl (is, few));
      first = λ n less ends. ⊎_elim
          (λ (all : IsShortBody r.head (take n r.body) ends.0). request.first n less (ends.0, all.0))
          (λ part. ⊎_elim
          (λ (told : TellsTooLong r.head × (take n r.body ≡ []) × (ends.0 ≡ [])). short (inl told.0))
          (λ (over : Overruns r.head (take n r.body) ends.0). none-overruns r.head (take n r.body) (drop n r.body) r.body content ends.0 (take-append-drop n r.body) is few over)
          part)
          ends.1;
    }

pub request-read : (g : Given) (r : Request) → r.head ≡ g.head → IsBodyOf g.head r.body g.content → IsRequest IsBodyText r → ¬ (IsTooLong g.head g.content) → IsReadOf g.head r.body g.content × IsRequest IsReadText r
request-read g r same is request short = (
  inl (is, few-data g.head g.content short),
  whole-read r g.content (subst (λ h. IsBodyOf h r.body g.content) (sym same) is) request (subst (λ h. ¬ (IsTooLong h g.content)) (sym same) short),
)

-- ---- what is too long
-- a request whose head tells it is its head alone
pub told-request : (bytes : List ℕ) (h : RequestHead) (rest : List ℕ) → IsHead bytes h rest → TellsTooLong h → IsRequest IsReadText (record { head = h; body = [] })
told-request bytes h rest is tells = record {
  head = is.reads.0;
  few = is.few;
  short = is.short;
  framed = inl (tells.0, tells.1);
  ends = ([], inr (inl (tells, refl, refl)));
  first = λ n less. absurd (omega (arith, less));
}

-- and one in chunks ends with the shortest front whose data is above the limit
pub overrun-request : (place : ChunkPlace) (g : Given) (bytes : List ℕ) → (begun : IsBegunInChunks place g bytes) → (s : Shortest body_start MAX_BODY begun.begun) → IsRequest IsReadText (record { head = g.head; body = s.front })
overrun-request place g bytes begun s = record {
  head = begun.is_head.reads.0;
  few = begun.is_head.few;
  short = begun.is_head.short;
  framed = inr begun.chunked;
  ends = (data_after body_start s.front, inr (inr (begun.chunked, refl, s.above)));
  first = λ n less ends. ⊎_elim
      (λ (all : IsShortBody g.head (take n s.front) ends.0). no-end n ends.0 all.0)
      (λ part. ⊎_elim
      (λ (told : TellsTooLong g.head × (take n s.front ≡ []) × (ends.0 ≡ [])). HasLength-not_chunked (headers_of g.head) told.0.0 told.0.1 begun.chunked)
      (λ (over : Overruns g.head (take n s.front) ends.0). not-both (length (data_after body_start (take n s.front))) MAX_BODY (s.first n less) (subst (λ d. MAX_BODY < length d) (sym over.1) over.2))
      part)
      ends.1;
}
  where
    joined : (n : ℕ) → take n s.front ++ (drop n s.front ++ s.back) ≡ begun.begun
    joined n = sym (append_assoc (take n s.front) (drop n s.front) s.back) ∙ (ap (λ b. b ++ s.back) (take-append-drop n s.front) ∙ s.joined)

    no-end : (n : ℕ) (content : List ℕ) → IsBodyOf g.head (take n s.front) content → ⊥
    no-end n content is = ⊎_elim
        (λ (x : HasLength (headers_of g.head) (length (take n s.front)) × (take n s.front ≡ content)). HasLength-not_chunked (headers_of g.head) (length (take n s.front)) x.0 begun.chunked)
        (λ (x : IsChunked (headers_of g.head) × IsChunkedBody (take n s.front) content). over-within begun.begun (take n s.front) (drop n s.front ++ s.back) place (run_body (take n s.front) content x.1).arrives (joined n) begun.arrives begun.not_over begun.not_bad)
        is
