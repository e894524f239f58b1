-- Bytes that hold no further part of a request begin with none that is read.
use Rattle.std.proofs.Common.{◌≡◌, ◌<◌, ◌≤◌, ◌+◌, ◌∙◌, ⊎_elim, ℕ, List, [], ◌∷◌, ◌++◌, length, Option, Some, None, refl, sym, ap, subst, inl, inr, arith, append_assoc, append-nil, length-append}
use Rattle.std.proofs.lemmas.List.{append_cancel_left}
use Rattle.std.proofs.lemmas.List.Sums.{fold-append}
use Rattle.httparse.specs.Grammar.{ReadsRequest, RequestHead, print_request}
use Rattle.httparse.proofs.GrammarLemmas.{request_unique}
use Rattle.hb_http.specs.ChunkPlaces.{AreLines, IsStop, body_start, chunk_step, data_after, place_after}
use Rattle.hb_http.specs.Chunks.{IsChunkedBody}
use Rattle.hb_http.specs.Framing.{HasLength, IsChunked}
use Rattle.hb_http.specs.Headers.{headers_of}
use Rattle.hb_http.specs.Heads.{HasTooManyHeaders, IsHead}
use Rattle.hb_http.specs.Parts.{HoldsNoPart, IsBad}
use Rattle.hb_http.specs.Readings.{Given, IsBegun, IsBegunInChunks}
use Rattle.hb_http.specs.Requests.{Begins, HasNoRequest, Request}
use Rattle.hb_http.specs.declared.chunk_places.ChunkPlace.{ChunkPlace}
use Rattle.hb_http.specs.declared.chunk_places.ChunkPlace.TheVariants.{Over, Bad as BadBody}
use Rattle.hb_http.specs.declared.places.Place.{Place}
use Rattle.hb_http.specs.declared.places.Place.TheVariants.{Between, Counted, Chunked}
use Rattle.hb_http.proofs.ChunkLaws.{bad_stays}
use Rattle.hb_http.proofs.ChunkRuns.{data_after-append, lines_no_data, run_body}
use Rattle.hb_http.proofs.FramingLaws.{HasLength-not_chunked, HasLength-unique}
use Rattle.hb_http.proofs.HeadLaws.{IsHead-append, IsHead-not_many}
use Rattle.hb_http.proofs.LineCounts.{fronts}
use Rattle.hb_http.proofs.PartsRead.{begun_through}
use Rattle.hb_http.proofs.RequestLaws.{HasNoHead-no_request, IsMalformed-no_request}
use Rattle.hb_talk.specs.Bodies.{IsReadOf, IsReadText, IsShortBody, IsTooLong, Overruns, TellsTooLong}
use Rattle.hb_talk.specs.Talks.{IsMalformedRest}
use Rattle.hb_talk.specs.declared.wanted.TheConstants.{MAX_BODY}
use Rattle.hb_talk.proofs.ReadBodies.{few-data, front-data, not-both, over-within}

head-reads : (bytes : List ℕ) (r : Request) (more : List ℕ) → Begins IsReadText bytes r more → ReadsRequest bytes r.head (r.body ++ more)
head-reads bytes r more begins = (begins.0.head, begins.1 ∙ append_assoc (print_request r.head) r.body more)

-- ---- a body by length
-- fewer bytes than it has are no whole body
counted-none : (bytes : List ℕ) (g : Given) (left : ℕ) → 0 < left → ¬ (IsTooLong g.head g.content) → IsHead bytes g.head g.content → HasLength (headers_of g.head) (length g.content + left) → HasNoRequest IsReadText bytes
counted-none bytes g left some short is counted r more begins =
    let same = request_unique bytes r.head g.head (r.body ++ more) g.content (head-reads bytes r more begins) is.reads in
    let sizes : length r.body + length more ≡ length g.content = sym (length-append r.body more) ∙ ap length same.1 in
    let content = begins.0.ends.0 in
    ⊎_elim
    (λ (all : IsShortBody g.head r.body content). ⊎_elim
    (λ (x : HasLength (headers_of g.head) (length r.body) × (r.body ≡ content)).
    let long : length r.body ≡ length g.content + left = HasLength-unique (headers_of g.head) (length r.body) (length g.content + left) x.0 counted in
    absurd (omega arith))
    (λ (x : IsChunked (headers_of g.head) × IsChunkedBody r.body content). HasLength-not_chunked (headers_of g.head) (length g.content + left) counted x.0)
    all.0)
    (λ part. ⊎_elim
    (λ (told : TellsTooLong g.head × (r.body ≡ []) × (content ≡ [])). short (inl told.0))
    (λ (over : Overruns g.head r.body content). HasLength-not_chunked (headers_of g.head) (length g.content + left) counted over.0)
    part)
    (subst (λ (h : RequestHead). IsReadOf h r.body content) same.0 begins.0.ends.1)

-- ---- a body in chunks
-- the body of a whole request that begins these bytes, and what follows it
record Fronts (bytes : List ℕ) (r : Request) (more : List ℕ) (body : List ℕ) : Type 0 where
  joined : r.body ++ more ≡ body
  over : place_after body_start r.body ≡ Over

-- where all bytes have no more data than a body may have
chunked-front : (bytes : List ℕ) (h : RequestHead) (body : List ℕ) (r : Request) (more : List ℕ) → IsHead bytes h body → IsChunked (headers_of h) → length (data_after body_start body) ≤ MAX_BODY → Begins IsReadText bytes r more → Fronts bytes r more body
chunked-front bytes h body r more is chunked few begins =
    let same = request_unique bytes r.head h (r.body ++ more) body (head-reads bytes r more begins) is.reads in
    let content = begins.0.ends.0 in
    ⊎_elim
    (λ (all : IsShortBody h r.body content). ⊎_elim
    (λ (x : HasLength (headers_of h) (length r.body) × (r.body ≡ content)). absurd (HasLength-not_chunked (headers_of h) (length r.body) x.0 chunked))
    (λ (x : IsChunked (headers_of h) × IsChunkedBody r.body content). record { joined = same.1; over = (run_body r.body content x.1).arrives })
    all.0)
    (λ part. ⊎_elim
    (λ (told : TellsTooLong h × (r.body ≡ []) × (content ≡ [])). absurd (HasLength-not_chunked (headers_of h) told.0.0 told.0.1 chunked))
    (λ (over : Overruns h r.body content).
    let front = front-data body_start r.body more MAX_BODY (subst (λ b. length (data_after body_start b) ≤ MAX_BODY) (sym same.1) few) in
    absurd (not-both (length (data_after body_start r.body)) MAX_BODY front (subst (λ d. MAX_BODY < length d) (sym over.1) over.2)))
    part)
    (subst (λ (h : RequestHead). IsReadOf h r.body content) same.0 begins.0.ends.1)

chunked-none : (bytes : List ℕ) (g : Given) (place : ChunkPlace) → ¬ (IsTooLong g.head g.content) → IsBegunInChunks place g bytes → HasNoRequest IsReadText bytes
chunked-none bytes g place short is r more begins =
    let few = subst (λ d. length d ≤ MAX_BODY) (sym is.content) (few-data g.head g.content short) in
    let front = chunked-front bytes g.head is.begun r more is.is_head is.chunked few begins in
    over-within is.begun r.body more place front.over front.joined is.arrives is.not_over is.not_bad

-- lines that end in no body don't pass its end
lines-over : (place : ChunkPlace) (front more : List ℕ) → AreLines place (front ++ more) → place_after place front ≡ Over → place_after place (front ++ more) ≡ BadBody → ⊥
lines-over place [] [] lines over bad = let both : Over ≡ BadBody = sym over ∙ bad in cc both
lines-over place [] (c ∷ more) lines over bad = lines.0 (subst (λ (p : ChunkPlace). IsStop p) (sym over) tt)
lines-over place (c ∷ front) more lines over bad = lines-over (chunk_step place c) front more lines.1 over bad

-- an end behind a place in a body
over-behind : (place : ChunkPlace) (front more lines rest : List ℕ) → front ++ more ≡ lines ++ rest → AreLines place lines → place_after place lines ≡ BadBody → place_after place front ≡ Over → ⊥
over-behind place front more lines rest same are bad over = ⊎_elim
    (λ (t : (e : List ℕ) × (front ++ e ≡ lines)). lines-over place front t.0 (subst (AreLines place) (sym t.1) are) over (ap (place_after place) t.1 ∙ bad))
    (λ (t : (e : List ℕ) × (lines ++ e ≡ front)).
    let gone : place_after place front ≡ BadBody = ap (place_after place) (sym t.1) ∙ (fold-append chunk_step place lines t.0 ∙ (ap (λ (p : ChunkPlace). place_after p t.0) bad ∙ bad_stays t.0)) in
    let both : BadBody ≡ Over = sym gone ∙ over in cc both)
    (fronts front more lines rest same)

-- behind bytes of no body is no data
bad-data : (more : List ℕ) → data_after BadBody more ≡ []
bad-data [] = refl
bad-data (c ∷ more) = bad-data more

-- nor does any follow lines that end in none
lines-data : (place : ChunkPlace) (begun lines rest : List ℕ) → place_after body_start begun ≡ place → AreLines place lines → place_after place lines ≡ BadBody → data_after body_start (begun ++ (lines ++ rest)) ≡ data_after body_start begun
lines-data place begun lines rest arrives are bad =
    data_after-append body_start begun (lines ++ rest)
    ∙ (ap (λ (d : List ℕ). data_after body_start begun ++ d) (ap (λ (p : ChunkPlace). data_after p (lines ++ rest)) arrives ∙ (data_after-append place lines rest ∙ ((λ i. lines_no_data place lines are i ++ data_after (bad i) rest) ∙ bad-data rest)))
    ∙ append-nil (data_after body_start begun))

bad-none : (bytes waiting : List ℕ) (g : Given) (place : ChunkPlace) (begun : List ℕ) → ¬ (IsTooLong g.head g.content) → IsBegunInChunks place g begun → IsBad (Chunked place) waiting → bytes ≡ begun ++ waiting → HasNoRequest IsReadText bytes
bad-none bytes waiting g place begun short is bad same r more begins =
    let head = subst (λ (t : List ℕ). IsHead t g.head (is.begun ++ waiting)) (sym same) (IsHead-append begun waiting g.head is.begun is.is_head) in
    let told_of : g.content ≡ data_after body_start (is.begun ++ waiting) = sym is.content ∙ (sym (lines-data place is.begun bad.0 bad.1 is.arrives bad.3.are_lines bad.3.arrives) ∙ ap (λ (w : List ℕ). data_after body_start (is.begun ++ w)) (sym bad.2)) in
    let front = chunked-front bytes g.head (is.begun ++ waiting) r more head is.chunked (subst (λ d. length d ≤ MAX_BODY) told_of (few-data g.head g.content short)) begins in
    ⊎_elim
    (λ (t : (e : List ℕ) × (r.body ++ e ≡ is.begun)). over-within is.begun r.body t.0 place front.over t.1 is.arrives is.not_over is.not_bad)
    (λ (t : (e : List ℕ) × (is.begun ++ e ≡ r.body)).
    let behind : t.0 ++ more ≡ bad.0 ++ bad.1 = append_cancel_left is.begun (t.0 ++ more) (bad.0 ++ bad.1) (sym (append_assoc is.begun t.0 more) ∙ (ap (λ (b : List ℕ). b ++ more) t.1 ∙ (front.joined ∙ ap (λ (b : List ℕ). is.begun ++ b) bad.2))) in
    let over : place_after place t.0 ≡ Over = ap (λ (p : ChunkPlace). place_after p t.0) (sym is.arrives) ∙ (sym (fold-append chunk_step body_start is.begun t.0) ∙ (ap (place_after body_start) t.1 ∙ front.over)) in
    over-behind place t.0 more bad.0 bad.1 behind bad.3.are_lines bad.3.arrives over)
    (fronts r.body more is.begun waiting front.joined)

-- ---- wherever the session stands
-- what was given of the request that is begun isn't too long
abbrev pub IsShort : Option Given → Type 0
IsShort None = Unit {0}
IsShort (Some g) = ¬ (IsTooLong g.head g.content)

-- where no further part is held
pub rest-none : (place : Place) (now : Option Given) (begun waiting : List ℕ) → IsShort now → IsBegun place now begun → HoldsNoPart place waiting → HasNoRequest IsReadText (begun ++ waiting)
rest-none Between None begun waiting short is none = subst (λ (b : List ℕ). HasNoRequest IsReadText (b ++ waiting)) (sym is) (HasNoHead-no_request IsReadText waiting none.0)
rest-none Between (Some g) begun waiting short is none = absurd is
rest-none (Counted left) None begun waiting short is none = absurd is
rest-none (Counted left) (Some g) begun waiting short is none = subst (λ (b : List ℕ). HasNoRequest IsReadText b) (sym (append-nil begun) ∙ ap (λ (w : List ℕ). begun ++ w) (sym none.1)) (counted-none begun g left none.0 short is.0 is.1)
rest-none (Chunked place) None begun waiting short is none = absurd is
rest-none (Chunked place) (Some g) begun waiting short is none = chunked-none (begun ++ waiting) g (place_after place waiting) short (begun_through place g begun waiting is none)

-- where the bytes are malformed
pub rest-bad : (place : Place) (now : Option Given) (begun waiting : List ℕ) → IsShort now → IsBegun place now begun → IsBad place waiting → HasNoRequest IsReadText (begun ++ waiting)
rest-bad Between None begun waiting short is bad = subst (λ (b : List ℕ). HasNoRequest IsReadText (b ++ waiting)) (sym is) (IsMalformed-no_request IsReadText waiting bad.0)
rest-bad Between (Some g) begun waiting short is bad = absurd is
rest-bad (Counted left) now begun waiting short is bad = absurd bad
rest-bad (Chunked place) None begun waiting short is bad = absurd is
rest-bad (Chunked place) (Some g) begun waiting short is bad = bad-none (begun ++ waiting) waiting g place begun short is bad refl

-- and where a head is above its limits
pub many-none : (bytes : List ℕ) → HasTooManyHeaders bytes → HasNoRequest IsReadText bytes
many-none bytes many r more begins = IsHead-not_many bytes r.head (r.body ++ more) (record { reads = head-reads bytes r more begins; few = begins.0.few; short = begins.0.short }) many

-- ---- why nothing further is read
-- malformed bytes behind what a session took are malformed with it
pub malformed-rest : (place : Place) (now : Option Given) (begun waiting : List ℕ) → IsBegun place now begun → IsBad place waiting → IsMalformedRest (begun ++ waiting)
malformed-rest Between None begun waiting is bad = subst (λ (b : List ℕ). IsMalformedRest (b ++ waiting)) (sym is) (inl bad.0)
malformed-rest Between (Some g) begun waiting is bad = absurd is
malformed-rest (Counted left) now begun waiting is bad = absurd bad
malformed-rest (Chunked place) None begun waiting is bad = absurd is
malformed-rest (Chunked place) (Some g) begun waiting is bad = inr (
  g.head,
  is.begun ++ waiting,
  IsHead-append begun waiting g.head is.begun is.is_head,
  is.chunked,
  (
    is.begun ++ bad.0,
    bad.1,
    ap (λ (b : List ℕ). is.begun ++ b) bad.2 ∙ sym (append_assoc is.begun bad.0 bad.1),
    fold-append chunk_step body_start is.begun bad.0 ∙ (ap (λ (p : ChunkPlace). place_after p bad.0) is.arrives ∙ bad.3.arrives),
  ),
)

-- and its headers aren't too many
pub few-headers : (place : Place) (now : Option Given) (begun waiting : List ℕ) → IsBegun place now begun → IsBad place waiting → ¬ (HasTooManyHeaders (begun ++ waiting))
few-headers Between None begun waiting is bad = subst (λ (b : List ℕ). ¬ (HasTooManyHeaders (b ++ waiting))) (sym is) bad.1
few-headers Between (Some g) begun waiting is bad = absurd is
few-headers (Counted left) now begun waiting is bad = absurd bad
few-headers (Chunked place) None begun waiting is bad = absurd is
few-headers (Chunked place) (Some g) begun waiting is bad = IsHead-not_many (begun ++ waiting) g.head (is.begun ++ waiting) (IsHead-append begun waiting g.head is.begun is.is_head)
