-- A reader of bodies in chunks reads exactly these.
use Rattle.std.proofs.Common.{◌≡◌, ◌<◌, ◌+◌, ◌*◌, ◌∙◌, ⊎_elim, inl, inr, ◌⊎◌, ℕ, List, [], ◌∷◌, ◌++◌, replicate, refl, sym, ap, subst, arith}
use Rattle.std.proofs.lemmas.Bool.{cases_eq, cond-true, cond-false, eq-eqb, lt-ltb, ne_eqb}
use Rattle.std.proofs.lemmas.List.{length-replicate}
use Rattle.std.proofs.lemmas.List.Sums.{fold-append}
use Rattle.hb_http.specs.Chunks.{IsChunkedBody, NeverIsChunkedBody}
use Rattle.hb_http.specs.ChunkPlaces.{chunk_step, place_after, body_start, data_after}
use Rattle.hb_http.specs.declared.chunk_places.ChunkPlace.{ChunkPlace}
use Rattle.hb_http.specs.declared.chunk_places.ChunkPlace.TheVariants.{Size, Extension, LineFeed, Data, DataReturn, DataFeed, TrailerStart, Trailer, TrailerFeed, LastFeed, Over, Bad}
use Rattle.hb_http.proofs.ChunkFronts.{IsFront}
use Rattle.hb_http.proofs.ChunkRuns.{run_all, run_body}
use Rattle.hb_http.proofs.ChunkSteps.{front_of}

-- some bytes lead from a place to the end of a body
abbrev pub Ends : ChunkPlace → Type 0
Ends p = (more : List ℕ) × (place_after p more ≡ Over)

by_byte : (p q : ChunkPlace) (c : ℕ) → chunk_step p c ≡ q → Ends q → Ends p
by_byte p q c step ends = (c ∷ ends.0, ap (λ (r : ChunkPlace). place_after r ends.0) step ∙ ends.1)

-- the last line and the empty line
start_ends : Ends body_start
start_ends = (48 ∷ 13 ∷ 10 ∷ 13 ∷ 10 ∷ [], refl)

trailers_end : (used : ℕ) → Ends (TrailerStart used)
trailers_end used = (13 ∷ 10 ∷ [], refl)

data_ends : (left : ℕ) → 0 < left → Ends (Data left)
data_ends left some =
    let run = run_all (replicate left 0) left (length-replicate left 0) some in
    let rest : List ℕ = 13 ∷ 10 ∷ start_ends.0 in
    (replicate left 0 ++ rest, fold-append chunk_step (Data left) (replicate left 0) rest ∙ (ap (λ (r : ChunkPlace). place_after r rest) run.arrives ∙ start_ends.1))

line_ends : (size used : ℕ) → Ends (LineFeed size used)
line_ends size used = ⊎_elim
    (λ (none : size ≡ 0). by_byte _ (TrailerStart (used + 1)) 10 (cond-true _ _ _ (eq-eqb size 0 none)) (trailers_end (used + 1)))
    (λ some. by_byte _ (Data size) 10 (cond-false _ _ _ (ne_eqb size 0 some)) (data_ends size (omega (arith, some))))
    (cases_eq size 0)

digits_end : (size digits : ℕ) → 0 < digits → Ends (Size size digits)
digits_end size digits some = by_byte _ (LineFeed size (digits + 1)) 13 (cond-true _ _ _ (lt-ltb 0 digits some)) (line_ends size (digits + 1))

size_ends : (size digits : ℕ) → Ends (Size size digits)
size_ends size digits = ⊎_elim
    (λ (none : digits ≡ 0).
    let few : digits < 16 = omega arith in
    let some : 0 < digits + 1 = omega arith in
    by_byte _ (Size (size * 16 + 0) (digits + 1)) 48 (cond-true _ _ _ (lt-ltb digits 16 few)) (digits_end (size * 16 + 0) (digits + 1) some))
    (λ some. digits_end size digits (omega (arith, some)))
    (cases_eq digits 0)

-- from every place that bytes lead to but one a body can still end
lives : (p : ChunkPlace) (b d : List ℕ) → IsFront p b d → (p ≡ Bad) ⊎ Ends p
lives (Size size digits) b d is = inr (size_ends size digits)
lives (Extension size used) b d is = inr (by_byte _ (LineFeed size (used + 1)) 13 refl (line_ends size (used + 1)))
lives (LineFeed size used) b d is = inr (line_ends size used)
lives (Data left) b d is = inr (data_ends left is.some)
lives DataReturn b d is = inr (13 ∷ 10 ∷ start_ends.0, start_ends.1)
lives DataFeed b d is = inr (10 ∷ start_ends.0, start_ends.1)
lives (TrailerStart used) b d is = inr (trailers_end used)
lives (Trailer used) b d is = inr (13 ∷ 10 ∷ 13 ∷ 10 ∷ [], refl)
lives (TrailerFeed used) b d is = inr (10 ∷ 13 ∷ 10 ∷ [], refl)
lives LastFeed b d is = inr (10 ∷ [], refl)
lives Over b d is = inr ([], refl)
lives Bad b d is = inl refl

-- a reader that comes to the end of a body has read one
pub whole_body : (bytes : List ℕ) → place_after body_start bytes ≡ Over → IsChunkedBody bytes (data_after body_start bytes)
whole_body bytes over = subst (λ (p : ChunkPlace). IsFront p bytes (data_after body_start bytes)) over (front_of bytes)

-- where there is no body ever, it stays so
pub bad_stays : (more : List ℕ) → place_after Bad more ≡ Bad
bad_stays [] = refl
bad_stays (c ∷ more) = bad_stays more

pub never_body : (bytes : List ℕ) → place_after body_start bytes ≡ Bad → NeverIsChunkedBody bytes
never_body bytes bad more content is =
    let over : place_after body_start (bytes ++ more) ≡ Over = (run_body (bytes ++ more) content is).arrives in
    let split : place_after body_start (bytes ++ more) ≡ place_after (place_after body_start bytes) more = fold-append chunk_step body_start bytes more in
    let here : place_after (place_after body_start bytes) more ≡ Bad = ap (λ (p : ChunkPlace). place_after p more) bad ∙ bad_stays more in
    let clash : Over ≡ Bad = sym over ∙ (split ∙ here) in
    cc

pub bad_body : (bytes : List ℕ) → NeverIsChunkedBody bytes → place_after body_start bytes ≡ Bad
bad_body bytes never = ⊎_elim
    (λ bad. bad)
    (λ (ends : Ends (place_after body_start bytes)).
    let over : place_after body_start (bytes ++ ends.0) ≡ Over = fold-append chunk_step body_start bytes ends.0 ∙ ends.1 in
    absurd (never ends.0 _ (whole_body (bytes ++ ends.0) over)))
    (lives (place_after body_start bytes) bytes (data_after body_start bytes) (front_of bytes))

-- a body ends nowhere before its end
pub no_front : (bytes more content other : List ℕ) → IsChunkedBody bytes content → IsChunkedBody (bytes ++ more) other → more ≡ []
no_front bytes [] content other first second = refl
no_front bytes (c ∷ more) content other first second =
    let over : place_after body_start bytes ≡ Over = (run_body bytes content first).arrives in
    let whole : place_after body_start (bytes ++ c ∷ more) ≡ Over = (run_body (bytes ++ c ∷ more) other second).arrives in
    let split : place_after body_start (bytes ++ c ∷ more) ≡ place_after (place_after body_start bytes) (c ∷ more) = fold-append chunk_step body_start bytes (c ∷ more) in
    let here : place_after (place_after body_start bytes) (c ∷ more) ≡ Bad = ap (λ (p : ChunkPlace). place_after p (c ∷ more)) over ∙ bad_stays more in
    let clash : Over ≡ Bad = sym whole ∙ (split ∙ here) in
    absurd (let no : ⊥ = cc in no)

-- it has one data
pub one_content : (bytes content other : List ℕ) → IsChunkedBody bytes content → IsChunkedBody bytes other → content ≡ other
one_content bytes content other first second = sym (run_body bytes content first).gives ∙ (run_body bytes other second).gives
