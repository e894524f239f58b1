-- What the calls that give a part say, put together.
use Rattle.std.proofs.Common.{◌≡◌, ◌≢◌, ◌<◌, ◌≤◌, ◌+◌, ◌-◌, ◌∙◌, ⊎_elim, inl, min, ℕ, true, List, [], ◌∷◌, ◌++◌, length, take, drop, map, get_or, Some, Err, refl, sym, ap, subst, arith, length-take, length-drop, take-append-drop}
use Rattle.std.specs.Prelude.{◌==◌, if◌then◌else◌}
use Rattle.std.proofs.lemmas.Bool.{cases_eq, cond-true, cond-false, eq-eqb, ne_eqb}
use Rattle.std.proofs.lemmas.List.{drop-drop, drop_min, map-append, take_min}
use Rattle.httparse.specs.declared.spans.HeaderSpan.{HeaderSpan}
use Rattle.httparse.specs.declared.spans.RequestSpans.{RequestSpans}
use Rattle.httparse.specs.Grammar.{RequestHead}
use Rattle.httparse.specs.Spans.{header_bytes}
use Rattle.hb_http.specs.ChunkPlaces.{AreLines, place_after}
use Rattle.hb_http.specs.Framing.{IsFramed}
use Rattle.hb_http.specs.Headers.{same_ignoring_case, values_of}
use Rattle.hb_http.specs.Heads.{IsHead, IsHeadAt, HasTooManyHeaders, IsHeadTooLong, NeverHasHead}
use Rattle.hb_http.specs.Parts.{EndsBody, Gives, GivesBody, GivesHead, IsBad, ReadsLines, body_place, first_of, piece_of}
use Rattle.hb_http.specs.Standing.{Standing, at_rest}
use Rattle.hb_http.specs.Told.{IsToldAt}
use Rattle.hb_http.specs.declared.TheConstants.{MAX_PIECE}
use Rattle.hb_http.specs.declared.chunk_places.ChunkPlace.{ChunkPlace}
use Rattle.hb_http.specs.declared.chunk_places.ChunkPlace.TheVariants.{Data, DataReturn, Over, Bad as BadBody}
use Rattle.hb_http.specs.declared.parts.Head.{Head}
use Rattle.hb_http.specs.declared.parts.HttpFault.{HttpFault}
use Rattle.hb_http.specs.declared.parts.HttpFault.TheVariants.{Bad, HeadTooLong, TooManyHeaders, Cut, Memory}
use Rattle.hb_http.specs.declared.places.Place.{Place}
use Rattle.hb_http.specs.declared.places.Place.TheVariants.{Between, Chunked}
use Rattle.hb_http.proofs.ChunkRuns.{Runs, run_all, run_some}
use Rattle.hb_http.proofs.HeaderValues.{values_named, values_of-append}
use Rattle.hb_http.proofs.HeadLaws.{IsHead-not_many}

-- the first header of a name gives the first value
pub first_found : (name b : List ℕ) (hs : List HeaderSpan) (i : ℕ) (d : HeaderSpan) → i < length hs
    → values_of name (map (header_bytes b) (take i hs)) ≡ [] → same_ignoring_case (header_bytes b (get_or hs i d)).0 name ≡ true
    → first_of (values_of name (map (header_bytes b) hs)) ≡ Some (header_bytes b (get_or hs i d)).1
first_found name b hs i d within none same =
    let value : List ℕ = (header_bytes b (get_or hs i d)).1 in
    let front : values_of name (map (header_bytes b) (take (i + 1) hs)) ≡ value ∷ [] = values_named name b hs i d within same ∙ ap (λ (vs : List (List ℕ)). vs ++ value ∷ []) none in
    let cut : map (header_bytes b) hs ≡ map (header_bytes b) (take (i + 1) hs) ++ map (header_bytes b) (drop (i + 1) hs) =
    ap (map (header_bytes b)) (sym (take-append-drop (i + 1) hs)) ∙ map-append (header_bytes b) (take (i + 1) hs) (drop (i + 1) hs) in
    let all : values_of name (map (header_bytes b) hs) ≡ value ∷ values_of name (map (header_bytes b) (drop (i + 1) hs)) =
    ap (values_of name) cut ∙ (values_of-append name (map (header_bytes b) (take (i + 1) hs)) (map (header_bytes b) (drop (i + 1) hs))
    ∙ ap (λ (vs : List (List ℕ)). vs ++ values_of name (map (header_bytes b) (drop (i + 1) hs))) front) in
    ap first_of all

-- a head that doesn't say where its body ends is bad
pub unframed_bad : (bytes : List ℕ) (spans : List HeaderSpan) (r : RequestSpans) → (h : RequestHead) × IsHeadAt bytes spans r h
    → ¬ (IsFramed (map (header_bytes bytes) (take r.headers spans))) → IsBad Between bytes
unframed_bad bytes spans r head unframed = (
  inl (head.0, drop r.len bytes, head.1.head, λ framed. unframed (subst IsFramed (sym head.1.at.fields) framed)),
  IsHead-not_many bytes head.0 (drop r.len bytes) head.1.head,
)

-- a head is given
pub gives_head : (s s' : Standing) (waiting : List ℕ) (told : Head) (len : ℕ) (place : Place) → waiting ≡ s.waiting → s.place ≡ Between → IsToldAt waiting told len → place ≡ body_place told.length
    → s' ≡ record { place = place; body = []; waiting = drop (len + 0) s.waiting; closed = s.closed } → GivesHead s told s'
gives_head s s' waiting told len place same at is begins after =
    let rest : drop len waiting ≡ s'.waiting = ap (drop len) same ∙ (ap (λ (n : ℕ). drop n s.waiting) (let e : len ≡ len + 0 = omega arith in e) ∙ sym (ap (λ (t : Standing). t.waiting) after)) in
    record {
      at = at;
      head = is.head;
      is_head = subst (λ (t : List ℕ). IsHead t is.head s'.waiting) same (subst (IsHead waiting is.head) rest is.is_head);
      framed = is.framed;
      is_told = is.is_told;
      after = after ∙ (λ i. record { place = begins i; body = []; waiting = sym (ap (λ (t : Standing). t.waiting) after) i; closed = s.closed });
    }

-- a refusal between two requests is given
pub gives_fault : (s s' : Standing) (waiting : List ℕ) (fault : HttpFault) → waiting ≡ s.waiting → s.place ≡ Between → s' ≡ at_rest s
    → (fault ≡ Bad → IsBad Between waiting) → (fault ≡ TooManyHeaders → HasTooManyHeaders waiting)
    → (fault ≡ HeadTooLong → IsHeadTooLong waiting × ¬ (NeverHasHead waiting) × ¬ (HasTooManyHeaders waiting))
    → fault ≢ Cut → Gives s (Err fault) s'
gives_fault s s' waiting Bad same at after bad many long cut = (subst (λ (p : Place). IsBad p s.waiting) (sym at) (subst (IsBad Between) same (bad refl)), after)
gives_fault s s' waiting HeadTooLong same at after bad many long cut =
    let P : List ℕ → Type 0 = λ t. IsHeadTooLong t × ¬ (NeverHasHead t) × ¬ (HasTooManyHeaders t) in
    let here : P s.waiting = subst P same (long refl) in
    (at, here.0, here.1, here.2, after)
gives_fault s s' waiting TooManyHeaders same at after bad many long cut = (at, subst HasTooManyHeaders same (many refl), after)
gives_fault s s' waiting Cut same at after bad many long cut = absurd (cut refl)
gives_fault s s' waiting Memory same at after bad many long cut = after

-- lines of a text
pub lines_read : (place behind : ChunkPlace) (waiting lines : List ℕ) (n : ℕ) → lines ≡ take n waiting → behind ≡ place_after place lines → AreLines place lines → ReadsLines place (take n waiting) behind
lines_read place behind waiting lines n same arrives are = record {
  arrives = ap (place_after place) (sym same) ∙ sym arrives;
  are_lines = subst (AreLines place) same are;
}

-- the end of a body in chunks is given
pub ends_chunked : (s s' : Standing) (place : ChunkPlace) (n : ℕ) → s.place ≡ Chunked place → ReadsLines place (take n s.waiting) Over
    → s' ≡ record { place = Between; body = []; waiting = drop (n + 0) s.waiting; closed = s.closed } → EndsBody s.place s s'
ends_chunked s s' place n at reads after =
    let rest : drop n s.waiting ≡ s'.waiting = ap (λ (k : ℕ). drop k s.waiting) (let e : n ≡ n + 0 = omega arith in e) ∙ sym (ap (λ (t : Standing). t.waiting) after) in
    subst (λ (p : Place). EndsBody p s s') (sym at) (record {
      lines = take n s.waiting;
      text = sym (take-append-drop n s.waiting) ∙ ap (λ (t : List ℕ). take n s.waiting ++ t) rest;
      reads = reads;
      after = after ∙ (λ i. record { place = Between; body = []; waiting = sym (ap (λ (t : Standing). t.waiting) after) i; closed = s.closed });
    })

-- no body in chunks
pub bad_chunked : (s : Standing) (place : ChunkPlace) (n : ℕ) → s.place ≡ Chunked place → ReadsLines place (take n s.waiting) BadBody → IsBad s.place s.waiting
bad_chunked s place n at reads = subst (λ (p : Place). IsBad p s.waiting) (sym at) (take n s.waiting, drop n s.waiting, sym (take-append-drop n s.waiting), reads)

-- a piece of a chunk's data is read as that
pub piece_run : (left : ℕ) (rest : List ℕ) → piece_of left rest ≢ [] → Runs (Data left) (piece_of left rest) (piece_of left rest) (if length (piece_of left rest) == left then DataReturn else Data (left - length (piece_of left rest)))
piece_run left rest some =
    let fits : length (piece_of left rest) ≤ left = omega (arith, length-take (min left MAX_PIECE) rest) in
    ⊎_elim
    (λ (e : length (piece_of left rest) ≡ left).
    subst (Runs (Data left) (piece_of left rest) (piece_of left rest)) (sym (cond-true _ _ _ (eq-eqb (length (piece_of left rest)) left e)))
    (run_all (piece_of left rest) left e (some_left (piece_of left rest) left some fits)))
    (λ apart.
    subst (Runs (Data left) (piece_of left rest) (piece_of left rest)) (sym (cond-false _ _ _ (ne_eqb (length (piece_of left rest)) left apart)))
    (run_some (piece_of left rest) left (omega (arith, apart))))
    (cases_eq (length (piece_of left rest)) left)
  where
    some_left : (xs : List ℕ) (n : ℕ) → xs ≢ [] → length xs ≤ n → 0 < n
    some_left [] n some fits = absurd (some refl)
    some_left (x ∷ xs) n some fits = omega arith

-- a piece of a chunk's data is given
pub gives_chunked : (s s' : Standing) (place behind : ChunkPlace) (lines left count : ℕ) → s.place ≡ Chunked place → ReadsLines place (take lines s.waiting) (Data left)
    → count ≡ min (min left MAX_PIECE) (length s.waiting - lines) → count ≢ 0
    → behind ≡ (if count == left then DataReturn else Data (left - count))
    → s' ≡ record { place = Chunked behind; body = take count (drop lines s.waiting); waiting = drop (lines + count) s.waiting; closed = s.closed }
    → GivesBody s.place s s'
gives_chunked s s' place behind lines left count at reads size some step after =
    let is : count ≡ min (min left MAX_PIECE) (length (drop lines s.waiting)) = size ∙ ap (min (min left MAX_PIECE)) (sym (length-drop lines s.waiting)) in
    let body : take count (drop lines s.waiting) ≡ piece_of left (drop lines s.waiting) = ap (λ (n : ℕ). take n (drop lines s.waiting)) is ∙ take_min (min left MAX_PIECE) (drop lines s.waiting) in
    let waiting : drop (lines + count) s.waiting ≡ drop (min left MAX_PIECE) (drop lines s.waiting) =
    sym (drop-drop count lines s.waiting) ∙ (ap (λ (n : ℕ). drop n (drop lines s.waiting)) is ∙ drop_min (min left MAX_PIECE) (drop lines s.waiting)) in
    let long : length (piece_of left (drop lines s.waiting)) ≡ count = length-take (min left MAX_PIECE) (drop lines s.waiting) ∙ sym is in
    let full : piece_of left (drop lines s.waiting) ≢ [] = λ none. some (sym long ∙ ap length none) in
    let run = piece_run left (drop lines s.waiting) full in
    let to : (if length (piece_of left (drop lines s.waiting)) == left then DataReturn else Data (left - length (piece_of left (drop lines s.waiting)))) ≡ behind =
    ap (λ (n : ℕ). if n == left then DataReturn else Data (left - n)) long ∙ sym step in
    let comes : behind ≡ place_after (Data left) (piece_of left (drop lines s.waiting)) = sym (run.arrives ∙ to) in
    subst (λ (p : Place). GivesBody p s s') (sym at) (record {
      lines = take lines s.waiting;
      rest = drop lines s.waiting;
      left = left;
      text = sym (take-append-drop lines s.waiting);
      reads = reads;
      some = λ none. full (sym body ∙ (sym (ap (λ (t : Standing). t.body) after) ∙ none));
      after = after ∙ (λ i. record { place = Chunked (comes i); body = body i; waiting = waiting i; closed = s.closed });
    })
