-- A session that stands somewhere gives one part, want of memory aside.
use Rattle.std.proofs.Common.{◌≡◌, ◌≢◌, ◌-◌, ◌∙◌, ◌⊎◌, ⊎_elim, inl, inr, min, ℕ, true, false, true≢false, List, [], ◌∷◌, ◌++◌, length, drop, Some, None, Ok, Err, refl, sym, ap, subst, arith, append-nil, length-take}
use Rattle.std.specs.Prelude.{Option, Result, MatchOption}
use Rattle.std.proofs.lemmas.List.{append_cancel_left, nil_from_length}
use Rattle.httparse.specs.Grammar.{RequestHead}
use Rattle.httparse.proofs.GrammarLemmas.{request_unique}
use Rattle.hb_http.specs.ChunkPlaces.{AreLines, IsStop, chunk_step, place_after}
use Rattle.hb_http.specs.Framing.{HasLength, IsChunked, IsFramed}
use Rattle.hb_http.specs.Headers.{headers_of}
use Rattle.hb_http.specs.Heads.{HasNoHead, HasTooManyHeaders, IsHead, IsHeadTooLong, IsMalformed, NeverHasHead}
use Rattle.hb_http.specs.Parts.{EndsBody, Gives, GivesBody, HoldsNoPart, IsBad, IsToldOf, ReadsLines, body_place, piece_of, read_through}
use Rattle.hb_http.specs.Standing.{Standing, at_rest}
use Rattle.hb_http.specs.declared.TheConstants.{MAX_PIECE}
use Rattle.hb_http.specs.declared.chunk_places.ChunkPlace.{ChunkPlace}
use Rattle.hb_http.specs.declared.chunk_places.ChunkPlace.TheVariants.{Data, Over, Bad as BadBody}
use Rattle.hb_http.specs.declared.parts.Head.{Head}
use Rattle.hb_http.specs.declared.parts.Part.{Part}
use Rattle.hb_http.specs.declared.parts.Part.TheVariants.{NeedInput, Head as HeadPart, Body, BodyEnd, InputEnd}
use Rattle.hb_http.specs.declared.parts.HttpFault.{HttpFault}
use Rattle.hb_http.specs.declared.parts.HttpFault.TheVariants.{Bad, HeadTooLong, TooManyHeaders, Cut, Memory}
use Rattle.hb_http.specs.declared.places.Place.{Place}
use Rattle.hb_http.specs.declared.places.Place.TheVariants.{Between, Counted, Chunked}
use Rattle.hb_http.proofs.FramingLaws.{HasLength-not_chunked, HasLength-unique}
use Rattle.hb_http.proofs.HeadLaws.{IsHead-not_many, IsHead-not_never}
use Rattle.hb_http.proofs.LineCounts.{fronts}

-- what the waiting bytes hold next
pub data Found : Type 0 where
  FoundHead : RequestHead → List ℕ → Found
  FoundPiece : ℕ → List ℕ → Found
  FoundEnd : List ℕ → Found
  FoundNothing : Found
  FoundBad : Found
  FoundMany : Found
  FoundLong : Found

-- a piece of a body of which so much is left, and the end of one, with the bytes from there on
abbrev pub HasPiece : Place → List ℕ → ℕ → List ℕ → Type 0
HasPiece Between bytes left rest = ⊥
HasPiece (Counted n) bytes left rest = (n ≡ left) × (bytes ≡ rest) × (piece_of left rest ≢ [])
HasPiece (Chunked place) bytes left rest = (lines : List ℕ) × (bytes ≡ lines ++ rest) × ReadsLines place lines (Data left) × (piece_of left rest ≢ [])

abbrev pub HasEnd : Place → List ℕ → List ℕ → Type 0
HasEnd Between bytes rest = ⊥
HasEnd (Counted n) bytes rest = (n ≡ 0) × (bytes ≡ rest)
HasEnd (Chunked place) bytes rest = (lines : List ℕ) × (bytes ≡ lines ++ rest) × ReadsLines place lines Over

abbrev pub Holds : Place → List ℕ → Found → Type 0
Holds place bytes (FoundHead h rest) = (place ≡ Between) × IsHead bytes h rest × IsFramed (headers_of h)
Holds place bytes (FoundPiece left rest) = HasPiece place bytes left rest
Holds place bytes (FoundEnd rest) = HasEnd place bytes rest
Holds place bytes FoundNothing = HoldsNoPart place bytes
Holds place bytes FoundBad = IsBad place bytes
Holds place bytes FoundMany = (place ≡ Between) × HasTooManyHeaders bytes
Holds place bytes FoundLong = (place ≡ Between) × IsHeadTooLong bytes × ¬ (NeverHasHead bytes) × ¬ (HasTooManyHeaders bytes)

-- two heads that the same bytes begin with
same_head : (bytes : List ℕ) (h k : RequestHead) (r q : List ℕ) → IsHead bytes h r → IsHead bytes k q → FoundHead h r ≡ FoundHead k q
same_head bytes h k r q x y = let both = request_unique bytes h k r q x.reads y.reads in λ i. FoundHead (both.0 i) (both.1 i)

-- a head isn't malformed but for its framing
head_not_bad : (bytes : List ℕ) (h : RequestHead) (r : List ℕ) → IsHead bytes h r → IsFramed (headers_of h) → ¬ (IsMalformed bytes)
head_not_bad bytes h r is framed malformed = ⊎_elim
    (λ (m : (k : RequestHead) × (q : List ℕ) × IsHead bytes k q × ¬ (IsFramed (headers_of k))).
    let both = request_unique bytes h m.0 r m.1 is.reads m.2.reads in
    m.3 (subst (λ (k : RequestHead). IsFramed (headers_of k)) both.0 framed))
    (λ never. IsHead-not_never bytes h r is never)
    malformed

-- bytes without a head that some may follow aren't malformed
no_head_not_bad : (bytes : List ℕ) → HasNoHead bytes → ¬ (NeverHasHead bytes) → ¬ (IsMalformed bytes)
no_head_not_bad bytes none may malformed = ⊎_elim
    (λ (m : (k : RequestHead) × (q : List ℕ) × IsHead bytes k q × ¬ (IsFramed (headers_of k))). none m.0 m.1 m.2)
    may malformed

between : (bytes : List ℕ) (f g : Found) → Holds Between bytes f → Holds Between bytes g → f ≡ g
between bytes (FoundPiece left rest) g x y = absurd x
between bytes (FoundEnd rest) g x y = absurd x
between bytes (FoundHead h r) (FoundHead k q) x y = same_head bytes h k r q x.1 y.1
between bytes (FoundHead h r) (FoundPiece left rest) x y = absurd y
between bytes (FoundHead h r) (FoundEnd rest) x y = absurd y
between bytes (FoundHead h r) FoundNothing x y = absurd (y.0 h r x.1)
between bytes (FoundHead h r) FoundBad x y = absurd (head_not_bad bytes h r x.1 x.2 y.0)
between bytes (FoundHead h r) FoundMany x y = absurd (IsHead-not_many bytes h r x.1 y.1)
between bytes (FoundHead h r) FoundLong x y = absurd (y.1.1 h r x.1)
between bytes FoundNothing (FoundHead k q) x y = absurd (x.0 k q y.1)
between bytes FoundNothing (FoundPiece left rest) x y = absurd y
between bytes FoundNothing (FoundEnd rest) x y = absurd y
between bytes FoundNothing FoundNothing x y = refl
between bytes FoundNothing FoundBad x y = absurd (no_head_not_bad bytes x.0 x.2 y.0)
between bytes FoundNothing FoundMany x y = absurd (x.3 y.1)
between bytes FoundNothing FoundLong x y = absurd (let less = x.1 in let more = y.1.0 in omega arith)
between bytes FoundBad (FoundHead k q) x y = absurd (head_not_bad bytes k q y.1 y.2 x.0)
between bytes FoundBad (FoundPiece left rest) x y = absurd y
between bytes FoundBad (FoundEnd rest) x y = absurd y
between bytes FoundBad FoundNothing x y = absurd (no_head_not_bad bytes y.0 y.2 x.0)
between bytes FoundBad FoundBad x y = refl
between bytes FoundBad FoundMany x y = absurd (x.1 y.1)
between bytes FoundBad FoundLong x y = absurd (no_head_not_bad bytes y.1.1 y.2 x.0)
between bytes FoundMany (FoundHead k q) x y = absurd (IsHead-not_many bytes k q y.1 x.1)
between bytes FoundMany (FoundPiece left rest) x y = absurd y
between bytes FoundMany (FoundEnd rest) x y = absurd y
between bytes FoundMany FoundNothing x y = absurd (y.3 x.1)
between bytes FoundMany FoundBad x y = absurd (y.1 x.1)
between bytes FoundMany FoundMany x y = refl
between bytes FoundMany FoundLong x y = absurd (y.3 x.1)
between bytes FoundLong (FoundHead k q) x y = absurd (x.1.1 k q y.1)
between bytes FoundLong (FoundPiece left rest) x y = absurd y
between bytes FoundLong (FoundEnd rest) x y = absurd y
between bytes FoundLong FoundNothing x y = absurd (let less = y.1 in let more = x.1.0 in omega arith)
between bytes FoundLong FoundBad x y = absurd (no_head_not_bad bytes x.1.1 x.2 y.0)
between bytes FoundLong FoundMany x y = absurd (x.3 y.1)
between bytes FoundLong FoundLong x y = refl

-- a piece that isn't empty is of something, and of something left
no_piece_of_nothing : (left : ℕ) (bytes : List ℕ) → bytes ≡ [] → ¬ (piece_of left bytes ≢ [])
no_piece_of_nothing left bytes none some =
    some (nil_from_length (piece_of left bytes) (let size = ap length none in omega (arith, length-take (min left MAX_PIECE) bytes)))

no_piece_left : (left : ℕ) (bytes : List ℕ) → left ≡ 0 → ¬ (piece_of left bytes ≢ [])
no_piece_left left bytes none some = some (nil_from_length (piece_of left bytes) (omega (arith, length-take (min left MAX_PIECE) bytes)))

not_counted : (n : ℕ) → Counted n ≢ Between
not_counted n e = cc

not_chunked : (place : ChunkPlace) → Chunked place ≢ Between
not_chunked place e = cc

-- a body by length
counted : (n : ℕ) (bytes : List ℕ) (f g : Found) → Holds (Counted n) bytes f → Holds (Counted n) bytes g → f ≡ g
counted n bytes (FoundHead h r) g x y = absurd (not_counted n x.0)
counted n bytes FoundBad g x y = absurd x
counted n bytes FoundMany g x y = absurd (not_counted n x.0)
counted n bytes FoundLong g x y = absurd (not_counted n x.0)
counted n bytes (FoundPiece left rest) (FoundHead k q) x y = absurd (not_counted n y.0)
counted n bytes (FoundPiece left rest) (FoundPiece other more) x y = λ i. FoundPiece ((sym x.0 ∙ y.0) i) ((sym x.1 ∙ y.1) i)
counted n bytes (FoundPiece left rest) (FoundEnd more) x y = absurd (no_piece_left left rest (sym x.0 ∙ y.0) x.2)
counted n bytes (FoundPiece left rest) FoundNothing x y = absurd (no_piece_of_nothing left rest (sym x.1 ∙ y.1) x.2)
counted n bytes (FoundPiece left rest) FoundBad x y = absurd y
counted n bytes (FoundPiece left rest) FoundMany x y = absurd (not_counted n y.0)
counted n bytes (FoundPiece left rest) FoundLong x y = absurd (not_counted n y.0)
counted n bytes (FoundEnd rest) (FoundHead k q) x y = absurd (not_counted n y.0)
counted n bytes (FoundEnd rest) (FoundPiece other more) x y = absurd (no_piece_left other more (sym y.0 ∙ x.0) y.2)
counted n bytes (FoundEnd rest) (FoundEnd more) x y = ap FoundEnd (sym x.1 ∙ y.1)
counted n bytes (FoundEnd rest) FoundNothing x y = absurd (let some = y.0 in let none = x.0 in omega arith)
counted n bytes (FoundEnd rest) FoundBad x y = absurd y
counted n bytes (FoundEnd rest) FoundMany x y = absurd (not_counted n y.0)
counted n bytes (FoundEnd rest) FoundLong x y = absurd (not_counted n y.0)
counted n bytes FoundNothing (FoundHead k q) x y = absurd (not_counted n y.0)
counted n bytes FoundNothing (FoundPiece other more) x y = absurd (no_piece_of_nothing other more (sym y.1 ∙ x.1) y.2)
counted n bytes FoundNothing (FoundEnd more) x y = absurd (let some = x.0 in let none = y.0 in omega arith)
counted n bytes FoundNothing FoundNothing x y = refl
counted n bytes FoundNothing FoundBad x y = absurd y
counted n bytes FoundNothing FoundMany x y = absurd (not_counted n y.0)
counted n bytes FoundNothing FoundLong x y = absurd (not_counted n y.0)

-- lines go on where they are read on
goes_on : (place : ChunkPlace) (lines : List ℕ) (c : ℕ) (more : List ℕ) → AreLines place (lines ++ c ∷ more) → ¬ (IsStop (place_after place lines))
goes_on place [] c more are = are.0
goes_on place (b ∷ lines) c more are = goes_on (chunk_step place b) lines c more are.1

-- lines that stop are no shorter than others of the same bytes
no_shorter : (place : ChunkPlace) (a e b : List ℕ) → a ++ e ≡ b → AreLines place b → IsStop (place_after place a) → a ≡ b
no_shorter place a [] b same are stop = sym (append-nil a) ∙ same
no_shorter place a (c ∷ e) b same are stop = absurd (goes_on place a c e (subst (AreLines place) (sym same) are) stop)

-- so lines of the same bytes that stop are the same
same_lines : (place : ChunkPlace) (a b r q : List ℕ) → a ++ r ≡ b ++ q → AreLines place a → AreLines place b → IsStop (place_after place a) → IsStop (place_after place b) → a ≡ b
same_lines place a b r q same x y first second = ⊎_elim
    (λ (t : (e : List ℕ) × (a ++ e ≡ b)). no_shorter place a t.0 b t.1 y first)
    (λ (t : (e : List ℕ) × (b ++ e ≡ a)). sym (no_shorter place b t.0 a t.1 x second))
    (fronts a r b q same)

-- where both stop, the places are the same, and what is behind
stops : (place p q : ChunkPlace) (bytes a b r t : List ℕ) → bytes ≡ a ++ r → bytes ≡ b ++ t → ReadsLines place a p → ReadsLines place b q → IsStop p → IsStop q → (p ≡ q) × (r ≡ t)
stops place p q bytes a b r t first second x y here there =
    let same : a ≡ b = same_lines place a b r t (sym first ∙ second) x.are_lines y.are_lines (subst IsStop (sym x.arrives) here) (subst IsStop (sym y.arrives) there) in (
      sym x.arrives ∙ (ap (place_after place) same ∙ y.arrives),
      append_cancel_left b r t (ap (λ (u : List ℕ). u ++ r) (sym same) ∙ (sym first ∙ second)),
    )

-- where the lines of all bytes stop nowhere before their end, they stop there or not at all
all_lines : (place p q : ChunkPlace) (bytes a r : List ℕ) → bytes ≡ a ++ r → ReadsLines place a p → IsStop p → ReadsLines place bytes q → (r ≡ []) × (p ≡ q)
all_lines place p q bytes a r first x stop y =
    let same : a ≡ bytes = no_shorter place a r bytes (sym first) y.are_lines (subst IsStop (sym x.arrives) stop) in (
      append_cancel_left a r [] (sym first ∙ (sym same ∙ sym (append-nil a))),
      sym x.arrives ∙ (ap (place_after place) same ∙ y.arrives),
    )

chunked : (place : ChunkPlace) (bytes : List ℕ) (f g : Found) → Holds (Chunked place) bytes f → Holds (Chunked place) bytes g → f ≡ g
chunked place bytes (FoundHead h r) g x y = absurd (not_chunked place x.0)
chunked place bytes FoundMany g x y = absurd (not_chunked place x.0)
chunked place bytes FoundLong g x y = absurd (not_chunked place x.0)
chunked place bytes (FoundPiece left rest) (FoundHead k q) x y = absurd (not_chunked place y.0)
chunked place bytes (FoundPiece left rest) (FoundPiece other more) x y =
    let both = stops place (Data left) (Data other) bytes x.0 y.0 rest more x.1 y.1 x.2 y.2 tt tt in
    let same : left ≡ other = (let e = both.0 in cc) in
    λ i. FoundPiece (same i) (both.1 i)
chunked place bytes (FoundPiece left rest) (FoundEnd more) x y = absurd (let both = stops place (Data left) Over bytes x.0 y.0 rest more x.1 y.1 x.2 y.2 tt tt in let e = both.0 in cc)
chunked place bytes (FoundPiece left rest) FoundNothing x y = absurd (no_piece_of_nothing left rest (all_lines place (Data left) y.0 bytes x.0 rest x.1 x.2 tt y.1).0 x.3)
chunked place bytes (FoundPiece left rest) FoundBad x y = absurd (let both = stops place (Data left) BadBody bytes x.0 y.0 rest y.1 x.1 y.2 x.2 y.3 tt tt in let e = both.0 in cc)
chunked place bytes (FoundPiece left rest) FoundMany x y = absurd (not_chunked place y.0)
chunked place bytes (FoundPiece left rest) FoundLong x y = absurd (not_chunked place y.0)
chunked place bytes (FoundEnd rest) (FoundHead k q) x y = absurd (not_chunked place y.0)
chunked place bytes (FoundEnd rest) (FoundPiece other more) x y = absurd (let both = stops place Over (Data other) bytes x.0 y.0 rest more x.1 y.1 x.2 y.2 tt tt in let e = both.0 in cc)
chunked place bytes (FoundEnd rest) (FoundEnd more) x y = ap FoundEnd (stops place Over Over bytes x.0 y.0 rest more x.1 y.1 x.2 y.2 tt tt).1
chunked place bytes (FoundEnd rest) FoundNothing x y = absurd (y.2 (sym (all_lines place Over y.0 bytes x.0 rest x.1 x.2 tt y.1).1))
chunked place bytes (FoundEnd rest) FoundBad x y = absurd (let both = stops place Over BadBody bytes x.0 y.0 rest y.1 x.1 y.2 x.2 y.3 tt tt in let e = both.0 in cc)
chunked place bytes (FoundEnd rest) FoundMany x y = absurd (not_chunked place y.0)
chunked place bytes (FoundEnd rest) FoundLong x y = absurd (not_chunked place y.0)
chunked place bytes FoundNothing (FoundHead k q) x y = absurd (not_chunked place y.0)
chunked place bytes FoundNothing (FoundPiece other more) x y = absurd (no_piece_of_nothing other more (all_lines place (Data other) x.0 bytes y.0 more y.1 y.2 tt x.1).0 y.3)
chunked place bytes FoundNothing (FoundEnd more) x y = absurd (x.2 (sym (all_lines place Over x.0 bytes y.0 more y.1 y.2 tt x.1).1))
chunked place bytes FoundNothing FoundNothing x y = refl
chunked place bytes FoundNothing FoundBad x y = absurd (x.3 (sym (all_lines place BadBody x.0 bytes y.0 y.1 y.2 y.3 tt x.1).1))
chunked place bytes FoundNothing FoundMany x y = absurd (not_chunked place y.0)
chunked place bytes FoundNothing FoundLong x y = absurd (not_chunked place y.0)
chunked place bytes FoundBad (FoundHead k q) x y = absurd (not_chunked place y.0)
chunked place bytes FoundBad (FoundPiece other more) x y = absurd (let both = stops place BadBody (Data other) bytes x.0 y.0 x.1 more x.2 y.1 x.3 y.2 tt tt in let e = both.0 in cc)
chunked place bytes FoundBad (FoundEnd more) x y = absurd (let both = stops place BadBody Over bytes x.0 y.0 x.1 more x.2 y.1 x.3 y.2 tt tt in let e = both.0 in cc)
chunked place bytes FoundBad FoundNothing x y = absurd (y.3 (sym (all_lines place BadBody y.0 bytes x.0 x.1 x.2 x.3 tt y.1).1))
chunked place bytes FoundBad FoundBad x y = refl
chunked place bytes FoundBad FoundMany x y = absurd (not_chunked place y.0)
chunked place bytes FoundBad FoundLong x y = absurd (not_chunked place y.0)

one_found : (place : Place) (bytes : List ℕ) (f g : Found) → Holds place bytes f → Holds place bytes g → f ≡ g
one_found Between bytes f g x y = between bytes f g x y
one_found (Counted n) bytes f g x y = counted n bytes f g x y
one_found (Chunked place) bytes f g x y = chunked place bytes f g x y

-- the place behind a piece
abbrev pub place_behind : Place → ℕ → List ℕ → Place
place_behind Between left rest = Between
place_behind (Counted n) left rest = Counted (left - length (piece_of left rest))
place_behind (Chunked place) left rest = Chunked (place_after (Data left) (piece_of left rest))

-- what is answered where this is found, and how the session stands behind it
abbrev pub Says : Standing → Found → Result Part HttpFault → Standing → Type 0
Says s (FoundHead h rest) r s' = (told : Head) × IsToldOf h told × (r ≡ Ok (HeadPart told)) × (s' ≡ record { place = body_place told.length; body = []; waiting = rest; closed = s.closed })
Says s (FoundPiece left rest) r s' = (r ≡ Ok Body) × (s' ≡ record { place = place_behind s.place left rest; body = piece_of left rest; waiting = drop (min left MAX_PIECE) rest; closed = s.closed })
Says s (FoundEnd rest) r s' = (r ≡ Ok BodyEnd) × (s' ≡ record { place = Between; body = []; waiting = rest; closed = s.closed })
Says s FoundNothing r s' = ((s.closed ≡ false) × (r ≡ Ok NeedInput) × (s' ≡ read_through s.place s))
    ⊎ (((s.closed ≡ true) × (s.place ≡ Between) × (s.waiting ≡ []) × (r ≡ Ok InputEnd) × (s' ≡ at_rest s))
    ⊎ ((s.closed ≡ true) × ((s.place ≡ Between) → (s.waiting ≢ [])) × (r ≡ Err Cut) × (s' ≡ at_rest s)))
Says s FoundBad r s' = (r ≡ Err Bad) × (s' ≡ at_rest s)
Says s FoundMany r s' = (r ≡ Err TooManyHeaders) × (s' ≡ at_rest s)
Says s FoundLong r s' = (r ≡ Err HeadTooLong) × (s' ≡ at_rest s)

-- the same is told of one head
told_length : (headers : List (List ℕ × List ℕ)) (a b : Option ℕ) → MatchOption a (IsChunked headers) (HasLength headers) → MatchOption b (IsChunked headers) (HasLength headers) → a ≡ b
told_length headers None None x y = refl
told_length headers None (Some n) x y = absurd (HasLength-not_chunked headers n y x)
told_length headers (Some n) None x y = absurd (HasLength-not_chunked headers n x y)
told_length headers (Some n) (Some m) x y = ap Some (HasLength-unique headers n m x y)

one_told : (h : RequestHead) (a b : Head) → IsToldOf h a → IsToldOf h b → a ≡ b
one_told h a b x y =
    let method : a.method ≡ b.method = x.method ∙ sym y.method in
    let target : a.target ≡ b.target = x.target ∙ sym y.target in
    let content_type : a.content_type ≡ b.content_type = x.content_type ∙ sym y.content_type in
    let content_range : a.content_range ≡ b.content_range = x.content_range ∙ sym y.content_range in
    let long : a.length ≡ b.length = told_length (headers_of h) a.length b.length x.length y.length in
    let close : a.close ≡ b.close = x.close ∙ sym y.close in
    λ i. record { method = method i; target = target i; content_type = content_type i; content_range = content_range i; length = long i; close = close i }

-- there is one answer where nothing is found
one_waiting : (s : Standing) (r q : Result Part HttpFault) (s' t' : Standing) → Says s FoundNothing r s' → Says s FoundNothing q t' → (r ≡ q) × (s' ≡ t')
one_waiting s r q s' t' x y = ⊎_elim
    (λ a. ⊎_elim
    (λ b. (a.1 ∙ sym b.1, a.2 ∙ sym b.2))
    (λ later. ⊎_elim (λ b. absurd (true≢false (sym b.0 ∙ a.0))) (λ b. absurd (true≢false (sym b.0 ∙ a.0))) later)
    y)
    (λ sooner. ⊎_elim
    (λ a. ⊎_elim
    (λ b. absurd (true≢false (sym a.0 ∙ b.0)))
    (λ later. ⊎_elim (λ b. (a.3 ∙ sym b.3, a.4 ∙ sym b.4)) (λ b. absurd (b.1 a.1 a.2)) later)
    y)
    (λ a. ⊎_elim
    (λ b. absurd (true≢false (sym a.0 ∙ b.0)))
    (λ later. ⊎_elim (λ b. absurd (a.1 b.1 b.2)) (λ b. (a.2 ∙ sym b.2, a.3 ∙ sym b.3)) later)
    y)
    sooner)
    x

one_answer : (s : Standing) (f : Found) (r q : Result Part HttpFault) (s' t' : Standing) → Says s f r s' → Says s f q t' → (r ≡ q) × (s' ≡ t')
one_answer s (FoundHead h rest) r q s' t' x y =
    let told : x.0 ≡ y.0 = one_told h x.0 y.0 x.1 y.1 in (
      x.2 ∙ (ap (λ (t : Head). Ok (HeadPart t)) told ∙ sym y.2),
      x.3 ∙ ((λ i. record { place = body_place (told i).length; body = []; waiting = rest; closed = s.closed }) ∙ sym y.3),
    )
one_answer s (FoundPiece left rest) r q s' t' x y = (x.0 ∙ sym y.0, x.1 ∙ sym y.1)
one_answer s (FoundEnd rest) r q s' t' x y = (x.0 ∙ sym y.0, x.1 ∙ sym y.1)
one_answer s FoundNothing r q s' t' x y = one_waiting s r q s' t' x y
one_answer s FoundBad r q s' t' x y = (x.0 ∙ sym y.0, x.1 ∙ sym y.1)
one_answer s FoundMany r q s' t' x y = (x.0 ∙ sym y.0, x.1 ∙ sym y.1)
one_answer s FoundLong r q s' t' x y = (x.0 ∙ sym y.0, x.1 ∙ sym y.1)

-- what is found where this is answered
abbrev pub Founds : Standing → Result Part HttpFault → Standing → Type 0
Founds s r s' = (f : Found) × Holds s.place s.waiting f × Says s f r s'

body_found : (place : Place) (s s' : Standing) → s.place ≡ place → GivesBody place s s' → Founds s (Ok Body) s'
body_found Between s s' at gives = absurd gives
body_found (Counted left) s s' at gives =
    let some : piece_of left s.waiting ≢ [] = λ none. gives.some (ap (λ (t : Standing). t.body) gives.after ∙ none) in (
      FoundPiece left s.waiting,
      subst (λ (p : Place). HasPiece p s.waiting left s.waiting) (sym at) (refl, refl, some),
      (refl, gives.after ∙ (λ i. record { place = place_behind (sym at i) left s.waiting; body = piece_of left s.waiting; waiting = drop (min left MAX_PIECE) s.waiting; closed = s.closed })),
    )
body_found (Chunked place) s s' at gives =
    let some : piece_of gives.left gives.rest ≢ [] = λ none. gives.some (ap (λ (t : Standing). t.body) gives.after ∙ none) in (
      FoundPiece gives.left gives.rest,
      subst (λ (p : Place). HasPiece p s.waiting gives.left gives.rest) (sym at) (gives.lines, gives.text, gives.reads, some),
      (refl, gives.after ∙ (λ i. record { place = place_behind (sym at i) gives.left gives.rest; body = piece_of gives.left gives.rest; waiting = drop (min gives.left MAX_PIECE) gives.rest; closed = s.closed })),
    )

end_found : (place : Place) (s s' : Standing) → s.place ≡ place → EndsBody place s s' → Founds s (Ok BodyEnd) s'
end_found Between s s' at ends = absurd ends
end_found (Counted left) s s' at ends = (FoundEnd s.waiting, subst (λ (p : Place). HasEnd p s.waiting s.waiting) (sym at) (ends.0, refl), (refl, ends.1))
end_found (Chunked place) s s' at ends = (FoundEnd s'.waiting, subst (λ (p : Place). HasEnd p s.waiting s'.waiting) (sym at) (ends.lines, ends.text, ends.reads), (refl, ends.after))

found : (s : Standing) (r : Result Part HttpFault) (s' : Standing) → Gives s r s' → r ≢ Err Memory → Founds s r s'
found s (Ok (HeadPart told)) s' gives known = (FoundHead gives.head s'.waiting, (gives.at, gives.is_head, gives.framed), (told, gives.is_told, refl, gives.after))
found s (Ok Body) s' gives known = body_found s.place s s' refl gives
found s (Ok BodyEnd) s' gives known = end_found s.place s s' refl gives
found s (Ok NeedInput) s' gives known = (FoundNothing, gives.1, inl (gives.0, refl, gives.2))
found s (Ok InputEnd) s' gives known = (FoundNothing, gives.1, inr (inl (gives.0, gives.2, gives.3, refl, gives.4)))
found s (Err Cut) s' gives known = (FoundNothing, gives.2, inr (inr (gives.0, gives.1, refl, gives.3)))
found s (Err Bad) s' gives known = (FoundBad, gives.0, (refl, gives.1))
found s (Err TooManyHeaders) s' gives known = (FoundMany, (gives.0, gives.1), (refl, gives.2))
found s (Err HeadTooLong) s' gives known = (FoundLong, (gives.0, gives.1, gives.2, gives.3), (refl, gives.4))
found s (Err Memory) s' gives known = absurd (known refl)

pub Gives-unique : (s : Standing) (r q : Result Part HttpFault) (s' t' : Standing) → Gives s r s' → Gives s q t' → r ≢ Err Memory → q ≢ Err Memory → (r ≡ q) × (s' ≡ t')
Gives-unique s r q s' t' x y no_r no_q =
    let first = found s r s' x no_r in
    let second = found s q t' y no_q in
    let same : first.0 ≡ second.0 = one_found s.place s.waiting first.0 second.0 first.1 second.1 in
    one_answer s second.0 r q s' t' (subst (λ (f : Found). Says s f r s') same first.2) second.2
