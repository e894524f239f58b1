-- What the next part of a connection's requests is, where it stands.
use Rattle.std.specs.Prelude.{◌≡◌, ◌≢◌, ◌<◌, ◌-◌, min, ℕ, true, false, List, [], ◌∷◌, ◌++◌, length, take, drop, codes, Option, Some, None, Result, Ok, Err, MatchOption}
use Rattle.httparse.specs.Grammar.{RequestHead}
use Rattle.hb_http.specs.ChunkPlaces.{AreLines, body_start, place_after}
use Rattle.hb_http.specs.Framing.{HasLength, IsChunked, IsFramed, asks_to_close}
use Rattle.hb_http.specs.Headers.{headers_of, values_of}
use Rattle.hb_http.specs.Heads.{IsHead, HasNoHead, IsMalformed, NeverHasHead, HasTooManyHeaders, IsHeadTooLong}
use Rattle.hb_http.specs.Standing.{Standing, at_rest}
use Rattle.hb_http.specs.declared.TheConstants.{MAX_HEAD, MAX_PIECE}
use Rattle.hb_http.specs.declared.chunk_places.ChunkPlace.{ChunkPlace}
use Rattle.hb_http.specs.declared.chunk_places.ChunkPlace.TheVariants.{Data, Over, Bad as BadBody}
use Rattle.hb_http.specs.declared.parts.Head.{Head}
use Rattle.hb_http.specs.declared.parts.Part.{Part}
use Rattle.hb_http.specs.declared.parts.Part.TheVariants.{NeedInput, Head as HeadPart, Body, BodyEnd, InputEnd}
use Rattle.hb_http.specs.declared.parts.HttpFault.{HttpFault}
use Rattle.hb_http.specs.declared.parts.HttpFault.TheVariants.{Bad, HeadTooLong, TooManyHeaders, Cut, Memory}
use Rattle.hb_http.specs.declared.places.Place.{Place}
use Rattle.hb_http.specs.declared.places.Place.TheVariants.{Between, Counted, Chunked}

abbrev pub first_of : List (List ℕ) → Option (List ℕ)
first_of [] = None
first_of (value ∷ values) = Some value

-- what is told of this head
pub record IsToldOf (h : RequestHead) (told : Head) : Type 0 where
  pub method : told.method ≡ h.method
  pub target : told.target ≡ h.target
  pub content_type : told.content_type ≡ first_of (values_of (codes "content-type") (headers_of h))
  pub content_range : told.content_range ≡ first_of (values_of (codes "content-range") (headers_of h))
  pub length : MatchOption told.length (IsChunked (headers_of h)) (HasLength (headers_of h))
  pub close : told.close ≡ asks_to_close h

-- where its body begins
abbrev pub body_place : Option ℕ → Place
body_place None = Chunked body_start
body_place (Some n) = Counted n

-- A head: the bytes that wait begin with one that says where its body ends. What is behind it waits.
pub record GivesHead (s : Standing) (told : Head) (s' : Standing) : Type 0 where
  pub at : s.place ≡ Between
  pub head : RequestHead
  pub is_head : IsHead s.waiting head s'.waiting
  pub framed : IsFramed (headers_of head)
  pub is_told : IsToldOf head told
  pub after : s' ≡ record { place = body_place told.length; body = []; waiting = s'.waiting; closed = s.closed }

-- the next piece of a body of which so much is left
abbrev pub piece_of : ℕ → List ℕ → List ℕ
piece_of left bytes = take (min left MAX_PIECE) bytes

-- A piece of a body by length: the next bytes that wait.
pub record GivesCounted (left : ℕ) (s s' : Standing) : Type 0 where
  pub some : s'.body ≢ []
  pub after : s' ≡ record {
    place = Counted (left - length (piece_of left s.waiting));
    body = piece_of left s.waiting;
    waiting = drop (min left MAX_PIECE) s.waiting;
    closed = s.closed;
  }

-- Lines of a body in chunks, without data, and the place behind them.
pub record ReadsLines (place : ChunkPlace) (lines : List ℕ) (behind : ChunkPlace) : Type 0 where
  pub arrives : place_after place lines ≡ behind
  pub are_lines : AreLines place lines

-- A piece of a body in chunks: what waits of the next chunk's data, behind lines.
pub record GivesChunked (place : ChunkPlace) (s s' : Standing) : Type 0 where
  pub lines : List ℕ
  pub rest : List ℕ
  pub left : ℕ
  pub text : s.waiting ≡ lines ++ rest
  pub reads : ReadsLines place lines (Data left)
  pub some : s'.body ≢ []
  pub after : s' ≡ record {
    place = Chunked (place_after (Data left) (piece_of left rest));
    body = piece_of left rest;
    waiting = drop (min left MAX_PIECE) rest;
    closed = s.closed;
  }

abbrev pub GivesBody : Place → Standing → Standing → Type 0
GivesBody Between s s' = ⊥
GivesBody (Counted left) s s' = GivesCounted left s s'
GivesBody (Chunked place) s s' = GivesChunked place s s'

-- The end of a body in chunks, behind lines.
pub record EndsChunked (place : ChunkPlace) (s s' : Standing) : Type 0 where
  pub lines : List ℕ
  pub text : s.waiting ≡ lines ++ s'.waiting
  pub reads : ReadsLines place lines Over
  pub after : s' ≡ record { place = Between; body = []; waiting = s'.waiting; closed = s.closed }

abbrev pub EndsBody : Place → Standing → Standing → Type 0
EndsBody Between s s' = ⊥
EndsBody (Counted left) s s' = (left ≡ 0) × (s' ≡ record { place = Between; body = []; waiting = s.waiting; closed = s.closed })
EndsBody (Chunked place) s s' = EndsChunked place s s'

-- no request ever begins with these bytes, or none that continues them is a whole body
abbrev pub IsBad : Place → List ℕ → Type 0
IsBad Between bytes = IsMalformed bytes × ¬ (HasTooManyHeaders bytes)
IsBad (Counted left) bytes = ⊥
IsBad (Chunked place) bytes = (lines rest : List ℕ) × (bytes ≡ lines ++ rest) × ReadsLines place lines BadBody

-- the bytes hold no further part, and some may follow that do
abbrev pub HoldsNoPart : Place → List ℕ → Type 0
HoldsNoPart Between bytes = HasNoHead bytes × (length bytes < MAX_HEAD) × ¬ (NeverHasHead bytes) × ¬ (HasTooManyHeaders bytes)
HoldsNoPart (Counted left) bytes = (0 < left) × (bytes ≡ [])
HoldsNoPart (Chunked place) bytes = (behind : ChunkPlace) × ReadsLines place bytes behind × (behind ≢ Over) × (behind ≢ BadBody)

-- lines of a body in chunks are taken as they come
abbrev pub read_through : Place → Standing → Standing
read_through (Chunked place) s = record { place = Chunked (place_after place s.waiting); body = []; waiting = []; closed = s.closed }
read_through place s = at_rest s

-- the next part, or why there is none, and how the session stands behind it
abbrev pub Gives : Standing → Result Part HttpFault → Standing → Type 0
Gives s (Ok (HeadPart told)) s' = GivesHead s told s'
Gives s (Ok Body) s' = GivesBody s.place s s'
Gives s (Ok BodyEnd) s' = EndsBody s.place s s'
Gives s (Ok NeedInput) s' = (s.closed ≡ false) × HoldsNoPart s.place s.waiting × (s' ≡ read_through s.place s)
Gives s (Ok InputEnd) s' = (s.closed ≡ true) × HoldsNoPart s.place s.waiting × (s.place ≡ Between) × (s.waiting ≡ []) × (s' ≡ at_rest s)
Gives s (Err Cut) s' = (s.closed ≡ true) × ((s.place ≡ Between) → (s.waiting ≢ [])) × HoldsNoPart s.place s.waiting × (s' ≡ at_rest s)
Gives s (Err Bad) s' = IsBad s.place s.waiting × (s' ≡ at_rest s)
Gives s (Err TooManyHeaders) s' = (s.place ≡ Between) × HasTooManyHeaders s.waiting × (s' ≡ at_rest s)
Gives s (Err HeadTooLong) s' = (s.place ≡ Between) × IsHeadTooLong s.waiting × ¬ (NeverHasHead s.waiting) × ¬ (HasTooManyHeaders s.waiting) × (s' ≡ at_rest s)
Gives s (Err Memory) s' = s' ≡ at_rest s
