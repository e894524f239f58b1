-- What the parts that were given of a connection say of the bytes that were taken.
use Rattle.std.specs.Prelude.{◌≡◌, ◌≢◌, ◌+◌, ◌⊎◌, ℕ, List, [], ◌∷◌, ◌++◌, length, Option, Some, None, Result, Ok}
use Rattle.httparse.specs.Grammar.{RequestHead}
use Rattle.hb_http.specs.ChunkPlaces.{body_start, data_after, place_after}
use Rattle.hb_http.specs.Chunks.{IsChunkedBody}
use Rattle.hb_http.specs.Framing.{HasLength, IsChunked}
use Rattle.hb_http.specs.Headers.{headers_of}
use Rattle.hb_http.specs.Heads.{IsHead}
use Rattle.hb_http.specs.Parts.{IsToldOf}
use Rattle.hb_http.specs.Requests.{IsRequest, Request}
use Rattle.hb_http.specs.Standing.{Standing}
use Rattle.hb_http.specs.declared.chunk_places.ChunkPlace.{ChunkPlace}
use Rattle.hb_http.specs.declared.chunk_places.ChunkPlace.TheVariants.{Over, Bad as BadBody}
use Rattle.hb_http.specs.declared.parts.Part.{Part}
use Rattle.hb_http.specs.declared.parts.Part.TheVariants.{Head as HeadPart, Body, BodyEnd}
use Rattle.hb_http.specs.declared.parts.HttpFault.{HttpFault}
use Rattle.hb_http.specs.declared.places.Place.{Place}
use Rattle.hb_http.specs.declared.places.Place.TheVariants.{Between, Counted, Chunked}

-- what was given of a request: its head, and its data so far, the pieces joined
pub record Given : Type 0 where
  pub head : RequestHead
  pub content : List ℕ

-- the bytes are the body of this head, and this is its data
abbrev pub IsBodyOf : RequestHead → List ℕ → List ℕ → Type 0
IsBodyOf h body content = (HasLength (headers_of h) (length body) × (body ≡ content)) ⊎ (IsChunked (headers_of h) × IsChunkedBody body content)

-- the bytes are a body of this head
abbrev pub IsBodyText : RequestHead → List ℕ → Type 0
IsBodyText h body = (content : List ℕ) × IsBodyOf h body content

-- the text is this request: its head, and a body with its data
pub record IsWhole (g : Given) (text : List ℕ) : Type 0 where
  pub body : List ℕ
  pub is_head : IsHead text g.head body
  pub is_body : IsBodyOf g.head body g.content

-- the bytes are these requests, one behind another
abbrev pub AreWhole : List Given → List ℕ → Type 0
AreWhole [] bytes = bytes ≡ []
AreWhole (g ∷ gs) bytes = (text rest : List ℕ) × (bytes ≡ text ++ rest) × IsWhole g text × AreWhole gs rest

-- the text begins a request whose body comes in chunks, up to this place in it
pub record IsBegunInChunks (place : ChunkPlace) (g : Given) (text : List ℕ) : Type 0 where
  pub begun : List ℕ
  pub is_head : IsHead text g.head begun
  pub chunked : IsChunked (headers_of g.head)
  pub arrives : place_after body_start begun ≡ place
  pub content : data_after body_start begun ≡ g.content
  pub not_over : place ≢ Over
  pub not_bad : place ≢ BadBody

-- the text begins this request and ends where the session stands; between requests there is none
abbrev pub IsBegun : Place → Option Given → List ℕ → Type 0
IsBegun Between None text = text ≡ []
IsBegun Between (Some g) text = ⊥
IsBegun place None text = ⊥
IsBegun (Counted left) (Some g) text = IsHead text g.head g.content × HasLength (headers_of g.head) (length g.content + left)
IsBegun (Chunked place) (Some g) text = IsBegunInChunks place g text

-- The bytes that were taken are the requests that were given to their end, and the beginning of the one
-- that was begun.
pub record HasRead (done : List Given) (now : Option Given) (taken : List ℕ) (place : Place) : Type 0 where
  pub whole : List ℕ
  pub begun : List ℕ
  pub text : taken ≡ whole ++ begun
  pub are_whole : AreWhole done whole
  pub is_begun : IsBegun place now begun

-- all requests of which something was given
abbrev pub all_given : List Given → Option Given → List Given
all_given done None = done
all_given done (Some g) = done ++ g ∷ []

-- what was given, with one part more: a head begins a request, a piece adds to its data, and the end of
-- the body ends it
abbrev pub Follows : Result Part HttpFault → List ℕ → List Given → Option Given → List Given → Option Given → Type 0
Follows (Ok (HeadPart told)) piece done now done' now' = (now ≡ None) × (done' ≡ done) × (h : RequestHead) × IsToldOf h told × (now' ≡ Some (record { head = h; content = [] }))
Follows (Ok Body) piece done now done' now' = (g : Given) × (now ≡ Some g) × (done' ≡ done) × (now' ≡ Some (record { head = g.head; content = g.content ++ piece }))
Follows (Ok BodyEnd) piece done now done' now' = (g : Given) × (now ≡ Some g) × (done' ≡ done ++ g ∷ []) × (now' ≡ None)
Follows result piece done now done' now' = (done' ≡ done) × (now' ≡ now)

-- A call that took these bytes from those that waited: what had been given before and what was given
-- then say together what the bytes taken before and then are.
pub record ReadsOn (done : List Given) (now : Option Given) (taken : List ℕ) (s : Standing) (result : Result Part HttpFault) (s' : Standing) : Type 0 where
  pub gone : List ℕ
  pub done' : List Given
  pub now' : Option Given
  pub text : s.waiting ≡ gone ++ s'.waiting
  pub follows : Follows result s'.body done now done' now'
  pub reads : HasRead done' now' (taken ++ gone) s'.place

-- One by one, these are requests of the bytes, each with the head and the data that were given. IsBody says which bytes
-- behind a head are its body, and what their data is.
abbrev pub AreRequests : (IsBody : RequestHead → List ℕ → List ℕ → Type 0) → List Given → List Request → Type 0
AreRequests IsBody [] [] = Unit {0}
AreRequests IsBody [] (r ∷ rs) = ⊥
AreRequests IsBody (g ∷ gs) [] = ⊥
AreRequests IsBody (g ∷ gs) (r ∷ rs) = ((r.head ≡ g.head) × IsBody g.head r.body g.content × IsRequest (λ h body. (content : List ℕ) × IsBody h body content) r) × AreRequests IsBody gs rs
