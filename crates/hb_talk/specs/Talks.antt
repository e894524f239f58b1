-- A talk over one connection: what was read, what was done at the desk, and what was written.
use Rattle.std.specs.Prelude.{◌≡◌, ◌≢◌, ◌≤◌, ◌^◌, ◌⊎◌, ℕ, Bool, true, false, List, [], ◌∷◌, ◌++◌, length, Option, Some, None, codes}
use Rattle.std.specs.List.{AllByRecursion, flat_map}
use Rattle.hb_outside.specs.Streams.{Gives, Writes, WritesPart}
use Rattle.httparse.specs.Grammar.{RequestHead}
use Rattle.hb_http.specs.ChunkPlaces.{body_start, place_after}
use Rattle.hb_http.specs.Framing.{IsChunked}
use Rattle.hb_http.specs.Headers.{headers_of}
use Rattle.hb_http.specs.Heads.{HasTooManyHeaders, IsHead, IsHeadTooLong, IsMalformed}
use Rattle.hb_http.specs.Readings.{Given}
use Rattle.hb_http.specs.Requests.{HasNoRequest, IsRequest, Request, RequestsOf, request_text}
use Rattle.hb_http.specs.declared.chunk_places.ChunkPlace.TheVariants.{Bad as BadBody}
use Rattle.hb_desk.specs.Chains.{Chain}
use Rattle.hb_desk.specs.Points.{Point}
use Rattle.hb_desk.specs.ClockedDesks.{ClockedDesk}
use Rattle.hb_desk.specs.declared.refusals.Refusal.{Refusal}
use Rattle.hb_ops.specs.Errors.{ErrorForm, error_answer, plain}
use Rattle.hb_talk.specs.Bodies.{AreRead, Closes, IsReadText}
use Rattle.hb_talk.specs.Texts.{answer_text}
use Rattle.hb_talk.specs.Turns.{Answers, ClosesBy, LeavesUnanswered, Turn, given_by, points_of, turns_text}
use Rattle.hb_talk.specs.declared.ends.TalkEnd.{TalkEnd}
use Rattle.hb_talk.specs.declared.ends.TalkEnd.TheVariants.{Closed, Cut, Bad, Long, ReadFault, WriteFault, Memory}

-- what desk, clock and devices tell at a moment: the desk's view with the clock's readings from then on, what the source has
-- left and whether it has ended, and what the sink holds
pub record Moment : Type 0 where
  pub desk : ClockedDesk
  pub left : Option (List ℕ)
  pub ended : Bool
  pub held : Option (List ℕ)

abbrev pub now_of : ClockedDesk → Option (List ℕ) → Bool → Option (List ℕ) → Moment
now_of desk left ended held = record { desk = desk; left = left; ended = ended; held = held }

-- the bytes are these whole requests and then the rest
pub record BeginWith (bytes : List ℕ) (requests : List Request) (rest : List ℕ) : Type 0 where
  pub text : bytes ≡ flat_map request_text requests ++ rest
  pub each : AllByRecursion (IsRequest IsReadText) requests

-- All whole requests of the bytes were answered, up to the first that closes; or, where the sink failed or memory was
-- wanting, those at their front.
abbrev pub Reads : TalkEnd → List ℕ → List Request → List ℕ → Type 0
Reads WriteFault taken requests rest = BeginWith taken requests rest
Reads Memory taken requests rest = BeginWith taken requests rest
Reads end taken requests rest = RequestsOf IsReadText Closes taken requests rest

-- the answers, and then the refusal where there is one
abbrev pub with_refusal : List ℕ → Option (List ℕ) → List ℕ
with_refusal answers None = answers
with_refusal answers (Some text) = answers ++ text

-- all answers were written, and a front part of the refusal; or where there is none, all answers but the last, and a front part
-- of that
abbrev pub BreaksOff : Option (List ℕ) → Option (List ℕ) → List Turn → Option (List ℕ) → Type 0
BreaksOff held now turns (Some text) = (between : Option (List ℕ)) × Writes held between (turns_text turns) × WritesPart between now text
BreaksOff held now turns None = (before : List Turn) × (last : Turn) × (turns ≡ before ++ last ∷ []) × (between : Option (List ℕ)) × Writes held between (turns_text before) × WritesPart between now (answer_text last.closes last.answer)

-- the answers of the turns were written, and the refusal; where the sink failed, up to the one that it broke off
abbrev pub Wrote : TalkEnd → Option (List ℕ) → Option (List ℕ) → List Turn → Option (List ℕ) → Type 0
Wrote WriteFault held now turns refusal = BreaksOff held now turns refusal
Wrote end held now turns refusal = Writes held now (with_refusal (turns_text turns) refusal)

-- each of the turns left the connection open
abbrev pub AreOpen : List Turn → Type 0
AreOpen = AllByRecursion (λ t. t.closes ≡ false)

-- no turn stands behind one that closed
abbrev pub GoOn : List Turn → Type 0
GoOn [] = Unit {0}
GoOn (t ∷ []) = Unit {0}
GoOn (t ∷ next ∷ turns) = (t.closes ≡ false) × GoOn (next ∷ turns)

-- the last of the turns closed
abbrev pub LastCloses : List Turn → Type 0
LastCloses turns = (before : List Turn) × (last : Turn) × (turns ≡ before ++ last ∷ []) × (last.closes ≡ true)

-- a body in chunks that nothing behind it makes whole: the bytes at its front lead to no place in a body
abbrev pub IsBadBody : List ℕ → Type 0
IsBadBody body = (front rest : List ℕ) × (body ≡ front ++ rest) × (place_after body_start front ≡ BadBody)

-- said of bytes that begin with no whole request: their head is malformed, or their body in chunks
abbrev pub IsMalformedRest : List ℕ → Type 0
IsMalformedRest bytes = IsMalformed bytes ⊎ ((h : RequestHead) × (body : List ℕ) × IsHead bytes h body × IsChunked (headers_of h) × IsBadBody body)

-- their head is above its limits
abbrev pub IsOverLimits : List ℕ → Type 0
IsOverLimits bytes = HasTooManyHeaders bytes ⊎ IsHeadTooLong bytes

-- the bytes call for no refusal: they may be the beginning of a request
pub record IsOpen (bytes : List ℕ) : Type 0 where
  pub formed : ¬ (IsMalformedRest bytes)
  pub within : ¬ (IsOverLimits bytes)

-- More is wanted behind the bytes: they are whole requests, none of which closes, and what may be the beginning of one.
pub record WantsMore (bytes : List ℕ) : Type 0 where
  pub requests : List Request
  pub rest : List ℕ
  pub reads : RequestsOf IsReadText Closes bytes requests rest
  pub stays : AllByRecursion (λ r. IsRequest IsReadText r × ¬ (Closes r.head r.body)) requests
  pub may : IsOpen rest

-- The last piece was read because the bytes before it wanted more: so nothing is read behind a request that closes, or bytes that
-- are refused, but what came in one piece with them, of at most 65,536 bytes.
abbrev pub ReadNoFurther : List ℕ → Type 0
ReadNoFurther taken = (taken ≡ []) ⊎ ((front piece : List ℕ) × (taken ≡ front ++ piece) × (length piece ≤ 65536) × WantsMore front)

-- 400 for malformed bytes, and 431 for a head above its limits (RFC 6585, section 5)
abbrev pub bad_head : ErrorForm
bad_head = plain 400 (codes "HEAD_INVALID")

abbrev pub long_head : ErrorForm
long_head = plain 431 (codes "HEAD_INVALID")

-- so many headers count before what is malformed, and so long a head behind it
abbrev pub IsOverFirst : List ℕ → Type 0
IsOverFirst bytes = HasTooManyHeaders bytes ⊎ (IsHeadTooLong bytes × ¬ (IsMalformedRest bytes))

-- what is answered to such a rest, behind which the connection closes
abbrev pub RefusesRest : List ℕ → List ℕ → Type 0
RefusesRest rest text =
    (IsMalformedRest rest × ¬ (HasTooManyHeaders rest) × (text ≡ answer_text true (error_answer bad_head)))
    ⊎ (IsOverFirst rest × (text ≡ answer_text true (error_answer long_head)))

-- behind the answers only such a refusal is written, and it ends the talk
abbrev pub HasRefusal : TalkEnd → List ℕ → Option (List ℕ) → Type 0
HasRefusal Bad rest (Some text) = RefusesRest rest text
HasRefusal WriteFault rest (Some text) = HasNoRequest IsReadText rest × RefusesRest rest text
HasRefusal Bad rest None = ⊥
HasRefusal end rest None = Unit {0}
HasRefusal end rest (Some text) = ⊥

-- why the talk ended
abbrev pub HasCause : TalkEnd → Bool → List ℕ → List Turn → List ℕ → Type 0
HasCause Closed ended taken turns rest = (rest ≡ []) × ((ended ≡ true) ⊎ LastCloses turns)
HasCause Cut ended taken turns rest = (rest ≢ []) × (ended ≡ true) × IsOpen rest
HasCause Long ended taken turns rest = (length taken ≡ 2 ^ 62) × IsOpen rest × AreOpen turns
HasCause ReadFault ended taken turns rest = IsOpen rest × AreOpen turns
HasCause Memory ended taken turns rest = AreOpen turns
HasCause end ended taken turns rest = Unit {0}

-- the request that begins the rest is left without an answer
pub record LeavesFirst (Streams : Option Refusal → Type 0) (rest : List ℕ) (points : List Point) : Type 0 where
  pub given : Given
  pub request : Request
  pub behind : List ℕ
  pub begins : BeginWith rest (request ∷ []) behind
  pub is : AreRead (given ∷ []) (request ∷ [])
  pub left : LeavesUnanswered Streams given points

-- the points behind those of the turns: only where memory was wanting there are any
abbrev pub HasLeft : (Option Refusal → Type 0) → TalkEnd → List ℕ → List Point → Type 0
HasLeft Streams Memory rest points = (points ≡ []) ⊎ LeavesFirst Streams rest points
HasLeft Streams end rest points = points ≡ []

-- Its turns at the desk, one behind another: each answer is that of its request by its points.
pub record AtDesk (Streams : Option Refusal → Type 0) (start now : ClockedDesk) (turns : List Turn) (points : List Point) : Type 0 where
  pub chain : Chain start (points ++ points_of turns) now
  pub answers : AllByRecursion (Answers Streams start.view.told_bytes) turns

-- What a talk has done: the bytes that it read are the requests of its turns and a rest, and what it wrote are the answers
-- of its turns, and the refusal of a rest that is malformed or above the limits of a head.
pub record Talked (Streams : Option Refusal → Type 0) (start now : Moment) (end : TalkEnd) : Type 0 where
  pub turns : List Turn
  pub requests : List Request
  pub taken : List ℕ
  pub rest : List ℕ
  pub points : List Point
  pub gives : Gives start.left now.left taken
  pub few : length taken ≤ 2 ^ 62
  pub no_further : ReadNoFurther taken
  pub given : AreRead (given_by turns) requests
  pub reads : Reads end taken requests rest
  pub each : AllByRecursion ClosesBy turns
  pub goes_on : GoOn turns
  pub refusal : Option (List ℕ)
  pub written : Wrote end start.held now.held turns refusal
  pub refused : HasRefusal end rest refusal
  pub cause : HasCause end now.ended taken turns rest
  pub left : HasLeft Streams end rest points
  pub desk : AtDesk Streams start.desk now.desk turns points
