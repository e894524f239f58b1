-- A talk under way: what it has done so far, and what each of its steps makes of that.
use Rattle.std.specs.Prelude.{◌≡◌, ◌<◌, ◌≤◌, ◌+◌, ◌-◌, ◌*◌, ◌^◌, ◌⊎◌, ◌↔◌, ℕ, Bool, true, false, List, [], ◌++◌, length, Option, Some, None, Result, IfErr, IfOk, IsTrue, codes, nat_le}
use Rattle.std.specs.List.{AllByRecursion}
use Rattle.hb_outside.specs.Streams.{Gives, Writes, WritesPart}
use Rattle.httparse.specs.Grammar.{RequestHead}
use Rattle.hb_http.specs.Parts.{IsToldOf}
use Rattle.hb_http.specs.Readings.{Given, HasRead}
use Rattle.hb_http.specs.Standing.{Standing}
use Rattle.hb_http.specs.declared.parts.Head.{Head}
use Rattle.hb_http.specs.declared.parts.HttpFault.{HttpFault}
use Rattle.hb_http.specs.declared.parts.HttpFault.TheVariants as fault
use Rattle.hb_http.specs.declared.places.Place.{Place}
use Rattle.hb_http.specs.declared.places.Place.TheVariants.{Between}
use Rattle.hb_desk.specs.Chains.{Chain}
use Rattle.hb_desk.specs.Points.{Point}
use Rattle.hb_desk.specs.ClockedDesks.{ClockedDesk}
use Rattle.hb_desk.specs.declared.answers.Answer.{Answer}
use Rattle.hb_desk.specs.declared.refusals.Refusal.{Refusal}
use Rattle.hb_ops.specs.Errors.{error_answer}
use Rattle.hb_talk.specs.Bodies.{IsTooLong}
use Rattle.hb_talk.specs.Comings.{ComesOf, tells_too_long}
use Rattle.hb_talk.specs.Talks.{AreOpen, AtDesk, Moment, ReadNoFurther, Talked, bad_head, long_head}
use Rattle.hb_talk.specs.Tasks.{too_long}
use Rattle.hb_talk.specs.Texts.{answer_text, as_asked}
use Rattle.hb_talk.specs.Turns.{Answers, AnswersTo, ClosesBy, LeavesUnanswered, Turn, given_by, turns_text}
use Rattle.hb_talk.specs.declared.coming.Coming.{Coming}
use Rattle.hb_talk.specs.declared.ends.TalkEnd.{TalkEnd}
use Rattle.hb_talk.specs.declared.ends.TalkEnd.TheVariants.{Closed, Cut, Bad, Long, ReadFault, WriteFault, Memory}
use Rattle.hb_talk.specs.declared.ends.Turned.{Turned}
use Rattle.hb_talk.specs.declared.ends.Turned.TheVariants.{More, Ended}
use Rattle.hb_talk.specs.declared.wanted.TheConstants.{MAX_BODY}

-- where its session stands, the request that comes, and how many bytes have come
pub record TalkParts : Type 0 where
  pub standing : Standing
  pub coming : Option Coming
  pub taken : ℕ

-- what comes is the request of which this was given, and so far that isn't too long
abbrev pub Comes : Option Coming → Option Given → Type 0
Comes None None = Unit {0}
Comes None (Some g) = ⊥
Comes (Some c) None = ⊥
Comes (Some c) (Some g) = ComesOf c.wanted c.media c.last c.bare g.head × (c.body.items ≡ g.content) × ¬ (IsTooLong g.head g.content)

-- What a talk has done so far: these turns, none of which closed, and of the request that comes this was given.
pub record Progress (Streams : Option Refusal → Type 0) (start now : Moment) (talk : TalkParts) : Type 0 where
  pub turns : List Turn
  pub given : Option Given
  -- the bytes that were taken apart
  pub gone : List ℕ
  pub gives : Gives start.left now.left (gone ++ talk.standing.waiting)
  pub count : talk.taken ≡ length (gone ++ talk.standing.waiting)
  pub no_further : ReadNoFurther (gone ++ talk.standing.waiting)
  pub reads : HasRead (given_by turns) given gone talk.standing.place
  pub comes : Comes talk.coming given
  pub open_ : AreOpen turns
  pub each : AllByRecursion ClosesBy turns
  pub written : Writes start.held now.held (turns_text turns)
  pub ended : talk.standing.closed ≡ true → now.ended ≡ true
  pub desk : AtDesk Streams start.desk now.desk turns []

-- what a turn makes of a talk
abbrev pub GoesOn : (Option Refusal → Type 0) → Moment → Moment → TalkParts → Turned → Type 0
GoesOn Streams start now talk More = Progress Streams start now talk
GoesOn Streams start now talk (Ended end) = Talked Streams start now end

-- ---- a text that is written
-- why it wasn't
abbrev pub Fails : List ℕ → Option (List ℕ) → Option (List ℕ) → TalkEnd → Type 0
Fails text held held' WriteFault = WritesPart held held' text
Fails text held held' Memory = held' ≡ held
Fails text held held' end = ⊥

-- it ends a talk so, where it was
abbrev pub EndsBy : TalkEnd → List ℕ → Option (List ℕ) → Option (List ℕ) → TalkEnd → Type 0
EndsBy wanted text held held' end = ((end ≡ wanted) × Writes held held' text) ⊎ Fails text held held' end

-- what is answered to a request that is too long, with a body or without
abbrev pub too_long_text : Bool → List ℕ
too_long_text bare = answer_text true (as_asked bare (error_answer too_long))

-- the talk ends with that answer
abbrev pub RefusesLong : Bool → Option (List ℕ) → Option (List ℕ) → Turned → Type 0
RefusesLong bare held held' More = ⊥
RefusesLong bare held held' (Ended end) = EndsBy Closed (too_long_text bare) held held' end

-- ---- a head, and a piece of a body
-- the request of a head comes
abbrev pub BeginsComing : TalkParts → Head → TalkParts → Turned → Type 0
BeginsComing old head new More = (c : Coming) × (new ≡ record { standing = old.standing; coming = Some c; taken = old.taken }) × (c.body.items ≡ []) × ((h : RequestHead) → IsToldOf h head → ComesOf c.wanted c.media c.last c.bare h)
BeginsComing old head new (Ended Memory) = Unit {0}
BeginsComing old head new (Ended end) = ⊥

-- what a head makes of talk and sink: it is refused where it tells too long a body
abbrev pub Begins : TalkParts → Head → Option (List ℕ) → Option (List ℕ) → TalkParts → Turned → Type 0
Begins old head held held' new turned =
    ((tells_too_long head.length ≡ true) × (bare : Bool) × (IsTrue bare ↔ (head.method ≡ codes "HEAD")) × RefusesLong bare held held' turned)
    ⊎ ((tells_too_long head.length ≡ false) × (held' ≡ held) × BeginsComing old head new turned)

-- the body grows by the piece
pub record Grows (c c' : Coming) (piece : List ℕ) : Type 0 where
  pub wanted : c'.wanted ≡ c.wanted
  pub media : c'.media ≡ c.media
  pub last : c'.last ≡ c.last
  pub bare : c'.bare ≡ c.bare
  pub body : c'.body.items ≡ c.body.items ++ piece

abbrev pub GrowsBy : TalkParts → Coming → TalkParts → Turned → Type 0
GrowsBy old c new More = (c' : Coming) × (new ≡ record { standing = old.standing; coming = Some c'; taken = old.taken }) × Grows c c' old.standing.body
GrowsBy old c new (Ended Memory) = Unit {0}
GrowsBy old c new (Ended end) = ⊥

-- what a piece makes of what comes, and of the sink: it is refused where the body is too long with it
abbrev pub GathersTo : TalkParts → Coming → Option (List ℕ) → Option (List ℕ) → TalkParts → Turned → Type 0
GathersTo old c held held' new turned =
    ((nat_le (length c.body.items + length old.standing.body) MAX_BODY ≡ false) × RefusesLong c.bare held held' turned)
    ⊎ ((nat_le (length c.body.items + length old.standing.body) MAX_BODY ≡ true) × (held' ≡ held) × GrowsBy old c new turned)

-- a piece comes behind a head alone
abbrev pub Gathers : TalkParts → Option (List ℕ) → Option (List ℕ) → TalkParts → Turned → Type 0
Gathers old held held' new turned = ((old.coming ≡ None) × (turned ≡ Ended Bad)) ⊎ ((c : Coming) × (old.coming ≡ Some c) × GathersTo old c held held' new turned)

-- ---- a read
-- what a read of n bytes makes of a session: none is the end of the input
abbrev pub Came : Standing → Standing → Option (List ℕ) → Option (List ℕ) → Bool → Bool → ℕ → Type 0
Came s s' left rest ended ended' n =
    ((n ≡ 0) × Gives left rest [] × (ended' ≡ true) × (s' ≡ record { place = s.place; body = s.body; waiting = s.waiting; closed = true }))
    ⊎ ((piece : List ℕ) × (length piece ≡ n) × (0 < n) × Gives left rest piece × (ended' ≡ ended) × (s' ≡ record { place = s.place; body = s.body; waiting = s.waiting ++ piece; closed = s.closed }))

-- what a read makes of a talk whose session waits
abbrev pub Reads : TalkParts → TalkParts → Option (List ℕ) → Option (List ℕ) → Bool → Bool → Turned → Type 0
Reads old new left rest ended ended' More =
    (Gives left rest [] × (ended' ≡ true) × (new ≡ record { standing = record { place = old.standing.place; body = old.standing.body; waiting = old.standing.waiting; closed = true }; coming = old.coming; taken = old.taken }))
    ⊎ ((piece : List ℕ) × (0 < length piece) × (length piece ≤ 65536) × Gives left rest piece × (ended' ≡ ended)
    × (new ≡ record { standing = record { place = old.standing.place; body = old.standing.body; waiting = old.standing.waiting ++ piece; closed = old.standing.closed }; coming = old.coming; taken = old.taken + length piece }))
Reads old new left rest ended ended' (Ended Long) = (rest ≡ left) × (ended' ≡ ended) × (old.taken ≡ 2 ^ 62)
Reads old new left rest ended ended' (Ended ReadFault) = (rest ≡ left) × (ended' ≡ ended)
Reads old new left rest ended ended' (Ended end) = ⊥

-- ---- an answer
-- what was answered to a request, by the points of its events
pub record Served {E : Type 0} (Streams : Option Refusal → Type 0) (start now : ClockedDesk) (g : Given) (result : Result Answer E) : Type 0 where
  pub points : List Point
  pub chain : Chain start points now
  pub answers : IfOk result (λ a. (read : List ℕ) × AnswersTo Streams start.view.told_bytes g points read a)
  pub left : IfErr result (λ e. LeavesUnanswered Streams g points)

-- one turn more
pub record NextTurn (Streams : Option Refusal → Type 0) (start now : ClockedDesk) (g : Given) (t : Turn) : Type 0 where
  pub given : t.given ≡ g
  pub closes : ClosesBy t
  pub chain : Chain start t.points now
  pub answers : Answers Streams start.view.told_bytes t

-- what answering a request makes of desk and sink
abbrev pub Answered : (Option Refusal → Type 0) → ClockedDesk → ClockedDesk → Option (List ℕ) → Option (List ℕ) → Given → Turned → Type 0
Answered Streams start now held held' g More = (t : Turn) × NextTurn Streams start now g t × (t.closes ≡ false) × Writes held held' (answer_text t.closes t.answer)
Answered Streams start now held held' g (Ended Closed) = (t : Turn) × NextTurn Streams start now g t × (t.closes ≡ true) × Writes held held' (answer_text t.closes t.answer)
Answered Streams start now held held' g (Ended WriteFault) = (t : Turn) × NextTurn Streams start now g t × WritesPart held held' (answer_text t.closes t.answer)
Answered Streams start now held held' g (Ended Memory) = ((points : List Point) × Chain start points now × LeavesUnanswered Streams g points) × (held' ≡ held)
Answered Streams start now held held' g (Ended end) = ⊥

-- ---- its end
-- what is answered to malformed bytes, and to a head above its limits
abbrev pub fault_text : HttpFault → List ℕ
fault_text fault.Bad = answer_text true (error_answer bad_head)
fault_text other = answer_text true (error_answer long_head)

-- how a fault of the bytes ends it
abbrev pub EndsFault : HttpFault → Option (List ℕ) → Option (List ℕ) → TalkEnd → Type 0
EndsFault fault.Cut held held' end = (end ≡ Cut) × (held' ≡ held)
EndsFault fault.Memory held held' end = (end ≡ Memory) × (held' ≡ held)
EndsFault f held held' end = EndsBy Bad (fault_text f) held held' end

abbrev pub is_between : Place → ℕ
is_between Between = 0
is_between place = 1

abbrev pub is_open : Bool → ℕ
is_open true = 0
is_open false = 1

-- the bytes that may still come, those that wait, and what is left between them: each turn lowers it
abbrev pub work_left : TalkParts → ℕ
work_left talk = 4 * (2 ^ 62 - talk.taken) + 2 * length talk.standing.waiting + is_between talk.standing.place + is_open talk.standing.closed
