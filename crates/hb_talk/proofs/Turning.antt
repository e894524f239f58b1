-- What each part of a request makes of a talk.
use Rattle.std.proofs.Common.{◌≡◌, ◌≤◌, ◌^◌, ℕ, Bool, List, [], ◌∷◌, false, ◌++◌, Option, Some, None, MatchBool, Result, Ok, Err, refl, sym, ap, subst, ◌∙◌, inl, inr}
use Rattle.httparse.specs.Grammar.{RequestHead}
use Rattle.hb_http.specs.Parts.{EndsBody, Gives, GivesBody, HoldsNoPart, IsToldOf, read_through}
use Rattle.hb_http.specs.Readings.{Given, HasRead, ReadsOn}
use Rattle.hb_http.specs.Standing.{Standing}
use Rattle.hb_http.specs.declared.parts.Head.{Head}
use Rattle.hb_http.specs.declared.parts.HttpFault.{HttpFault}
use Rattle.hb_http.specs.declared.parts.HttpFault.TheVariants as fault
use Rattle.hb_http.specs.declared.parts.Part.{Part}
use Rattle.hb_http.specs.declared.parts.Part.TheVariants.{Head as HeadPart, Body, BodyEnd, NeedInput, InputEnd}
use Rattle.hb_http.specs.declared.places.Place.{Place}
use Rattle.hb_http.specs.declared.places.Place.TheVariants.{Between, Counted, Chunked}
use Rattle.hb_desk.specs.ClockedDesks.{ClockedDesk}
use Rattle.hb_desk.specs.declared.refusals.Refusal.{Refusal}
use Rattle.hb_talk.specs.Bodies.{IsReadText, IsTooLong}
use Rattle.hb_talk.specs.Comings.{ComesOf, tells_too_long}
use Rattle.hb_talk.specs.Progress.{Answered, Begins, BeginsComing, Comes, EndsBy, EndsFault, Gathers, GathersTo, GoesOn, Grows, GrowsBy, Progress, Reads, RefusesLong, TalkParts, fault_text}
use Rattle.hb_http.specs.Requests.{HasNoRequest}
use Rattle.hb_talk.specs.Talks.{Moment, RefusesRest, Talked}
use Rattle.hb_talk.specs.Turns.{given_by}
use Rattle.hb_talk.specs.Wanting.{IsBare}
use Rattle.hb_talk.specs.declared.coming.Coming.{Coming}
use Rattle.hb_talk.specs.declared.ends.TalkEnd.{TalkEnd}
use Rattle.hb_talk.specs.declared.ends.TalkEnd.TheVariants as end
use Rattle.hb_talk.specs.declared.ends.Turned.{Turned}
use Rattle.hb_talk.specs.declared.ends.Turned.TheVariants.{More, Ended}
use Rattle.hb_talk.proofs.Requests.{OneMore, ended-more, long-more}
use Rattle.hb_talk.proofs.Served.{fails-by}
use Rattle.hb_talk.proofs.Talking.{answered-last, answered-on, answered-part, bad-rest, bytes, came, cut-ends, input-ends, long-rest, many-rest, memory-ends, memory-here, parted, read-ends, read-on, refused-ends, refused-long, refused-part, rest, short-so-far}
use Rattle.hb_talk.proofs.Wants.{bare-by, grown-long, grown-short, head-short, tells-long}

-- a body that grew by a piece is that of what was given of it
comes-grown : (c c' : Coming) (g : Given) (piece : List ℕ) → Grows c c' piece → Comes (Some c) (Some g) → ¬ (IsTooLong g.head (g.content ++ piece)) → Comes (Some c') (Some (record { head = g.head; content = g.content ++ piece }))
comes-grown c c' g piece grows comes short = (
  subst (λ wanted. ComesOf wanted c'.media c'.last c'.bare g.head) (sym grows.wanted) (subst (λ media. ComesOf c.wanted media c'.last c'.bare g.head) (sym grows.media) (subst (λ last. ComesOf c.wanted c.media last c'.bare g.head) (sym grows.last) (subst (λ bare. ComesOf c.wanted c.media c.last bare g.head) (sym grows.bare) comes.0))),
  grows.body ∙ ap (λ b. b ++ piece) comes.1,
  short,
)

none-comes : {A : Type 0} (coming : Option Coming) (given : Option Given) (g : Given) → coming ≡ None → given ≡ Some g → Comes coming given → A
none-comes coming given g is other comes = absurd (subst (λ o. Comes None o) other (subst (λ o. Comes o given) is comes))

-- ---- what a part leaves of the session's end
ends-closed : (place : Place) (s s' : Standing) → EndsBody place s s' → s'.closed ≡ s.closed
ends-closed Between s s' ends = absurd ends
ends-closed (Counted left) s s' ends = ap (λ s. s.closed) ends.1
ends-closed (Chunked place) s s' ends = ap (λ s. s.closed) ends.after

gives-closed : (result : Result Part HttpFault) (s s' : Standing) → Gives s result s' → s'.closed ≡ s.closed
gives-closed (Ok (HeadPart told)) s s' gives = ap (λ s. s.closed) gives.after
gives-closed (Ok Body) s s' gives = go s.place gives
  where
    go : (place : Place) → GivesBody place s s' → s'.closed ≡ s.closed
    go Between gives = absurd gives
    go (Counted left) gives = ap (λ s. s.closed) gives.after
    go (Chunked place) gives = ap (λ s. s.closed) gives.after
gives-closed (Ok BodyEnd) s s' gives = ends-closed s.place s s' gives
gives-closed (Ok NeedInput) s s' gives = ap (λ s. s.closed) gives.2 ∙ go s.place
  where
    go : (place : Place) → (read_through place s).closed ≡ s.closed
    go Between = refl
    go (Counted left) = refl
    go (Chunked place) = refl
gives-closed (Ok InputEnd) s s' gives = ap (λ s. s.closed) gives.4
gives-closed (Err fault.Cut) s s' gives = ap (λ s. s.closed) gives.3
gives-closed (Err fault.Bad) s s' gives = ap (λ s. s.closed) gives.1
gives-closed (Err fault.TooManyHeaders) s s' gives = ap (λ s. s.closed) gives.2
gives-closed (Err fault.HeadTooLong) s s' gives = ap (λ s. s.closed) gives.4
gives-closed (Err fault.Memory) s s' gives = ap (λ s. s.closed) gives

module _ (Streams : Option Refusal → Type 0) (start now : Moment) (talk : TalkParts) (so_far : Progress Streams start now talk) (most : talk.taken ≤ 2 ^ 62) where
  abbrev pub at : Standing → TalkParts
  at s' = record { standing = s'; coming = talk.coming; taken = talk.taken }

  -- and a moment at which more is written
  abbrev pub holding : Option (List ℕ) → Moment
  holding held = record { desk = now.desk; left = now.left; ended = now.ended; held = held }

  -- the request that was begun is too long, and is refused
  long-turn : (g : Given) (gone : List ℕ) (s' : Standing) (bare : Bool) (held : Option (List ℕ)) (new : TalkParts) (turned : Turned) → talk.standing.waiting ≡ gone ++ s'.waiting → HasRead (given_by so_far.turns) (Some g) (so_far.gone ++ gone) s'.place → IsTooLong g.head g.content → MatchBool bare (IsBare g.head) (¬ (IsBare g.head)) → RefusesLong bare now.held held turned → GoesOn Streams start (holding held) new turned
  long-turn g gone s' bare held new turned text reads long bare_is refuses =
      let more = long-more (given_by so_far.turns) g (so_far.gone ++ gone) s'.waiting s'.place reads long in
      refused-long Streams start now talk so_far (record { head = g.head; content = more.content }) bare held new turned most more.long bare_is
      (subst (OneMore (given_by so_far.turns) (record { head = g.head; content = more.content })) (came Streams start now talk so_far gone s' text) more.more) refuses

  -- a head came
  pub head-turn : (told : Head) (s' : Standing) (held : Option (List ℕ)) (new : TalkParts) (turned : Turned) → Gives talk.standing (Ok (HeadPart told)) s' → ReadsOn (given_by so_far.turns) so_far.given so_far.gone talk.standing (Ok (HeadPart told)) s' → Begins (at s') told now.held held new turned → GoesOn Streams start (holding held) new turned
  head-turn told s' held new turned gives reads begins = go begins
    where
      h : RequestHead
      h = reads.follows.2

      told-of : IsToldOf h told
      told-of = reads.follows.3

      reads' : HasRead (given_by so_far.turns) (Some (record { head = h; content = [] })) (so_far.gone ++ reads.gone) s'.place
      reads' = subst (λ done. HasRead done (Some (record { head = h; content = [] })) (so_far.gone ++ reads.gone) s'.place) reads.follows.1 (subst (λ given. HasRead reads.done' given (so_far.gone ++ reads.gone) s'.place) reads.follows.4 reads.reads)

      comes : (turned : Turned) → tells_too_long told.length ≡ false → held ≡ now.held → BeginsComing (at s') told new turned → GoesOn Streams start (holding held) new turned
      comes More short same begins = subst (λ held. Progress Streams start (holding held) new) (sym same) (subst (Progress Streams start now) (sym begins.1) (parted Streams start now talk so_far reads.gone s' (Some begins.0) (Some (record { head = h; content = [] })) reads.text reads'
          (begins.3 h told-of, begins.2, head-short h told.length told-of.length short) (gives-closed (Ok (HeadPart told)) talk.standing s' gives)))
      comes (Ended end.Memory) short same begins = memory-here Streams start now talk so_far held most same
      comes (Ended end.Closed) short same begins = absurd begins
      comes (Ended end.Cut) short same begins = absurd begins
      comes (Ended end.Bad) short same begins = absurd begins
      comes (Ended end.Long) short same begins = absurd begins
      comes (Ended end.ReadFault) short same begins = absurd begins
      comes (Ended end.WriteFault) short same begins = absurd begins

      go : Begins (at s') told now.held held new turned → GoesOn Streams start (holding held) new turned
      go (inl refused) = long-turn (record { head = h; content = [] }) reads.gone s' refused.1 held new turned reads.text reads' (inl (tells-long h told.length told-of.length refused.0)) (bare-by h told told-of refused.1 refused.2) refused.3
      go (inr begins) = comes turned begins.0 begins.1 begins.2

  -- a piece of a body came
  pub body-turn : (s' : Standing) (held : Option (List ℕ)) (new : TalkParts) (turned : Turned) → Gives talk.standing (Ok Body) s' → ReadsOn (given_by so_far.turns) so_far.given so_far.gone talk.standing (Ok Body) s' → Gathers (at s') now.held held new turned → GoesOn Streams start (holding held) new turned
  body-turn s' held new turned gives reads gathers = go gathers
    where
      g : Given
      g = reads.follows.0

      g' : Given
      g' = record { head = g.head; content = g.content ++ s'.body }

      reads' : HasRead (given_by so_far.turns) (Some g') (so_far.gone ++ reads.gone) s'.place
      reads' = subst (λ done. HasRead done (Some g') (so_far.gone ++ reads.gone) s'.place) reads.follows.2 (subst (λ given. HasRead reads.done' given (so_far.gone ++ reads.gone) s'.place) reads.follows.3 reads.reads)

      grown : (c : Coming) (turned : Turned) → Comes (Some c) (Some g) → ¬ (IsTooLong g.head (g.content ++ s'.body)) → held ≡ now.held → GrowsBy (at s') c new turned → GoesOn Streams start (holding held) new turned
      grown c More comes short same grows = subst (λ held. Progress Streams start (holding held) new) (sym same) (subst (Progress Streams start now) (sym grows.1) (parted Streams start now talk so_far reads.gone s' (Some grows.0) (Some g') reads.text reads'
          (comes-grown c grows.0 g s'.body grows.2 comes short) (gives-closed (Ok Body) talk.standing s' gives)))
      grown c (Ended end.Memory) comes short same grows = memory-here Streams start now talk so_far held most same
      grown c (Ended end.Closed) comes short same grows = absurd grows
      grown c (Ended end.Cut) comes short same grows = absurd grows
      grown c (Ended end.Bad) comes short same grows = absurd grows
      grown c (Ended end.Long) comes short same grows = absurd grows
      grown c (Ended end.ReadFault) comes short same grows = absurd grows
      grown c (Ended end.WriteFault) comes short same grows = absurd grows

      gathered : (c : Coming) → Comes (Some c) (Some g) → GathersTo (at s') c now.held held new turned → GoesOn Streams start (holding held) new turned
      gathered c comes (inl refused) = long-turn g' reads.gone s' c.bare held new turned reads.text reads' (grown-long g.head c.body.items g.content s'.body comes.1 refused.0) comes.0.bare refused.1
      gathered c comes (inr grows) = grown c turned comes (grown-short g.head c.body.items g.content s'.body comes.1 comes.2 grows.0) grows.1 grows.2

      go : Gathers (at s') now.held held new turned → GoesOn Streams start (holding held) new turned
      go (inl none) = none-comes talk.coming so_far.given g none.0 reads.follows.1 so_far.comes
      go (inr to) = gathered to.0 (subst (λ given. Comes (Some to.0) given) reads.follows.1 (subst (λ coming. Comes coming so_far.given) to.1 so_far.comes)) to.2

  -- a request came to its end, and was answered
  pub end-turn : (s' : Standing) (new : TalkParts) (turned : Turned) (desk : ClockedDesk) (held : Option (List ℕ)) → Gives talk.standing (Ok BodyEnd) s' → ReadsOn (given_by so_far.turns) so_far.given so_far.gone talk.standing (Ok BodyEnd) s' → new ≡ record { standing = s'; coming = None; taken = talk.taken } → ((g : Given) → Comes talk.coming (Some g) → Answered Streams now.desk desk now.held held g turned) → GoesOn Streams start (record { desk = desk; left = now.left; ended = now.ended; held = held }) new turned
  end-turn s' new turned desk held gives reads is answers = go turned (answers g comes)
    where
      g : Given
      g = reads.follows.0

      comes : Comes talk.coming (Some g)
      comes = subst (λ given. Comes talk.coming given) reads.follows.1 so_far.comes

      read' : HasRead (given_by so_far.turns ++ g ∷ []) None (so_far.gone ++ reads.gone) s'.place
      read' = subst (λ done. HasRead done None (so_far.gone ++ reads.gone) s'.place) reads.follows.2 (subst (λ given. HasRead reads.done' given (so_far.gone ++ reads.gone) s'.place) reads.follows.3 reads.reads)

      one : OneMore (given_by so_far.turns) g (bytes Streams start now talk so_far)
      one = subst (OneMore (given_by so_far.turns) g) (came Streams start now talk so_far reads.gone s' reads.text) (ended-more (given_by so_far.turns) g (so_far.gone ++ reads.gone) s'.waiting s'.place read' (short-so-far talk.coming (Some g) comes))

      go : (turned : Turned) → Answered Streams now.desk desk now.held held g turned → GoesOn Streams start (record { desk = desk; left = now.left; ended = now.ended; held = held }) new turned
      go More a = subst (Progress Streams start (record { desk = desk; left = now.left; ended = now.ended; held = held })) (sym is) (answered-on Streams start now talk so_far g a.0 desk held a.1 reads.gone s' reads.text read' a.2 a.3 (gives-closed (Ok BodyEnd) talk.standing s' gives))
      go (Ended end.Closed) a = answered-last Streams start now talk so_far g a.0 desk held a.1 one most a.2 a.3
      go (Ended end.WriteFault) a = answered-part Streams start now talk so_far g a.0 desk held a.1 one most a.2
      go (Ended end.Memory) a = memory-ends Streams start now talk so_far g desk held one most a.0 a.1
      go (Ended end.Cut) a = absurd a
      go (Ended end.Bad) a = absurd a
      go (Ended end.Long) a = absurd a
      go (Ended end.ReadFault) a = absurd a

  -- more bytes are wanted, and read
  pub input-turn : (s' : Standing) (new : TalkParts) (turned : Turned) (left : Option (List ℕ)) (ended : Bool) → Gives talk.standing (Ok NeedInput) s' → HoldsNoPart s'.place s'.waiting → ReadsOn (given_by so_far.turns) so_far.given so_far.gone talk.standing (Ok NeedInput) s' → Reads (at s') new now.left left now.ended ended turned → GoesOn Streams start (record { desk = now.desk; left = left; ended = ended; held = now.held }) new turned
  input-turn s' new turned left ended gives none reads read = go turned read
    where
      parted' : Progress Streams start now (record { standing = s'; coming = talk.coming; taken = talk.taken })
      parted' = parted Streams start now talk so_far reads.gone s' talk.coming so_far.given reads.text
          (subst (λ done. HasRead done so_far.given (so_far.gone ++ reads.gone) s'.place) reads.follows.0 (subst (λ given. HasRead reads.done' given (so_far.gone ++ reads.gone) s'.place) reads.follows.1 reads.reads))
          so_far.comes (gives-closed (Ok NeedInput) talk.standing s' gives)

      go : (turned : Turned) → Reads (record { standing = s'; coming = talk.coming; taken = talk.taken }) new now.left left now.ended ended turned → GoesOn Streams start (record { desk = now.desk; left = left; ended = ended; held = now.held }) new turned
      go More read = read-on Streams start now (record { standing = s'; coming = talk.coming; taken = talk.taken }) parted' new left ended none read
      go (Ended e) read = read-ends Streams start now (record { standing = s'; coming = talk.coming; taken = talk.taken }) parted' new left ended e most none read

  -- the input ended between two requests
  pub closed-turn : (s' : Standing) → Gives talk.standing (Ok InputEnd) s' → Talked Streams start now end.Closed
  closed-turn s' gives = input-ends Streams start now talk so_far most gives.0 gives.1 gives.2 gives.3

  -- no part came
  refused-by : (text : List ℕ) (held : Option (List ℕ)) (e : TalkEnd) → HasNoRequest IsReadText (rest Streams start now talk so_far) → RefusesRest (rest Streams start now talk so_far) text → EndsBy end.Bad text now.held held e → Talked Streams start (holding held) e
  refused-by text held e none refuses (inl told) = subst (Talked Streams start (holding held)) (sym told.0) (refused-ends Streams start now talk so_far held text most none refuses told.1)
  refused-by text held e none refuses (inr fails) =
      fails-by (Talked Streams start (holding held)) text now.held held e fails (λ part. refused-part Streams start now talk so_far held text most none refuses part) (λ same. memory-here Streams start now talk so_far held most same)

  pub fault-turn : (f : HttpFault) (s' : Standing) (held : Option (List ℕ)) (e : TalkEnd) → Gives talk.standing (Err f) s' → EndsFault f now.held held e → Talked Streams start (holding held) e
  fault-turn fault.Cut s' held e gives ends = subst (λ held. Talked Streams start (holding held) e) (sym ends.1) (subst (Talked Streams start now) (sym ends.0) (cut-ends Streams start now talk so_far most gives.0 gives.1 gives.2))
  fault-turn fault.Memory s' held e gives ends = subst (Talked Streams start (holding held)) (sym ends.0) (memory-here Streams start now talk so_far held most ends.1)
  fault-turn fault.Bad s' held e gives ends = let why = bad-rest Streams start now talk so_far gives.0 in refused-by (fault_text fault.Bad) held e why.0 (inl (why.1, why.2, refl)) ends
  fault-turn fault.TooManyHeaders s' held e gives ends = let why = many-rest Streams start now talk so_far gives.0 gives.1 in refused-by (fault_text fault.TooManyHeaders) held e why.0 (inr (why.1, refl)) ends
  fault-turn fault.HeadTooLong s' held e gives ends = let why = long-rest Streams start now talk so_far gives.0 gives.1 gives.2 in refused-by (fault_text fault.HeadTooLong) held e why.0 (inr (why.1, refl)) ends
