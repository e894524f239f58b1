-- What a turn makes of a talk.
use Rattle.std.proofs.Common.{◌≡◌, ◌≢◌, ◌≤◌, ◌+◌, ◌^◌, ℕ, Bool, true, false, List, [], ◌∷◌, ◌++◌, length, Option, Some, None, MatchBool, refl, sym, ap, subst, ◌∙◌, inl, inr, arith, append_assoc, append-nil, length-append}
use Rattle.std.specs.List.{AllByRecursion}
use Rattle.hb_outside.specs.Streams.{Gives, Writes, WritesPart}
use Rattle.hb_http.specs.Heads.{HasTooManyHeaders, IsHeadTooLong, NeverHasHead}
use Rattle.hb_http.specs.Parts.{HoldsNoPart, IsBad}
use Rattle.hb_http.specs.Readings.{Given, HasRead, IsBegun}
use Rattle.hb_http.specs.Requests.{HasNoRequest, Request, RequestsOf, request_text}
use Rattle.hb_http.specs.Standing.{Standing}
use Rattle.hb_http.specs.declared.places.Place.{Place}
use Rattle.hb_http.specs.declared.places.Place.TheVariants.{Between, Counted, Chunked}
use Rattle.hb_http.proofs.Each.{all_push}
use Rattle.hb_http.proofs.RequestLaws.{HasNoHead-no_request}
use Rattle.hb_desk.specs.Chains.{Chain}
use Rattle.hb_desk.specs.ClockedDesks.{ClockedDesk}
use Rattle.hb_desk.specs.Points.{Point}
use Rattle.hb_desk.specs.declared.refusals.Refusal.{Refusal}
use Rattle.hb_desk.proofs.Chains.{chain-append, chain-bytes}
use Rattle.hb_talk.specs.Bodies.{AreRead, Closes, IsLast, IsReadText, IsTooLong}
use Rattle.hb_talk.specs.Progress.{Comes, GoesOn, NextTurn, Progress, Reads, RefusesLong, TalkParts, too_long_text}
use Rattle.hb_talk.specs.Talks.{AreOpen, AtDesk, GoOn, HasCause, HasLeft, HasRefusal, IsMalformedRest, IsOpen, IsOverFirst, Moment, ReadNoFurther, RefusesRest, Talked, WantsMore, Wrote}
use Rattle.hb_talk.specs.Talks as talks
use Rattle.hb_talk.specs.Texts.{answer_text}
use Rattle.hb_talk.specs.Turns.{Answers, ClosesBy, LeavesUnanswered, Turn, given_by, points_of, turns_text}
use Rattle.hb_talk.specs.Wanting.{IsBare}
use Rattle.hb_talk.specs.declared.coming.Coming.{Coming}
use Rattle.hb_talk.specs.declared.ends.TalkEnd.{TalkEnd}
use Rattle.hb_talk.specs.declared.ends.TalkEnd.TheVariants as end
use Rattle.hb_talk.specs.declared.ends.Turned.{Turned}
use Rattle.hb_talk.specs.declared.ends.Turned.TheVariants.{More, Ended}
use Rattle.hb_talk.proofs.Requests.{OneMore, StaysOpen, all-and, all-of, all-open, before, begins-rest, begun-some, each-open, front-and, front-of}
use Rattle.hb_talk.proofs.Cuts.{headless-formed, rest-open}
use Rattle.hb_talk.proofs.Rests.{IsShort, few-headers, malformed-rest, many-none, rest-bad, rest-none}
use Rattle.hb_talk.proofs.Served.{fails-by, refused-turn}
use Rattle.hb_talk.proofs.Streams.{Gives-append, Gives-none, Writes-append, Writes-none}

-- ---- lists of turns
given_by-push : (turns : List Turn) (t : Turn) → given_by (turns ++ t ∷ []) ≡ given_by turns ++ t.given ∷ []
given_by-push [] t = refl
given_by-push (u ∷ turns) t = ap (λ gs. u.given ∷ gs) (given_by-push turns t)

turns_text-push : (turns : List Turn) (t : Turn) → turns_text (turns ++ t ∷ []) ≡ turns_text turns ++ answer_text t.closes t.answer
turns_text-push [] t = append-nil (answer_text t.closes t.answer)
turns_text-push (u ∷ turns) t = ap (λ text. answer_text u.closes u.answer ++ text) (turns_text-push turns t) ∙ sym (append_assoc (answer_text u.closes u.answer) (turns_text turns) (answer_text t.closes t.answer))

points_of-push : (turns : List Turn) (t : Turn) → points_of (turns ++ t ∷ []) ≡ t.points ++ points_of turns
points_of-push [] t = sym (append-nil t.points)
points_of-push (u ∷ turns) t = ap (λ points. points ++ u.points) (points_of-push turns t) ∙ append_assoc t.points (points_of turns) u.points

-- ---- turns that leave the connection open
open-on : (turns : List Turn) → AreOpen turns → GoOn turns
open-on [] open_ = tt
open-on (t ∷ []) open_ = tt
open-on (t ∷ next ∷ turns) open_ = (open_.0, open-on (next ∷ turns) open_.1)

open-then : (turns : List Turn) (t : Turn) → AreOpen turns → GoOn (turns ++ t ∷ [])
open-then [] t open_ = tt
open-then (u ∷ []) t open_ = (open_.0, tt)
open-then (u ∷ next ∷ turns) t open_ = (open_.0, open-then (next ∷ turns) t open_.1)

-- ---- at the start
pub progress-start : (Streams : Option Refusal → Type 0) (now : Moment) (talk : TalkParts) → talk.standing ≡ record { place = Between; body = []; waiting = []; closed = false } → talk.coming ≡ None → talk.taken ≡ 0 → Progress Streams now now talk
progress-start Streams now talk fresh coming taken = record {
  turns = [];
  given = None;
  gone = [];
  gives = subst (λ (s : Standing). Gives now.left now.left s.waiting) (sym fresh) (Gives-none now.left);
  count = taken ∙ ap (λ (s : Standing). length s.waiting) (sym fresh);
  no_further = inl (ap (λ (s : Standing). s.waiting) fresh);
  reads = subst (λ (s : Standing). HasRead [] None [] s.place) (sym fresh) (record { whole = []; begun = []; text = refl; are_whole = refl; is_begun = refl });
  comes = subst (λ c. Comes c None) (sym coming) tt;
  open_ = tt;
  each = tt;
  written = Writes-none now.held;
  ended = λ closed. let both : false ≡ true = sym (ap (λ (s : Standing). s.closed) fresh) ∙ closed in cc both;
  desk = record { chain = refl; answers = tt };
}

-- the request that comes isn't too long
pub short-so-far : (coming : Option Coming) (given : Option Given) → Comes coming given → IsShort given
short-so-far coming None comes = tt
short-so-far None (Some g) comes = absurd comes
short-so-far (Some c) (Some g) comes = comes.2

-- ---- a part of a request
module _ (Streams : Option Refusal → Type 0) (start now : Moment) (talk : TalkParts) (so_far : Progress Streams start now talk) where
  -- its turns left the connection open
  stay-open : AllByRecursion StaysOpen (given_by so_far.turns)
  stay-open = all-open so_far.turns so_far.open_ so_far.each

  -- the bytes that have come are the same, however many of them were taken apart
  pub came : (gone : List ℕ) (s' : Standing) → talk.standing.waiting ≡ gone ++ s'.waiting → (so_far.gone ++ gone) ++ s'.waiting ≡ so_far.gone ++ talk.standing.waiting
  came gone s' text = append_assoc so_far.gone gone s'.waiting ∙ ap (λ b. so_far.gone ++ b) (sym text)

  -- the session took a part that ended no request
  pub parted : (gone : List ℕ) (s' : Standing) (coming : Option Coming) (given : Option Given) → talk.standing.waiting ≡ gone ++ s'.waiting → HasRead (given_by so_far.turns) given (so_far.gone ++ gone) s'.place → Comes coming given → s'.closed ≡ talk.standing.closed → Progress Streams start now (record { standing = s'; coming = coming; taken = talk.taken })
  parted gone s' coming given text reads comes closed = record {
    turns = so_far.turns;
    given = given;
    gone = so_far.gone ++ gone;
    gives = subst (λ b. Gives start.left now.left b) (sym (came gone s' text)) so_far.gives;
    count = so_far.count ∙ ap (λ b. length b) (sym (came gone s' text));
    no_further = subst ReadNoFurther (sym (came gone s' text)) so_far.no_further;
    reads = reads;
    comes = comes;
    open_ = so_far.open_;
    each = so_far.each;
    written = so_far.written;
    ended = λ is. so_far.ended (sym closed ∙ is);
    desk = so_far.desk;
  }

  -- ---- ends without a further answer
  abbrev pub bytes : List ℕ
  bytes = so_far.gone ++ talk.standing.waiting

  abbrev pub rest : List ℕ
  rest = so_far.reads.begun ++ talk.standing.waiting

  few : talk.taken ≤ 2 ^ 62 → length bytes ≤ 2 ^ 62
  few most = subst (λ n. n ≤ 2 ^ 62) so_far.count most

  -- no further request stands in the bytes
  ended-none : (e : TalkEnd) → talk.taken ≤ 2 ^ 62 → HasNoRequest IsReadText rest → ((rs : List Request) → RequestsOf IsReadText Closes bytes rs rest → talks.Reads e bytes rs rest) → (Writes start.held now.held (turns_text so_far.turns) → Wrote e start.held now.held so_far.turns None) → HasCause e now.ended bytes so_far.turns rest → HasLeft Streams e rest [] → HasRefusal e rest None → Talked Streams start now e
  ended-none e most none reads wrote cause left refused =
      let all = all-of (given_by so_far.turns) so_far.given so_far.gone talk.standing.waiting talk.standing.place stay-open so_far.reads none in
      record {
        turns = so_far.turns;
        requests = all.requests;
        taken = bytes;
        rest = rest;
        points = [];
        gives = so_far.gives;
        few = few most;
        no_further = so_far.no_further;
        given = all.given;
        reads = reads all.requests all.reads;
        each = so_far.each;
        goes_on = open-on so_far.turns so_far.open_;
        refusal = None;
        written = wrote so_far.written;
        refused = refused;
        cause = cause;
        left = left;
        desk = so_far.desk;
      }

  -- a rest that is refused
  pub refused-ends : (held : Option (List ℕ)) (text : List ℕ) → talk.taken ≤ 2 ^ 62 → HasNoRequest IsReadText rest → RefusesRest rest text → Writes now.held held text → Talked Streams start (record { desk = now.desk; left = now.left; ended = now.ended; held = held }) end.Bad
  refused-ends held text most none refuses writes =
      let all = all-of (given_by so_far.turns) so_far.given so_far.gone talk.standing.waiting talk.standing.place stay-open so_far.reads none in
      record {
        turns = so_far.turns;
        requests = all.requests;
        taken = bytes;
        rest = rest;
        points = [];
        gives = so_far.gives;
        few = few most;
        no_further = so_far.no_further;
        given = all.given;
        reads = all.reads;
        each = so_far.each;
        goes_on = open-on so_far.turns so_far.open_;
        refusal = Some text;
        written = Writes-append start.held now.held held (turns_text so_far.turns) text so_far.written writes;
        refused = refuses;
        cause = tt;
        left = refl;
        desk = so_far.desk;
      }

  pub refused-part : (held : Option (List ℕ)) (text : List ℕ) → talk.taken ≤ 2 ^ 62 → HasNoRequest IsReadText rest → RefusesRest rest text → WritesPart now.held held text → Talked Streams start (record { desk = now.desk; left = now.left; ended = now.ended; held = held }) end.WriteFault
  refused-part held text most none refuses part =
      let front = front-of (given_by so_far.turns) so_far.given so_far.gone talk.standing.waiting talk.standing.place stay-open so_far.reads in
      record {
        turns = so_far.turns;
        requests = front.requests;
        taken = bytes;
        rest = rest;
        points = [];
        gives = so_far.gives;
        few = few most;
        no_further = so_far.no_further;
        given = front.given;
        reads = front.begin;
        each = so_far.each;
        goes_on = open-on so_far.turns so_far.open_;
        refusal = Some text;
        written = (now.held, so_far.written, part);
        refused = (none, refuses);
        cause = tt;
        left = refl;
        desk = so_far.desk;
      }

  -- between two requests the rest is what waits
  rest-waits : talk.standing.place ≡ Between → rest ≡ talk.standing.waiting
  rest-waits at = ap (λ b. b ++ talk.standing.waiting) (nothing so_far.given (subst (λ p. IsBegun p so_far.given so_far.reads.begun) at so_far.reads.is_begun))
    where
      nothing : (given : Option Given) → IsBegun Between given so_far.reads.begun → so_far.reads.begun ≡ []
      nothing None is = is
      nothing (Some g) is = absurd is

  -- why a rest is refused
  pub bad-rest : IsBad talk.standing.place talk.standing.waiting → HasNoRequest IsReadText rest × IsMalformedRest rest × ¬ (HasTooManyHeaders rest)
  bad-rest bad = (
    rest-bad talk.standing.place so_far.given so_far.reads.begun talk.standing.waiting (short-so-far talk.coming so_far.given so_far.comes) so_far.reads.is_begun bad,
    malformed-rest talk.standing.place so_far.given so_far.reads.begun talk.standing.waiting so_far.reads.is_begun bad,
    few-headers talk.standing.place so_far.given so_far.reads.begun talk.standing.waiting so_far.reads.is_begun bad,
  )

  pub many-rest : talk.standing.place ≡ Between → HasTooManyHeaders talk.standing.waiting → HasNoRequest IsReadText rest × IsOverFirst rest
  many-rest at many = (subst (HasNoRequest IsReadText) (sym (rest-waits at)) (many-none talk.standing.waiting many), subst IsOverFirst (sym (rest-waits at)) (inl many))

  pub long-rest : talk.standing.place ≡ Between → IsHeadTooLong talk.standing.waiting → ¬ (NeverHasHead talk.standing.waiting) → HasNoRequest IsReadText rest × IsOverFirst rest
  long-rest at long may = (
    subst (HasNoRequest IsReadText) (sym (rest-waits at)) (HasNoHead-no_request IsReadText talk.standing.waiting long.1),
    subst IsOverFirst (sym (rest-waits at)) (inr (long, headless-formed talk.standing.waiting long.1 may)),
  )

  none-left : HoldsNoPart talk.standing.place talk.standing.waiting → HasNoRequest IsReadText rest
  none-left none = rest-none talk.standing.place so_far.given so_far.reads.begun talk.standing.waiting (short-so-far talk.coming so_far.given so_far.comes) so_far.reads.is_begun none

  open-left : HoldsNoPart talk.standing.place talk.standing.waiting → IsOpen rest
  open-left none = rest-open talk.standing.place so_far.given so_far.reads.begun talk.standing.waiting so_far.reads.is_begun none

  -- ---- a read
  -- where the session holds no part, more is wanted
  more-wanted : HoldsNoPart talk.standing.place talk.standing.waiting → WantsMore bytes
  more-wanted none =
      let all = all-of (given_by so_far.turns) so_far.given so_far.gone talk.standing.waiting talk.standing.place stay-open so_far.reads (none-left none) in
      record { requests = all.requests; rest = rest; reads = all.reads; stays = each-open (given_by so_far.turns) all.requests all.given stay-open; may = open-left none }

  pub read-on : (talk' : TalkParts) (left' : Option (List ℕ)) (ended : Bool) → HoldsNoPart talk.standing.place talk.standing.waiting → Reads talk talk' now.left left' now.ended ended More → Progress Streams start (record { desk = now.desk; left = left'; ended = ended; held = now.held }) talk'
  read-on talk' left' ended none (inl closed) = subst (Progress Streams start (record { desk = now.desk; left = left'; ended = ended; held = now.held })) (sym closed.2) (record {
    turns = so_far.turns;
    given = so_far.given;
    gone = so_far.gone;
    gives = subst (λ b. Gives start.left left' b) (append-nil (so_far.gone ++ talk.standing.waiting)) (Gives-append start.left now.left left' (so_far.gone ++ talk.standing.waiting) [] so_far.gives closed.0);
    count = so_far.count;
    no_further = so_far.no_further;
    reads = so_far.reads;
    comes = so_far.comes;
    open_ = so_far.open_;
    each = so_far.each;
    written = so_far.written;
    ended = λ is. closed.1;
    desk = so_far.desk;
  })
  read-on talk' left' ended none (inr came) =
      let piece = came.0 in
      let joined : so_far.gone ++ (talk.standing.waiting ++ piece) ≡ (so_far.gone ++ talk.standing.waiting) ++ piece = sym (append_assoc so_far.gone talk.standing.waiting piece) in
      subst (Progress Streams start (record { desk = now.desk; left = left'; ended = ended; held = now.held })) (sym came.5) (record {
        turns = so_far.turns;
        given = so_far.given;
        gone = so_far.gone;
        gives = subst (λ b. Gives start.left left' b) (sym joined) (Gives-append start.left now.left left' (so_far.gone ++ talk.standing.waiting) piece so_far.gives came.3);
        no_further = inr (bytes, piece, joined, came.2, more-wanted none);
        count = ap (λ n. n + length piece) so_far.count ∙ sym (length-append (so_far.gone ++ talk.standing.waiting) piece) ∙ ap (λ b. length b) (sym joined);
        reads = so_far.reads;
        comes = so_far.comes;
        open_ = so_far.open_;
        each = so_far.each;
        written = so_far.written;
        ended = λ is. came.4 ∙ so_far.ended is;
        desk = so_far.desk;
      })

  pub input-ends : talk.taken ≤ 2 ^ 62 → talk.standing.closed ≡ true → HoldsNoPart talk.standing.place talk.standing.waiting → talk.standing.place ≡ Between → talk.standing.waiting ≡ [] → Talked Streams start now end.Closed
  input-ends most closed none at empty = ended-none end.Closed most (none-left none) (λ rs h. h) (λ h. h) (rest-waits at ∙ empty, inl (so_far.ended closed)) refl tt

  pub cut-ends : talk.taken ≤ 2 ^ 62 → talk.standing.closed ≡ true → (talk.standing.place ≡ Between → talk.standing.waiting ≢ []) → HoldsNoPart talk.standing.place talk.standing.waiting → Talked Streams start now end.Cut
  cut-ends most closed some none = ended-none end.Cut most (none-left none) (λ rs h. h) (λ h. h) (left, so_far.ended closed, open-left none) refl tt
    where
      front-nil : (a b : List ℕ) → a ++ b ≡ [] → a ≡ []
      front-nil [] b is = refl
      front-nil (x ∷ a) b is = absurd (let none : length ((x ∷ a) ++ b) ≡ 0 = ap (λ l. length l) is in omega (arith, none))

      go : (place : Place) (given : Option Given) → talk.standing.place ≡ place → IsBegun place given so_far.reads.begun → rest ≢ []
      go Between given at is none = some at (sym (rest-waits at) ∙ none)
      go (Counted n) None at is none = is
      go (Chunked p) None at is none = is
      go (Counted n) (Some g) at is none = begun-some (Counted n) g so_far.reads.begun is (front-nil so_far.reads.begun talk.standing.waiting none)
      go (Chunked p) (Some g) at is none = begun-some (Chunked p) g so_far.reads.begun is (front-nil so_far.reads.begun talk.standing.waiting none)

      left : rest ≢ []
      left = go talk.standing.place so_far.given refl so_far.reads.is_begun

  -- a read that gives no byte
  still : (left' : Option (List ℕ)) (ended' : Bool) (e : TalkEnd) → left' ≡ now.left → ended' ≡ now.ended → Talked Streams start now e → Talked Streams start (record { desk = now.desk; left = left'; ended = ended'; held = now.held }) e
  still left' ended' e left ended talked = subst (λ left. Talked Streams start (record { desk = now.desk; left = left; ended = ended'; held = now.held }) e) (sym left) (subst (λ ended. Talked Streams start (record { desk = now.desk; left = now.left; ended = ended; held = now.held }) e) (sym ended) talked)

  pub read-ends : (talk' : TalkParts) (left' : Option (List ℕ)) (ended' : Bool) (e : TalkEnd) → talk.taken ≤ 2 ^ 62 → HoldsNoPart talk.standing.place talk.standing.waiting → Reads talk talk' now.left left' now.ended ended' (Ended e) → Talked Streams start (record { desk = now.desk; left = left'; ended = ended'; held = now.held }) e
  read-ends talk' left' ended' end.Long most none reads = still left' ended' end.Long reads.0 reads.1 (ended-none end.Long most (none-left none) (λ rs h. h) (λ h. h) (sym so_far.count ∙ reads.2, open-left none, so_far.open_) refl tt)
  read-ends talk' left' ended' end.ReadFault most none reads = still left' ended' end.ReadFault reads.0 reads.1 (ended-none end.ReadFault most (none-left none) (λ rs h. h) (λ h. h) (open-left none, so_far.open_) refl tt)
  read-ends talk' left' ended' end.Closed most none reads = absurd reads
  read-ends talk' left' ended' end.Cut most none reads = absurd reads
  read-ends talk' left' ended' end.Bad most none reads = absurd reads
  read-ends talk' left' ended' end.WriteFault most none reads = absurd reads
  read-ends talk' left' ended' end.Memory most none reads = absurd reads

  -- ---- memory is wanting
  -- where nothing was done at the desk
  pub memory-here : (held : Option (List ℕ)) → talk.taken ≤ 2 ^ 62 → held ≡ now.held → Talked Streams start (record { desk = now.desk; left = now.left; ended = now.ended; held = held }) end.Memory
  memory-here held most same =
      let front = front-of (given_by so_far.turns) so_far.given so_far.gone talk.standing.waiting talk.standing.place stay-open so_far.reads in
      record {
        turns = so_far.turns;
        requests = front.requests;
        taken = bytes;
        rest = rest;
        points = [];
        gives = so_far.gives;
        few = few most;
        no_further = so_far.no_further;
        given = front.given;
        reads = front.begin;
        each = so_far.each;
        goes_on = open-on so_far.turns so_far.open_;
        refusal = None;
        written = subst (λ held. Writes start.held held (turns_text so_far.turns)) (sym same) so_far.written;
        refused = tt;
        cause = so_far.open_;
        left = inl refl;
        desk = so_far.desk;
      }

  -- and of a request that is left without its answer
  pub memory-ends : (g : Given) (desk : ClockedDesk) (held : Option (List ℕ)) → OneMore (given_by so_far.turns) g bytes → talk.taken ≤ 2 ^ 62 → (points : List Point) × Chain now.desk points desk × LeavesUnanswered Streams g points → held ≡ now.held → Talked Streams start (record { desk = desk; left = now.left; ended = now.ended; held = held }) end.Memory
  memory-ends g desk held one most made same =
      let front = before (given_by so_far.turns) g bytes stay-open one in
      record {
        turns = so_far.turns;
        requests = front.requests;
        taken = bytes;
        rest = request_text one.request ++ one.behind;
        points = made.0;
        gives = so_far.gives;
        few = few most;
        no_further = so_far.no_further;
        given = front.given;
        reads = front.begin;
        each = so_far.each;
        goes_on = open-on so_far.turns so_far.open_;
        refusal = None;
        written = subst (λ held. Writes start.held held (turns_text so_far.turns)) (sym same) so_far.written;
        refused = tt;
        cause = so_far.open_;
        left = inr (record {
          given = g;
          request = one.request;
          behind = one.behind;
          begins = begins-rest (given_by so_far.turns) g bytes stay-open one;
          is = ((one.same, one.read, one.is_request), tt);
          left = made.2;
        });
        desk = record { chain = chain-append start.desk now.desk desk (points_of so_far.turns) made.0 so_far.desk.chain made.1; answers = so_far.desk.answers };
      }

  -- ---- an answer
  module _ (g : Given) (t : Turn) (desk : ClockedDesk) (held : Option (List ℕ)) (next : NextTurn Streams now.desk desk g t) where
    abbrev turns' : List Turn
    turns' = so_far.turns ++ t ∷ []

    given-is : given_by so_far.turns ++ g ∷ [] ≡ given_by turns'
    given-is = ap (λ g. given_by so_far.turns ++ g ∷ []) (sym next.given) ∙ sym (given_by-push so_far.turns t)

    desk-next : AtDesk Streams start.desk desk turns' []
    desk-next = record {
      chain = subst (λ points. Chain start.desk points desk) (sym (points_of-push so_far.turns t)) (chain-append start.desk now.desk desk (points_of so_far.turns) t.points so_far.desk.chain next.chain);
      answers = all_push (Answers Streams start.desk.view.told_bytes) so_far.turns t so_far.desk.answers (subst (λ told. Answers Streams told t) (chain-bytes start.desk now.desk (points_of so_far.turns) so_far.desk.chain) next.answers);
    }

    written-next : Writes now.held held (answer_text t.closes t.answer) → Writes start.held held (turns_text turns')
    written-next writes = subst (Writes start.held held) (sym (turns_text-push so_far.turns t)) (Writes-append start.held now.held held (turns_text so_far.turns) (answer_text t.closes t.answer) so_far.written writes)

    pub answered-on : (gone : List ℕ) (s' : Standing) → talk.standing.waiting ≡ gone ++ s'.waiting → HasRead (given_by so_far.turns ++ g ∷ []) None (so_far.gone ++ gone) s'.place → t.closes ≡ false → Writes now.held held (answer_text t.closes t.answer) → s'.closed ≡ talk.standing.closed → Progress Streams start (record { desk = desk; left = now.left; ended = now.ended; held = held }) (record { standing = s'; coming = None; taken = talk.taken })
    answered-on gone s' text reads open_ writes closed = record {
      turns = turns';
      given = None;
      gone = so_far.gone ++ gone;
      gives = subst (λ b. Gives start.left now.left b) (sym (came gone s' text)) so_far.gives;
      count = so_far.count ∙ ap (λ b. length b) (sym (came gone s' text));
      no_further = subst ReadNoFurther (sym (came gone s' text)) so_far.no_further;
      reads = subst (λ gs. HasRead gs None (so_far.gone ++ gone) s'.place) given-is reads;
      comes = tt;
      open_ = all_push (λ t. t.closes ≡ false) so_far.turns t so_far.open_ open_;
      each = all_push ClosesBy so_far.turns t so_far.each next.closes;
      written = written-next writes;
      ended = λ is. so_far.ended (sym closed ∙ is);
      desk = desk-next;
    }

    last-is : t.closes ≡ true → IsLast g.head g.content
    last-is is = subst (λ g. IsLast g.head g.content) next.given (go t.closes is next.closes)
      where
        go : (closes : Bool) → closes ≡ true → MatchBool closes (IsLast t.given.head t.given.content) (¬ (IsLast t.given.head t.given.content)) → IsLast t.given.head t.given.content
        go true is by = by
        go false is by = cc is

    pub answered-last : OneMore (given_by so_far.turns) g bytes → talk.taken ≤ 2 ^ 62 → t.closes ≡ true → Writes now.held held (answer_text t.closes t.answer) → Talked Streams start (record { desk = desk; left = now.left; ended = now.ended; held = held }) end.Closed
    answered-last one most closes writes =
        let all = all-and (given_by so_far.turns) g bytes stay-open one (last-is closes) in
        record {
          turns = turns';
          requests = all.requests;
          taken = bytes;
          rest = [];
          points = [];
          gives = so_far.gives;
          few = few most;
          no_further = so_far.no_further;
          given = subst (λ gs. AreRead gs all.requests) given-is all.given;
          reads = all.reads;
          each = all_push ClosesBy so_far.turns t so_far.each next.closes;
          goes_on = open-then so_far.turns t so_far.open_;
          refusal = None;
          written = written-next writes;
          refused = tt;
          cause = (refl, inr (so_far.turns, t, refl, closes));
          left = refl;
          desk = desk-next;
        }

    pub answered-part : OneMore (given_by so_far.turns) g bytes → talk.taken ≤ 2 ^ 62 → WritesPart now.held held (answer_text t.closes t.answer) → Talked Streams start (record { desk = desk; left = now.left; ended = now.ended; held = held }) end.WriteFault
    answered-part one most part =
        let front = front-and (given_by so_far.turns) g bytes stay-open one in
        record {
          turns = turns';
          requests = front.requests;
          taken = bytes;
          rest = one.behind;
          points = [];
          gives = so_far.gives;
          few = few most;
          no_further = so_far.no_further;
          given = subst (λ gs. AreRead gs front.requests) given-is front.given;
          reads = front.begin;
          each = all_push ClosesBy so_far.turns t so_far.each next.closes;
          goes_on = open-then so_far.turns t so_far.open_;
          refusal = None;
          refused = tt;
          written = (so_far.turns, t, refl, now.held, so_far.written, part);
          cause = tt;
          left = refl;
          desk = desk-next;
        }

  -- ---- a request that is too long
  -- it is refused, or why not
  pub refused-long : (g : Given) (bare : Bool) (held : Option (List ℕ)) (new : TalkParts) (turned : Turned) → talk.taken ≤ 2 ^ 62 → IsTooLong g.head g.content → MatchBool bare (IsBare g.head) (¬ (IsBare g.head)) → OneMore (given_by so_far.turns) g bytes → RefusesLong bare now.held held turned → GoesOn Streams start (record { desk = now.desk; left = now.left; ended = now.ended; held = held }) new turned
  refused-long g bare held new More most long bare_is one refuses = absurd refuses
  refused-long g bare held new (Ended e) most long bare_is one (inl told) =
      subst (Talked Streams start (record { desk = now.desk; left = now.left; ended = now.ended; held = held })) (sym told.0) (answered-last g _ now.desk held (refused-turn Streams now.desk g bare long bare_is) one most refl told.1)
  refused-long g bare held new (Ended e) most long bare_is one (inr fails) =
      fails-by (Talked Streams start (record { desk = now.desk; left = now.left; ended = now.ended; held = held })) (too_long_text bare) now.held held e fails
      (λ part. answered-part g _ now.desk held (refused-turn Streams now.desk g bare long bare_is) one most part)
      (λ same. memory-here held most same)

-- ---- where memory was wanting before the first turn
pub memory-at-once : (Streams : Option Refusal → Type 0) (now : Moment) → Talked Streams now now end.Memory
memory-at-once Streams now =
    let talk : TalkParts = record { standing = record { place = Between; body = []; waiting = []; closed = false }; coming = None; taken = 0 } in
    memory-here Streams now now talk (progress-start Streams now talk refl refl refl) now.held (omega (arith)) refl
