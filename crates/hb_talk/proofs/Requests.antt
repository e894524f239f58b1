-- The requests that were given, as requests of the bytes.
use Rattle.std.proofs.Common.{◌≡◌, ◌≢◌, ◌<◌, ◌+◌, ◌∙◌, ℕ, Bool, true, false, List, [], ◌∷◌, ◌++◌, length, Option, Some, None, MatchBool, refl, sym, ap, subst, inl, inr, arith, append_assoc, append-nil}
use Rattle.std.specs.List.{AllByRecursion, flat_map}
use Rattle.std.proofs.lemmas.List.Concat.{flat_map-append}
use Rattle.httparse.specs.Grammar.{RequestHead, print_request}
use Rattle.hb_http.specs.ChunkPlaces.{body_start, data_after}
use Rattle.hb_http.specs.Heads.{IsHead}
use Rattle.hb_http.specs.Readings.{AreRequests, AreWhole, Given, HasRead, IsBegun, IsBegunInChunks, IsBodyOf, IsWhole}
use Rattle.hb_http.specs.Requests.{HasNoRequest, IsRequest, Request, RequestsOf, request_text}
use Rattle.hb_http.specs.declared.chunk_places.ChunkPlace.{ChunkPlace}
use Rattle.hb_http.specs.declared.places.Place.{Place}
use Rattle.hb_http.specs.declared.places.Place.TheVariants.{Between, Counted, Chunked}
use Rattle.hb_http.proofs.OneReading.{no_head_in_nothing}
use Rattle.hb_http.proofs.PartRequests.{whole_requests}
use Rattle.hb_http.proofs.RequestLaws.{RequestsOf-behind}
use Rattle.hb_talk.specs.Bodies.{AreRead, Closes, IsLast, IsReadOf, IsReadText, IsTooLong, TellsTooLong}
use Rattle.hb_talk.specs.Talks.{BeginWith}
use Rattle.hb_talk.specs.Turns.{ClosesBy, Turn, given_by}
use Rattle.hb_talk.specs.declared.wanted.TheConstants.{MAX_BODY}
use Rattle.hb_talk.proofs.ReadBodies.{one-content, overrun-request, request-read, shortest, told-request}

-- ---- those that were answered, and go on
-- the connection goes on behind it
abbrev pub StaysOpen : Given → Type 0
StaysOpen g = ¬ (IsLast g.head g.content)

not-so : {P : Type 0} (b : Bool) → b ≡ false → MatchBool b P (¬ P) → ¬ P
not-so true is by = cc is
not-so false is by = by

pub all-open : (turns : List Turn) → AllByRecursion (λ t. t.closes ≡ false) turns → AllByRecursion ClosesBy turns → AllByRecursion StaysOpen (given_by turns)
all-open [] open_ by = tt
all-open (t ∷ turns) open_ by = (not-so t.closes open_.0 by.0, all-open turns open_.1 by.1)

-- they are read whole
are-read : (gs : List Given) (rs : List Request) → AreRequests IsBodyOf gs rs → AllByRecursion StaysOpen gs → AreRead gs rs
are-read [] [] are open_ = tt
are-read [] (r ∷ rs) are open_ = absurd are
are-read (g ∷ gs) [] are open_ = absurd are
are-read (g ∷ gs) (r ∷ rs) are open_ =
    let read = request-read g r are.0.0 are.0.1 are.0.2 (λ long. open_.0 (inr long)) in
    ((are.0.0, read.0, read.1), are-read gs rs are.1 open_.1)

each-request : (gs : List Given) (rs : List Request) → AreRead gs rs → AllByRecursion (IsRequest IsReadText) rs
each-request [] [] are = tt
each-request [] (r ∷ rs) are = absurd are
each-request (g ∷ gs) [] are = absurd are
each-request (g ∷ gs) (r ∷ rs) are = (are.0.2, each-request gs rs are.1)

none-closes : (g : Given) (r : Request) → r.head ≡ g.head → IsReadOf g.head r.body g.content → StaysOpen g → ¬ (Closes r.head r.body)
none-closes g r same read open_ closes =
    let other = subst (λ h. Closes h r.body) same closes in
    open_ (subst (IsLast g.head) (sym (one-content g.head r.body g.content other.0 read (λ long. open_ (inr long)) other.1)) other.2)

pub each-open : (gs : List Given) (rs : List Request) → AreRead gs rs → AllByRecursion StaysOpen gs → AllByRecursion (λ r. IsRequest IsReadText r × ¬ (Closes r.head r.body)) rs
each-open [] [] are open_ = tt
each-open [] (r ∷ rs) are open_ = absurd are
each-open (g ∷ gs) [] are open_ = absurd are
each-open (g ∷ gs) (r ∷ rs) are open_ = ((are.0.2, none-closes g r are.0.0 are.0.1 open_.0), each-open gs rs are.1 open_.1)

-- they stand at the front of the bytes
pub record Front (gs : List Given) (bytes rest : List ℕ) : Type 0 where
  pub requests : List Request
  pub given : AreRead gs requests
  pub begin : BeginWith bytes requests rest

behind-whole : (gs : List Given) (bytes whole rest : List ℕ) → AllByRecursion StaysOpen gs → AreWhole gs whole → bytes ≡ whole ++ rest → Front gs bytes rest
behind-whole gs bytes whole rest open_ are text =
    let all = whole_requests gs whole are in
    let given = are-read gs all.0 all.1 open_ in
    record { requests = all.0; given = given; begin = record { text = text ∙ ap (λ b. b ++ rest) all.2; each = each-request gs all.0 given } }

pub front-of : (gs : List Given) (now : Option Given) (gone waiting : List ℕ) (place : Place) → AllByRecursion StaysOpen gs → (read : HasRead gs now gone place) → Front gs (gone ++ waiting) (read.begun ++ waiting)
front-of gs now gone waiting place open_ read =
    behind-whole gs (gone ++ waiting) read.whole (read.begun ++ waiting) open_ read.are_whole (ap (λ b. b ++ waiting) read.text ∙ append_assoc read.whole read.begun waiting)

-- and they are all of them, where none follows
pub record All (gs : List Given) (bytes rest : List ℕ) : Type 0 where
  pub requests : List Request
  pub given : AreRead gs requests
  pub reads : RequestsOf IsReadText Closes bytes requests rest

reads-on : (gs : List Given) (bytes rest end : List ℕ) → AllByRecursion StaysOpen gs → (front : Front gs bytes rest) → (rs : List Request) → RequestsOf IsReadText Closes rest rs end → RequestsOf IsReadText Closes bytes (front.requests ++ rs) end
reads-on gs bytes rest end open_ front rs reads =
    subst (λ b. RequestsOf IsReadText Closes b (front.requests ++ rs) end) (sym front.begin.text) (RequestsOf-behind IsReadText Closes front.requests rs rest end (each-open gs front.requests front.given open_) reads)

pub all-of : (gs : List Given) (now : Option Given) (gone waiting : List ℕ) (place : Place) → AllByRecursion StaysOpen gs → (read : HasRead gs now gone place) → HasNoRequest IsReadText (read.begun ++ waiting) → All gs (gone ++ waiting) (read.begun ++ waiting)
all-of gs now gone waiting place open_ read none =
    let front = front-of gs now gone waiting place open_ read in
    record {
      requests = front.requests;
      given = front.given;
      reads = subst (λ rs. RequestsOf IsReadText Closes (gone ++ waiting) rs (read.begun ++ waiting)) (append-nil front.requests) (reads-on gs (gone ++ waiting) (read.begun ++ waiting) (read.begun ++ waiting) open_ front [] (refl, none));
    }

-- ---- one request more, behind which the connection may close
pub record OneMore (gs : List Given) (g : Given) (bytes : List ℕ) : Type 0 where
  pub whole : List ℕ
  pub request : Request
  pub behind : List ℕ
  pub text : bytes ≡ whole ++ (request_text request ++ behind)
  pub are_whole : AreWhole gs whole
  pub same : request.head ≡ g.head
  pub read : IsReadOf g.head request.body g.content
  pub is_request : IsRequest IsReadText request

are-both : (gs hs : List Given) (rs qs : List Request) → AreRead gs rs → AreRead hs qs → AreRead (gs ++ hs) (rs ++ qs)
are-both [] hs [] qs one two = two
are-both [] hs (r ∷ rs) qs one two = absurd one
are-both (g ∷ gs) hs [] qs one two = absurd one
are-both (g ∷ gs) hs (r ∷ rs) qs one two = (one.0, are-both gs hs rs qs one.1 two)

module _ (gs : List Given) (g : Given) (bytes : List ℕ) (open_ : AllByRecursion StaysOpen gs) (one : OneMore gs g bytes) where
  pub before : Front gs bytes (request_text one.request ++ one.behind)
  before = behind-whole gs bytes one.whole (request_text one.request ++ one.behind) open_ one.are_whole one.text

  all-given : AreRead (gs ++ g ∷ []) (before.requests ++ one.request ∷ [])
  all-given = are-both gs (g ∷ []) before.requests (one.request ∷ []) before.given ((one.same, one.read, one.is_request), tt)

  pub front-and : Front (gs ++ g ∷ []) bytes one.behind
  front-and = record {
    requests = before.requests ++ one.request ∷ [];
    given = all-given;
    begin = record { text = before.begin.text ∙ joined; each = each-request (gs ++ g ∷ []) (before.requests ++ one.request ∷ []) all-given };
  }
    where
      joined : flat_map request_text before.requests ++ (request_text one.request ++ one.behind) ≡ flat_map request_text (before.requests ++ one.request ∷ []) ++ one.behind
      joined = sym (append_assoc (flat_map request_text before.requests) (request_text one.request) one.behind)
          ∙ ap (λ b. b ++ one.behind) (ap (λ t. flat_map request_text before.requests ++ t) (sym (append-nil (request_text one.request))) ∙ sym (flat_map-append request_text before.requests (one.request ∷ [])))

  -- it begins what is behind the front
  pub begins-rest : BeginWith (request_text one.request ++ one.behind) (one.request ∷ []) one.behind
  begins-rest = record { text = ap (λ b. b ++ one.behind) (sym (append-nil (request_text one.request))); each = (one.is_request, tt) }

  -- behind one that closes nothing is read
  pub all-and : IsLast g.head g.content → All (gs ++ g ∷ []) bytes []
  all-and last = record {
    requests = before.requests ++ one.request ∷ [];
    given = all-given;
    reads = reads-on gs bytes (request_text one.request ++ one.behind) [] open_ before (one.request ∷ []) (one.behind, (one.is_request, refl), inl (subst (λ h. Closes h one.request.body) (sym one.same) (g.content, one.read, last), refl, refl));
  }

-- ---- a request that has come to its end
split-whole : (gs : List Given) (g : Given) (bytes : List ℕ) → AreWhole (gs ++ g ∷ []) bytes → (whole text : List ℕ) × (bytes ≡ whole ++ text) × AreWhole gs whole × IsWhole g text
split-whole [] g bytes are = ([], are.0, are.2 ∙ ap (λ rest. are.0 ++ rest) are.4 ∙ append-nil are.0, refl, are.3)
split-whole (x ∷ gs) g bytes are =
    let behind = split-whole gs g are.1 are.4 in
    (are.0 ++ behind.0, behind.1, are.2 ∙ ap (λ rest. are.0 ++ rest) behind.2 ∙ sym (append_assoc are.0 behind.0 behind.1), (are.0, behind.0, refl, are.3, behind.3), behind.4)

nothing-begun : (place : Place) (begun : List ℕ) → IsBegun place None begun → begun ≡ []
nothing-begun Between begun is = is
nothing-begun (Counted left) begun is = absurd is
nothing-begun (Chunked place) begun is = absurd is

pub ended-more : (gs : List Given) (g : Given) (gone waiting : List ℕ) (place : Place) → HasRead (gs ++ g ∷ []) None gone place → ¬ (IsTooLong g.head g.content) → OneMore gs g (gone ++ waiting)
ended-more gs g gone waiting place read short =
    let split = split-whole gs g read.whole read.are_whole in
    let one = whole_requests (g ∷ []) split.1 (split.1, [], sym (append-nil split.1), split.4, refl) in
    let text : gone ≡ split.0 ++ split.1 = read.text ∙ ap (λ b. read.whole ++ b) (nothing-begun place read.begun read.is_begun) ∙ append-nil read.whole ∙ split.2 in
    go split.0 split.1 one.0 text split.3 one.1 one.2
  where
    go : (whole text : List ℕ) (rs : List Request) → gone ≡ whole ++ text → AreWhole gs whole → AreRequests IsBodyOf (g ∷ []) rs → text ≡ flat_map request_text rs → OneMore gs g (gone ++ waiting)
    go whole text [] joined are one is = absurd one
    go whole text (r ∷ q ∷ rs) joined are one is = absurd one.1
    go whole text (r ∷ []) joined are one is =
        let read = request-read g r one.0.0 one.0.1 one.0.2 short in
        record {
          whole = whole;
          request = r;
          behind = waiting;
          text = ap (λ b. b ++ waiting) (joined ∙ ap (λ t. whole ++ t) (is ∙ append-nil (request_text r))) ∙ append_assoc whole (request_text r) waiting;
          are_whole = are;
          same = one.0.0;
          read = read.0;
          is_request = read.1;
        }

-- ---- a request that is begun
-- has a head
head-of-begun : (place : Place) (g : Given) (begun : List ℕ) → IsBegun place (Some g) begun → (rest : List ℕ) × IsHead begun g.head rest
head-of-begun Between g begun is = absurd is
head-of-begun (Counted left) g begun is = (g.content, is.0)
head-of-begun (Chunked place) g begun is = (is.begun, is.is_head)

pub begun-some : (place : Place) (g : Given) (begun : List ℕ) → IsBegun place (Some g) begun → begun ≢ []
begun-some place g begun is none = let head = head-of-begun place g begun is in no_head_in_nothing g.head head.0 (subst (λ b. IsHead b g.head head.0) none head.1)

-- the bytes behind a front of its body
at-front : (gone waiting whole begun head body front back : List ℕ) → gone ≡ whole ++ begun → begun ≡ head ++ body → front ++ back ≡ body → gone ++ waiting ≡ whole ++ ((head ++ front) ++ (back ++ waiting))
at-front gone waiting whole begun head body front back text is joined =
    ap (λ b. b ++ waiting) (text ∙ ap (λ b. whole ++ b) (is ∙ ap (λ b. head ++ b) (sym joined))) ∙ grouped
  where
    grouped : (whole ++ (head ++ (front ++ back))) ++ waiting ≡ whole ++ ((head ++ front) ++ (back ++ waiting))
    grouped = simp append_assoc

-- of one that is too long so much is read as shows it
pub record LongMore (gs : List Given) (h : RequestHead) (bytes : List ℕ) : Type 0 where
  pub content : List ℕ
  pub long : IsTooLong h content
  pub more : OneMore gs (record { head = h; content = content }) bytes

told-more : (gs : List Given) (g : Given) (gone waiting : List ℕ) (place : Place) → HasRead gs (Some g) gone place → TellsTooLong g.head → LongMore gs g.head (gone ++ waiting)
told-more gs g gone waiting place read tells =
    let head = head-of-begun place g read.begun read.is_begun in
    record {
      content = [];
      long = inl tells;
      more = record {
        whole = read.whole;
        request = record { head = g.head; body = [] };
        behind = head.0 ++ waiting;
        text = at-front gone waiting read.whole read.begun (print_request g.head) head.0 [] head.0 read.text head.1.reads.1 refl;
        are_whole = read.are_whole;
        same = refl;
        read = inr (inl (tells, refl, refl));
        is_request = told-request read.begun g.head head.0 head.1 tells;
      };
    }

overrun-more : (gs : List Given) (g : Given) (gone waiting : List ℕ) (place : ChunkPlace) → HasRead gs (Some g) gone (Chunked place) → MAX_BODY < length g.content → LongMore gs g.head (gone ++ waiting)
overrun-more gs g gone waiting place read above =
    let begun : IsBegunInChunks place g read.begun = read.is_begun in
    let s = shortest body_start MAX_BODY begun.begun (subst (λ d. MAX_BODY < length d) (sym begun.content) above) in
    record {
      content = data_after body_start s.front;
      long = inr s.above;
      more = record {
        whole = read.whole;
        request = record { head = g.head; body = s.front };
        behind = s.back ++ waiting;
        text = at-front gone waiting read.whole read.begun (print_request g.head) begun.begun s.front s.back read.text begun.is_head.reads.1 s.joined;
        are_whole = read.are_whole;
        same = refl;
        read = inr (inr (begun.chunked, refl, s.above));
        is_request = overrun-request place g read.begun begun s;
      };
    }

pub long-more : (gs : List Given) (g : Given) (gone waiting : List ℕ) (place : Place) → HasRead gs (Some g) gone place → IsTooLong g.head g.content → LongMore gs g.head (gone ++ waiting)
long-more gs g gone waiting place read (inl tells) = told-more gs g gone waiting place read tells
long-more gs g gone waiting Between read (inr above) = absurd read.is_begun
long-more gs g gone waiting (Counted left) read (inr above) = told-more gs g gone waiting (Counted left) read (length g.content + left, read.is_begun.1, omega (arith, above))
long-more gs g gone waiting (Chunked place) read (inr above) = overrun-more gs g gone waiting place read above
