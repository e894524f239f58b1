-- The bytes that were taken say which requests were given, and as much of their data.
use Rattle.std.proofs.Common.{◌≡◌, ◌≢◌, ◌+◌, ◌∙◌, ⊎_elim, ℕ, List, [], ◌∷◌, ◌++◌, length, take, Some, None, refl, sym, ap, subst, arith, append_assoc, append-nil, length-append}
use Rattle.std.specs.Prelude.{Option}
use Rattle.std.specs.List.{flat_map}
use Rattle.std.proofs.lemmas.List.{append_cancel_left, take_at, nil_from_length}
use Rattle.std.proofs.lemmas.List.Sums.{fold-append}
use Rattle.httparse.specs.Grammar.{RequestHead, ReadsRequest, print_blank, print_end, print_field, print_request, print_version}
use Rattle.httparse.proofs.GrammarLemmas.{request_unique}
use Rattle.hb_http.specs.ChunkPlaces.{body_start, chunk_step, data_after, place_after}
use Rattle.hb_http.specs.Chunks.{IsChunkedBody}
use Rattle.hb_http.specs.Framing.{HasLength, IsChunked}
use Rattle.hb_http.specs.Headers.{headers_of}
use Rattle.hb_http.specs.Heads.{HasNoHead, IsHead}
use Rattle.hb_http.specs.Parts.{HoldsNoPart}
use Rattle.hb_http.specs.Readings.{AreWhole, Given, HasRead, IsBegun, IsBodyOf, IsWhole, all_given}
use Rattle.hb_http.specs.declared.chunk_places.ChunkPlace.{ChunkPlace}
use Rattle.hb_http.specs.declared.chunk_places.ChunkPlace.TheVariants.{Over, Bad as BadBody}
use Rattle.hb_http.specs.declared.places.Place.{Place}
use Rattle.hb_http.specs.declared.places.Place.TheVariants.{Between, Counted, Chunked}
use Rattle.hb_http.proofs.ChunkLaws.{bad_stays, no_front, one_content}
use Rattle.hb_http.proofs.ChunkRuns.{run_body}
use Rattle.hb_http.proofs.FramingLaws.{HasLength-not_chunked, HasLength-unique}
use Rattle.hb_http.proofs.PartsRead.{begun_through, taken_on}
use Rattle.hb_http.proofs.LineCounts.{fronts, print_is, start_line}

-- the text of a head isn't empty
pub head_some : (h : RequestHead) → print_request h ≢ []
head_some h none =
    let size : length (start_line h ++ (flat_map print_field h.fields ++ print_end h.last)) ≡ 0 = ap length (sym (print_is h) ∙ none) in
    let first : length (start_line h) ≡ 0 = omega (arith, length-append (start_line h) (flat_map print_field h.fields ++ print_end h.last)) in
    no_line h first
  where
    no_line : (h : RequestHead) → length (start_line h) ≡ 0 → ⊥
    no_line h none =
        omega (
          arith,
          length-append (((print_blank h.blank ++ h.method) ++ 32 ∷ h.target) ++ 32 ∷ print_version h.minor) (print_end h.line_end),
          length-append ((print_blank h.blank ++ h.method) ++ 32 ∷ h.target) (32 ∷ print_version h.minor),
        )

-- no head stands in no bytes
pub no_head_in_nothing : (h : RequestHead) (rest : List ℕ) → ¬ (IsHead [] h rest)
no_head_in_nothing h rest is =
    let sizes : 0 ≡ length (print_request h) + length rest = ap length is.reads.1 ∙ length-append (print_request h) rest in
    head_some h (nil_from_length (print_request h) (omega arith))

-- two texts of one length that begin the same bytes
same_length : (a b r q : List ℕ) → a ++ r ≡ b ++ q → length a ≡ length b → a ≡ b
same_length a b r q same long = sym (take_at a r (length a) refl) ∙ (ap (take (length a)) same ∙ take_at b q (length a) (sym long))

-- two bodies in chunks that begin the same bytes
same_chunked : (a b r q c d : List ℕ) → a ++ r ≡ b ++ q → IsChunkedBody a c → IsChunkedBody b d → a ≡ b
same_chunked a b r q c d same first second = ⊎_elim
    (λ (t : (e : List ℕ) × (a ++ e ≡ b)).
    let none : t.0 ≡ [] = no_front a t.0 c d first (subst (λ (u : List ℕ). IsChunkedBody u d) (sym t.1) second) in
    sym (append-nil a) ∙ (ap (λ (u : List ℕ). a ++ u) (sym none) ∙ t.1))
    (λ (t : (e : List ℕ) × (b ++ e ≡ a)).
    let none : t.0 ≡ [] = no_front b t.0 d c second (subst (λ (u : List ℕ). IsChunkedBody u c) (sym t.1) first) in
    sym (sym (append-nil b) ∙ (ap (λ (u : List ℕ). b ++ u) (sym none) ∙ t.1)))
    (fronts a r b q same)

-- two bodies of one head that begin the same bytes, and their data
pub same_body : (h : RequestHead) (a b r q c d : List ℕ) → a ++ r ≡ b ++ q → IsBodyOf h a c → IsBodyOf h b d → (a ≡ b) × (c ≡ d)
same_body h a b r q c d same first second = ⊎_elim
    (λ (x : HasLength (headers_of h) (length a) × (a ≡ c)). ⊎_elim
    (λ (y : HasLength (headers_of h) (length b) × (b ≡ d)).
    let e : a ≡ b = same_length a b r q same (HasLength-unique (headers_of h) (length a) (length b) x.0 y.0) in
    (e, sym x.1 ∙ (e ∙ y.1)))
    (λ (y : IsChunked (headers_of h) × IsChunkedBody b d). absurd (HasLength-not_chunked (headers_of h) (length a) x.0 y.0))
    second)
    (λ (x : IsChunked (headers_of h) × IsChunkedBody a c). ⊎_elim
    (λ (y : HasLength (headers_of h) (length b) × (b ≡ d)). absurd (HasLength-not_chunked (headers_of h) (length b) y.0 x.0))
    (λ (y : IsChunked (headers_of h) × IsChunkedBody b d).
    let e : a ≡ b = same_chunked a b r q c d same x.1 y.1 in
    (e, one_content b c d (subst (λ (u : List ℕ). IsChunkedBody u c) e x.1) y.1))
    second)
    first

-- the head that a text begins with begins all bytes that begin with the text
reads_on_text : (bytes text rest : List ℕ) (h : RequestHead) (body : List ℕ) → bytes ≡ text ++ rest → IsHead text h body → ReadsRequest bytes h (body ++ rest)
reads_on_text bytes text rest h body same is = (is.reads.0, same ∙ (ap (λ (t : List ℕ). t ++ rest) is.reads.1 ∙ append_assoc (print_request h) body rest))

-- two requests are the same
same_given : (g k : Given) → g.head ≡ k.head → g.content ≡ k.content → g ≡ k
same_given g k head content = λ i. record { head = head i; content = content i }

-- two whole requests that begin the same bytes
same_whole : (bytes a b r q : List ℕ) (g k : Given) → bytes ≡ a ++ r → bytes ≡ b ++ q → IsWhole g a → IsWhole k b → (g ≡ k) × (r ≡ q)
same_whole bytes a b r q g k first second x y =
    let both = request_unique bytes g.head k.head (x.body ++ r) (y.body ++ q) (reads_on_text bytes a r g.head x.body first x.is_head) (reads_on_text bytes b q k.head y.body second y.is_head) in
    let body = same_body k.head x.body y.body r q g.content k.content both.1 (subst (λ (h : RequestHead). IsBodyOf h x.body g.content) both.0 x.is_body) y.is_body in (
      same_given g k both.0 body.1,
      append_cancel_left y.body r q (ap (λ (t : List ℕ). t ++ r) (sym body.0) ∙ both.1),
    )

-- a body in chunks that ended stands nowhere else
ended : (body rest content : List ℕ) (place : ChunkPlace) → IsChunkedBody body content → place_after body_start (body ++ rest) ≡ place → place ≢ Over → place ≢ BadBody → ⊥
ended body [] content place is arrives not_over not_bad =
    not_over (sym arrives ∙ (ap (place_after body_start) (append-nil body) ∙ (run_body body content is).arrives))
ended body (c ∷ rest) content place is arrives not_over not_bad =
    not_bad (sym arrives ∙ (fold-append chunk_step body_start body (c ∷ rest) ∙ (ap (λ (p : ChunkPlace). place_after p (c ∷ rest)) (run_body body content is).arrives ∙ bad_stays rest)))

-- a body by length that is begun, beside a whole one
counted_beside : (h : RequestHead) (body rest begun content : List ℕ) (left : ℕ) → body ++ rest ≡ begun → IsBodyOf h body content → HasLength (headers_of h) (length begun + left) → (content ≡ begun) × (rest ≡ [])
counted_beside h body rest begun content left same is counted = ⊎_elim
    (λ (x : HasLength (headers_of h) (length body) × (body ≡ content)).
    let long : length body ≡ length begun + left = HasLength-unique (headers_of h) (length body) (length begun + left) x.0 counted in
    let sizes : length body + length rest ≡ length begun = sym (length-append body rest) ∙ ap length same in
    let none : rest ≡ [] = nil_from_length rest (omega arith) in
    (sym x.1 ∙ (sym (append-nil body) ∙ (ap (λ (t : List ℕ). body ++ t) (sym none) ∙ same)), none))
    (λ (x : IsChunked (headers_of h) × IsChunkedBody body content). absurd (HasLength-not_chunked (headers_of h) (length begun + left) counted x.0))
    is

-- a whole request and one that is begun and covers all bytes
pub whole_beside : (bytes a r : List ℕ) (g k : Given) (place : Place) → bytes ≡ a ++ r → IsWhole g a → IsBegun place (Some k) bytes → (g ≡ k) × (r ≡ [])
whole_beside bytes a r g k Between same x begun = absurd begun
whole_beside bytes a r g k (Counted left) same x begun =
    let both = request_unique bytes g.head k.head (x.body ++ r) k.content (reads_on_text bytes a r g.head x.body same x.is_head) begun.0.reads in
    let body = counted_beside k.head x.body r k.content g.content left both.1 (subst (λ (h : RequestHead). IsBodyOf h x.body g.content) both.0 x.is_body) begun.1 in
    (same_given g k both.0 body.0, body.1)
whole_beside bytes a r g k (Chunked place) same x begun =
    let both = request_unique bytes g.head k.head (x.body ++ r) begun.begun (reads_on_text bytes a r g.head x.body same x.is_head) begun.is_head.reads in
    ⊎_elim
    (λ (y : HasLength (headers_of k.head) (length x.body) × (x.body ≡ g.content)). absurd (HasLength-not_chunked (headers_of k.head) (length x.body) y.0 begun.chunked))
    (λ (y : IsChunked (headers_of k.head) × IsChunkedBody x.body g.content). absurd (ended x.body r g.content place y.1 (ap (place_after body_start) both.1 ∙ begun.arrives) begun.not_over begun.not_bad))
    (subst (λ (h : RequestHead). IsBodyOf h x.body g.content) both.0 x.is_body)

-- two requests that are begun and cover the same bytes
begun_beside : (bytes : List ℕ) (g k : Given) (p q : Place) → IsBegun p (Some g) bytes → IsBegun q (Some k) bytes → g ≡ k
begun_beside bytes g k Between q x y = absurd x
begun_beside bytes g k (Counted left) Between x y = absurd y
begun_beside bytes g k (Chunked place) Between x y = absurd y
begun_beside bytes g k (Counted left) (Counted other) x y =
    let both = request_unique bytes g.head k.head g.content k.content x.0.reads y.0.reads in same_given g k both.0 both.1
begun_beside bytes g k (Counted left) (Chunked place) x y =
    let both = request_unique bytes g.head k.head g.content y.begun x.0.reads y.is_head.reads in
    absurd (HasLength-not_chunked (headers_of k.head) (length g.content + left) (subst (λ (h : RequestHead). HasLength (headers_of h) (length g.content + left)) both.0 x.1) y.chunked)
begun_beside bytes g k (Chunked place) (Counted left) x y =
    let both = request_unique bytes g.head k.head x.begun k.content x.is_head.reads y.0.reads in
    absurd (HasLength-not_chunked (headers_of k.head) (length k.content + left) y.1 (subst (λ (h : RequestHead). IsChunked (headers_of h)) both.0 x.chunked))
begun_beside bytes g k (Chunked place) (Chunked other) x y =
    let both = request_unique bytes g.head k.head x.begun y.begun x.is_head.reads y.is_head.reads in
    same_given g k both.0 (sym x.content ∙ (ap (data_after body_start) both.1 ∙ y.content))

-- what is behind whole requests: bytes that begin with no head, or a request that is begun
abbrev pub IsRest : Option Given → List ℕ → Type 0
IsRest None rest = HasNoHead rest
IsRest (Some g) rest = (place : Place) × IsBegun place (Some g) rest

-- where a request is begun there is its head
head_of_begun : (place : Place) (g : Given) (bytes : List ℕ) → IsBegun place (Some g) bytes → (rest : List ℕ) × IsHead bytes g.head rest
head_of_begun Between g bytes begun = absurd begun
head_of_begun (Counted left) g bytes begun = (g.content, begun.0)
head_of_begun (Chunked place) g bytes begun = (begun.begun, begun.is_head)

-- nothing was given of no bytes
given_nothing : (done : List Given) (now : Option Given) (whole rest : List ℕ) → whole ++ rest ≡ [] → AreWhole done whole → IsRest now rest → all_given done now ≡ []
given_nothing [] None whole rest none all is = refl
given_nothing [] (Some g) whole rest none all is =
    let here : rest ≡ [] = ap (λ (t : List ℕ). t ++ rest) (sym all) ∙ none in
    let head = head_of_begun is.0 g [] (subst (IsBegun is.0 (Some g)) here is.1) in
    absurd (no_head_in_nothing g.head head.0 head.1)
given_nothing (g ∷ gs) now whole rest none all is =
    let sizes : length whole + length rest ≡ 0 = sym (length-append whole rest) ∙ ap length none in
    let parts : length whole ≡ length all.0 + length all.1 = ap length all.2 ∙ length-append all.0 all.1 in
    let text : all.0 ≡ [] = nil_from_length all.0 (omega arith) in
    absurd (no_head_in_nothing g.head all.3.body (subst (λ (t : List ℕ). IsHead t g.head all.3.body) text all.3.is_head))

all_given-cons : (g : Given) (gs : List Given) (now : Option Given) → all_given (g ∷ gs) now ≡ g ∷ all_given gs now
all_given-cons g gs None = refl
all_given-cons g gs (Some k) = refl

-- the bytes begin with the first of whole requests
text_of_first : (g : Given) (gs : List Given) (bytes whole rest : List ℕ) → bytes ≡ whole ++ rest → (all : AreWhole (g ∷ gs) whole) → bytes ≡ all.0 ++ (all.1 ++ rest)
text_of_first g gs bytes whole rest same all = same ∙ (ap (λ (t : List ℕ). t ++ rest) all.2 ∙ append_assoc all.0 all.1 rest)

-- where no head begins the bytes there is no whole request
no_whole : (g : Given) (gs : List Given) (bytes whole rest : List ℕ) → bytes ≡ whole ++ rest → AreWhole (g ∷ gs) whole → ¬ (HasNoHead bytes)
no_whole g gs bytes whole rest same all none =
    none g.head (all.3.body ++ (all.1 ++ rest)) (record {
      reads = reads_on_text bytes all.0 (all.1 ++ rest) g.head all.3.body (text_of_first g gs bytes whole rest same all) all.3.is_head;
      few = all.3.is_head.few;
      short = all.3.is_head.short;
    })

-- whole requests, and one that covers the same bytes and is begun
covered : (g : Given) (gs : List Given) (now : Option Given) (k : Given) (place : Place) (bytes whole rest : List ℕ) → bytes ≡ whole ++ rest → AreWhole (g ∷ gs) whole → IsRest now rest
    → IsBegun place (Some k) bytes → all_given (g ∷ gs) now ≡ k ∷ []
covered g gs now k place bytes whole rest same all is other =
    let both = whole_beside bytes all.0 (all.1 ++ rest) g k place (text_of_first g gs bytes whole rest same all) all.3 other in
    let none : all_given gs now ≡ [] = given_nothing gs now all.1 rest both.1 all.4 is in
    all_given-cons g gs now ∙ (λ i. both.0 i ∷ none i)

-- nothing but a rest
one_rest : (bytes : List ℕ) (now then : Option Given) → IsRest now bytes → IsRest then bytes → all_given [] now ≡ all_given [] then
one_rest bytes None None x y = refl
one_rest bytes None (Some k) x y = absurd (let head = head_of_begun y.0 k bytes y.1 in x k.head head.0 head.1)
one_rest bytes (Some g) None x y = absurd (let head = head_of_begun x.0 g bytes x.1 in y g.head head.0 head.1)
one_rest bytes (Some g) (Some k) x y = ap (λ (e : Given). e ∷ []) (begun_beside bytes g k x.0 y.0 x.1 y.1)

-- two ways to say what was given of the same bytes are one
pub one_given : (done kept : List Given) (now then : Option Given) (bytes w r v t : List ℕ) → bytes ≡ w ++ r → bytes ≡ v ++ t → AreWhole done w → AreWhole kept v
    → IsRest now r → IsRest then t → all_given done now ≡ all_given kept then
one_given [] [] now then bytes w r v t x y all every is has =
    let here : r ≡ bytes = ap (λ (u : List ℕ). u ++ r) (sym all) ∙ sym x in
    let there : t ≡ bytes = ap (λ (u : List ℕ). u ++ t) (sym every) ∙ sym y in
    one_rest bytes now then (subst (IsRest now) here is) (subst (IsRest then) there has)
one_given [] (k ∷ ks) None then bytes w r v t x y all every is has =
    let here : r ≡ bytes = ap (λ (u : List ℕ). u ++ r) (sym all) ∙ sym x in absurd (no_whole k ks bytes v t y every (subst HasNoHead here is))
one_given [] (k ∷ ks) (Some g) then bytes w r v t x y all every is has =
    let here : r ≡ bytes = ap (λ (u : List ℕ). u ++ r) (sym all) ∙ sym x in sym (covered k ks then g is.0 bytes v t y every has (subst (IsBegun is.0 (Some g)) here is.1))
one_given (g ∷ gs) [] now None bytes w r v t x y all every is has =
    let there : t ≡ bytes = ap (λ (u : List ℕ). u ++ t) (sym every) ∙ sym y in absurd (no_whole g gs bytes w r x all (subst HasNoHead there has))
one_given (g ∷ gs) [] now (Some k) bytes w r v t x y all every is has =
    let there : t ≡ bytes = ap (λ (u : List ℕ). u ++ t) (sym every) ∙ sym y in covered g gs now k has.0 bytes w r x all is (subst (IsBegun has.0 (Some k)) there has.1)
one_given (g ∷ gs) (k ∷ ks) now then bytes w r v t x y all every is has =
    let both = same_whole bytes all.0 every.0 (all.1 ++ r) (every.1 ++ t) g k (text_of_first g gs bytes w r x all) (text_of_first k ks bytes v t y every) all.3 every.3 in
    let rest : all_given gs now ≡ all_given ks then = one_given gs ks now then (all.1 ++ r) all.1 r every.1 t refl both.1 all.4 every.4 is has in
    all_given-cons g gs now ∙ ((λ i. both.0 i ∷ rest i) ∙ sym (all_given-cons k ks then))

-- the bytes that were taken end with a rest
taken_rest : (now : Option Given) (place : Place) (begun : List ℕ) → IsBegun place now begun → IsRest now begun
taken_rest None Between begun is = subst HasNoHead (sym is) no_head_in_nothing
taken_rest None (Counted left) begun is = absurd is
taken_rest None (Chunked place) begun is = absurd is
taken_rest (Some g) place begun is = (place, is)

pub HasRead-unique : (done kept : List Given) (now then : Option Given) (taken : List ℕ) (p q : Place) → HasRead done now taken p → HasRead kept then taken q → all_given done now ≡ all_given kept then
HasRead-unique done kept now then taken p q x y =
    one_given done kept now then taken x.whole x.begun y.whole y.begun x.text y.text x.are_whole y.are_whole (taken_rest now p x.begun x.is_begun) (taken_rest then q y.begun y.is_begun)

-- and so do those that were fed, where they hold no further part
fed_rest : (now : Option Given) (place : Place) (begun waiting : List ℕ) → IsBegun place now begun → HoldsNoPart place waiting → IsRest now (begun ++ waiting)
fed_rest None Between begun waiting is none = subst HasNoHead (ap (λ (t : List ℕ). t ++ waiting) (sym is)) none.0
fed_rest None (Counted left) begun waiting is none = absurd is
fed_rest None (Chunked place) begun waiting is none = absurd is
fed_rest (Some g) Between begun waiting is none = absurd is
fed_rest (Some g) (Counted left) begun waiting is none =
    let same : begun ≡ begun ++ waiting = sym (append-nil begun) ∙ ap (λ (t : List ℕ). begun ++ t) (sym none.1) in (Counted left, subst (IsBegun (Counted left) (Some g)) same is)
fed_rest (Some g) (Chunked place) begun waiting is none = (Chunked (place_after place waiting), begun_through place g begun waiting is none)

-- the same bytes, fed in any pieces, and taken as far as they go
pub one_feeding : (done kept : List Given) (now then : Option Given) (taken gone waiting left : List ℕ) (p q : Place) → HasRead done now taken p → HasRead kept then gone q
    → HoldsNoPart p waiting → HoldsNoPart q left → taken ++ waiting ≡ gone ++ left → all_given done now ≡ all_given kept then
one_feeding done kept now then taken gone waiting left p q x y none nothing same =
    one_given done kept now then (taken ++ waiting) x.whole (x.begun ++ waiting) y.whole (y.begun ++ left)
    (taken_on taken x.whole x.begun waiting x.text) (same ∙ taken_on gone y.whole y.begun left y.text) x.are_whole y.are_whole
    (fed_rest now p x.begun waiting x.is_begun none) (fed_rest then q y.begun left y.is_begun nothing)
