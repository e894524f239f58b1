-- The bytes end inside a target exactly where the walk is in one.
use Rattle.std.proofs.Common.{◌≡◌, ◌<◌, ◌+◌, ℕ, List, [], ◌∷◌, ◌++◌, length, Bool, true, false, true≢false, refl, sym, ap, ◌∙◌, subst, arith, append_assoc, append-nil, length-append, fold, eqb-true, ne_eqb}
use Rattle.std.specs.Prelude.{if◌then◌else◌, ◌==◌, ⊤}
use Rattle.std.proofs.lemmas.List.Elements.{All-head, All-tail, All-nil, All-push}
use Rattle.std.proofs.lemmas.List.Sums.{fold-append}
use Rattle.httparse.specs.Grammar.{is_token_byte, is_uri_byte, AllPass, IsToken, LineEnd, crlf, lf, print_blank, EndsInTarget, NeverHasRequest, HasNoRequest}
use Rattle.httparse.proofs.OnLiterals.{httparse_on_literals}
use Rattle.hb_http.specs.declared.start_lines.Reach.{Reach}
use Rattle.hb_http.specs.declared.start_lines.Reach.TheVariants.{EmptyLines, AfterReturn, Method, Target, Beyond}
use Rattle.hb_http.specs.WholeLines.{after_byte, whole_lines}
use Rattle.hb_http.specs.Reaches.{reach_after}
use Rattle.hb_http.proofs.LineCounts.{blank_lines, method_begins, none_in, from_zero, token_feed, token_return, uri_feed, more_lines}

-- The walk reaches a target in bytes that end inside one.

-- empty lines
blanks : (es : List LineEnd) → fold reach_after EmptyLines (print_blank es) ≡ EmptyLines
blanks [] = refl
blanks (crlf ∷ es) = blanks es
blanks (lf ∷ es) = blanks es

-- a byte of a token is not one that no token has
token_not : (n : ℕ) → is_token_byte n ≡ false → (c : ℕ) → is_token_byte c ≡ true → (c == n) ≡ false
token_not n none c e = ne_eqb c n (λ s. true≢false (sym e ∙ (ap is_token_byte s ∙ none)))

-- a token has no blank
no_space : is_token_byte 32 ≡ false
unfolding httparse_on_literals
no_space = refl

-- the first byte of a method, by its tests
first_by : (x y z : Bool) → x ≡ false → y ≡ false → z ≡ true → (if x then EmptyLines else if y then AfterReturn else if z then Method else Beyond) ≡ Method
first_by false false true a b c = refl
first_by true y z a b c = absurd (true≢false a)
first_by false true z a b c = absurd (true≢false b)
first_by false false false a b c = absurd (true≢false (sym c))

-- a further byte of it
next_by : (x z : Bool) → x ≡ false → z ≡ true → (if x then Target else if z then Method else Beyond) ≡ Method
next_by false true a b = refl
next_by true z a b = absurd (true≢false a)
next_by false false a b = absurd (true≢false (sym b))

-- a byte of a target
uri_by : (z : Bool) → z ≡ true → (if z then Target else Beyond) ≡ Target
uri_by true a = refl
uri_by false a = absurd (true≢false (sym a))

-- bytes of a token stay in the method
on_method : (bs : List ℕ) → AllPass is_token_byte bs → fold reach_after Method bs ≡ Method
on_method [] all = refl
on_method (c ∷ cs) all =
    let first : is_token_byte c ≡ true = All-head (λ v. is_token_byte v ≡ true) c cs all in
    ap (λ (p : Reach). fold reach_after p cs) (next_by (c == 32) (is_token_byte c) (token_not 32 no_space c first) first)
    ∙ on_method cs (All-tail (λ v. is_token_byte v ≡ true) c cs all)

-- a token behind empty lines is a method
method : (bs : List ℕ) → IsToken bs → fold reach_after EmptyLines bs ≡ Method
method [] token = let some = token.0 in absurd (omega arith)
method (c ∷ cs) token =
    let first : is_token_byte c ≡ true = All-head (λ v. is_token_byte v ≡ true) c cs token.1 in
    ap (λ (p : Reach). fold reach_after p cs) (first_by (c == 10) (c == 13) (is_token_byte c) (token_not 10 token_feed c first) (token_not 13 token_return c first) first)
    ∙ on_method cs (All-tail (λ v. is_token_byte v ≡ true) c cs token.1)

-- bytes of a target stay in it
on_target : (bs : List ℕ) → AllPass is_uri_byte bs → fold reach_after Target bs ≡ Target
on_target [] all = refl
on_target (c ∷ cs) all =
    let first : is_uri_byte c ≡ true = All-head (λ v. is_uri_byte v ≡ true) c cs all in
    ap (λ (p : Reach). fold reach_after p cs) (uri_by (is_uri_byte c) first)
    ∙ on_target cs (All-tail (λ v. is_uri_byte v ≡ true) c cs all)

-- empty lines and a method
walk_start : (es : List LineEnd) (m : List ℕ) → IsToken m → fold reach_after EmptyLines (print_blank es ++ m) ≡ Method
walk_start es m token = fold-append reach_after EmptyLines (print_blank es) m ∙ (ap (λ (p : Reach). fold reach_after p m) (blanks es) ∙ method m token)

-- bytes that end inside a target reach it
pub ends_there : (b : List ℕ) → EndsInTarget b → fold reach_after EmptyLines b ≡ Target
ends_there b e =
    ap (λ (x : List ℕ). fold reach_after EmptyLines x) e.5
    ∙ (fold-append reach_after EmptyLines (print_blank e.0 ++ e.1) (32 ∷ e.2)
    ∙ (ap (λ (p : Reach). fold reach_after p (32 ∷ e.2)) (walk_start e.0 e.1 e.3) ∙ on_target e.2 e.4))

-- What a reach says of the bytes so far. So where it is a target, they end inside one.
abbrev Reaches : Reach → List ℕ → Type 0
Reaches EmptyLines b = (blank : List LineEnd) × (b ≡ print_blank blank)
Reaches AfterReturn b = (blank : List LineEnd) × (b ≡ print_blank blank ++ 13 ∷ [])
Reaches Method b = (blank : List LineEnd) × (method : List ℕ) × IsToken method × (b ≡ print_blank blank ++ method)
Reaches Target b = EndsInTarget b
Reaches Beyond b = ⊤

-- one empty line more, by its line feed
one_more : (es : List LineEnd) → print_blank (es ++ lf ∷ []) ≡ print_blank es ++ 10 ∷ []
one_more [] = refl
one_more (crlf ∷ es) = ap (λ (t : List ℕ). 13 ∷ 10 ∷ t) (one_more es)
one_more (lf ∷ es) = ap (λ (t : List ℕ). 10 ∷ t) (one_more es)

-- one empty line more, by both bytes
two_more : (es : List LineEnd) → print_blank (es ++ crlf ∷ []) ≡ print_blank es ++ 13 ∷ 10 ∷ []
two_more [] = refl
two_more (crlf ∷ es) = ap (λ (t : List ℕ). 13 ∷ 10 ∷ t) (two_more es)
two_more (lf ∷ es) = ap (λ (t : List ℕ). 10 ∷ t) (two_more es)

-- a token with one byte more
token_more : (bs : List ℕ) (c : ℕ) → AllPass is_token_byte bs → is_token_byte c ≡ true → IsToken (bs ++ c ∷ [])
token_more bs c all e = (let l : length (bs ++ c ∷ []) ≡ length bs + 1 = length-append bs (c ∷ []) in omega arith, All-push (λ v. is_token_byte v ≡ true) bs c all e)

-- the last byte, by its number
ended : (b : List ℕ) (c n : ℕ) → c ≡ n → b ++ c ∷ [] ≡ b ++ n ∷ []
ended b c n e = ap (λ (x : ℕ). b ++ x ∷ []) e

-- one byte more behind empty lines
from_blank : (b : List ℕ) (c : ℕ) → Reaches EmptyLines b → (x y z : Bool) → (c == 10) ≡ x → (c == 13) ≡ y → is_token_byte c ≡ z
    → Reaches (if x then EmptyLines else if y then AfterReturn else if z then Method else Beyond) (b ++ c ∷ [])
from_blank b c h true y z ex ey ez =
    (h.0 ++ lf ∷ [], ended b c 10 (eqb-true c 10 ex) ∙ (ap (λ (t : List ℕ). t ++ 10 ∷ []) h.1 ∙ sym (one_more h.0)))
from_blank b c h false true z ex ey ez =
    (h.0, ended b c 13 (eqb-true c 13 ey) ∙ ap (λ (t : List ℕ). t ++ 13 ∷ []) h.1)
from_blank b c h false false true ex ey ez =
    (h.0, c ∷ [], token_more [] c (All-nil (λ v. is_token_byte v ≡ true)) ez, ap (λ (t : List ℕ). t ++ c ∷ []) h.1)
from_blank b c h false false false ex ey ez = tt

-- behind a carriage return
from_return : (b : List ℕ) (c : ℕ) → Reaches AfterReturn b → (x : Bool) → (c == 10) ≡ x → Reaches (if x then EmptyLines else Beyond) (b ++ c ∷ [])
from_return b c h true ex =
    (h.0 ++ crlf ∷ [], ended b c 10 (eqb-true c 10 ex) ∙ (ap (λ (t : List ℕ). t ++ 10 ∷ []) h.1 ∙ (append_assoc (print_blank h.0) (13 ∷ []) (10 ∷ []) ∙ sym (two_more h.0))))
from_return b c h false ex = tt

-- in a method
from_method : (b : List ℕ) (c : ℕ) → Reaches Method b → (x z : Bool) → (c == 32) ≡ x → is_token_byte c ≡ z
    → Reaches (if x then Target else if z then Method else Beyond) (b ++ c ∷ [])
from_method b c h true z ex ez =
    (h.0, h.1, [], h.2, All-nil (λ v. is_uri_byte v ≡ true), ended b c 32 (eqb-true c 32 ex) ∙ ap (λ (t : List ℕ). t ++ 32 ∷ []) h.3)
from_method b c h false true ex ez =
    (h.0, h.1 ++ c ∷ [], token_more h.1 c h.2.1 ez, ap (λ (t : List ℕ). t ++ c ∷ []) h.3 ∙ append_assoc (print_blank h.0) h.1 (c ∷ []))
from_method b c h false false ex ez = tt

-- in a target
from_target : (b : List ℕ) (c : ℕ) → Reaches Target b → (z : Bool) → is_uri_byte c ≡ z → Reaches (if z then Target else Beyond) (b ++ c ∷ [])
from_target b c h true ez = (
  h.0,
  h.1,
  h.2 ++ c ∷ [],
  h.3,
  All-push (λ v. is_uri_byte v ≡ true) h.2 c h.4 ez,
  ap (λ (t : List ℕ). t ++ c ∷ []) h.5 ∙ append_assoc (print_blank h.0 ++ h.1) (32 ∷ h.2) (c ∷ []),
)
from_target b c h false ez = tt

-- what a reach says holds with one byte more
stands_on : (p : Reach) (b : List ℕ) (c : ℕ) → Reaches p b → Reaches (reach_after p c) (b ++ c ∷ [])
stands_on EmptyLines b c h = from_blank b c h (c == 10) (c == 13) (is_token_byte c) refl refl refl
stands_on AfterReturn b c h = from_return b c h (c == 10) refl
stands_on Method b c h = from_method b c h (c == 32) (is_token_byte c) refl refl
stands_on Target b c h = from_target b c h (is_uri_byte c) refl
stands_on Beyond b c h = tt

-- and with any number of them
stands : (bs b : List ℕ) (p : Reach) → Reaches p b → Reaches (fold reach_after p bs) (b ++ bs)
stands [] b p h = subst (λ (t : List ℕ). Reaches p t) (sym (append-nil b)) h
stands (c ∷ cs) b p h =
    subst (λ (t : List ℕ). Reaches (fold reach_after (reach_after p c) cs) t) (append_assoc b (c ∷ []) cs)
    (stands cs (b ++ c ∷ []) (reach_after p c) (stands_on p b c h))

-- bytes that reach a target end inside it
pub is_there : (b : List ℕ) → fold reach_after EmptyLines b ≡ Target → EndsInTarget b
is_there b e = subst (λ (p : Reach). Reaches p b) e (stands b [] EmptyLines ([], refl))

-- bytes that end inside a target have no whole line
no_line : (b : List ℕ) → EndsInTarget b → whole_lines b ≡ 0
no_line b e =
    let none = none_in is_uri_byte uri_feed e.2 e.4 in
    let begun : fold after_byte (false, 0) (print_blank e.0 ++ e.1) ≡ (true, 0) =
    fold-append after_byte (false, 0) (print_blank e.0) e.1 ∙ (ap (λ (s : Bool × ℕ). fold after_byte s e.1) (blank_lines e.0) ∙ method_begins e.1 e.3) in
    let all : fold after_byte (false, 0) ((print_blank e.0 ++ e.1) ++ 32 ∷ e.2) ≡ (true, 0) =
    fold-append after_byte (false, 0) (print_blank e.0 ++ e.1) (32 ∷ e.2) ∙ (ap (λ (s : Bool × ℕ). fold after_byte s (32 ∷ e.2)) begun ∙ (from_zero e.2 ∙ (λ i. (true, none i)))) in
    ap whole_lines e.5 ∙ ap (λ (s : Bool × ℕ). s.1) all

-- bytes with a whole line don't end inside a target
pub past_target : (n : ℕ) (seen rest b : List ℕ) → seen ++ rest ≡ b → fold after_byte (false, 0) seen ≡ (true, n) → 0 < n → ¬ (EndsInTarget b)
past_target n seen rest b parts many some e =
    let none = no_line b e in
    let more = more_lines seen rest in
    let same : whole_lines (seen ++ rest) ≡ whole_lines b = ap whole_lines parts in
    let so : whole_lines seen ≡ n = ap (λ (s : Bool × ℕ). s.1) many in
    omega arith

-- what can never begin with a head does not begin with one
pub no_more : (b : List ℕ) → NeverHasRequest b → HasNoRequest b
no_more b never = subst HasNoRequest (append-nil b) (never [])
