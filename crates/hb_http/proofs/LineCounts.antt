-- How many whole lines the text of a head has.
use Rattle.std.proofs.Common.{◌≡◌, ◌≢◌, ◌⊎◌, ◌≤◌, ◌+◌, ℕ, List, [], ◌∷◌, ◌++◌, length, Bool, true, false, true≢false, refl, sym, ap, ◌∙◌, subst, ⊎_elim, inl, inr, arith, append_assoc, append-nil, fold, ne_eqb, All}
use Rattle.std.specs.Prelude.{if◌then◌else◌, ◌==◌}
use Rattle.std.specs.List.{flat_map}
use Rattle.std.proofs.lemmas.List.Elements.{All-head, All-tail}
use Rattle.std.proofs.lemmas.List.Sums.{fold-append}
use Rattle.std.proofs.lemmas.Bool.Decides.{nat_tests}
use Rattle.httparse.specs.Grammar.{is_token_byte, is_uri_byte, is_value_byte, AllPass, IsToken, LineEnd, crlf, lf, print_end, print_blank, print_version, Field, print_field, IsField, RequestHead, print_request, IsRequestHead, NeverHasRequest}
use Rattle.httparse.proofs.GrammarLemmas.{cons-append}
use Rattle.httparse.proofs.OnLiterals.{httparse_on_literals}
use Rattle.hb_http.specs.WholeLines.{is_newline, after_byte, whole_lines, EndsLine}

-- how many line feeds there are
abbrev pub line_feeds : List ℕ → ℕ
line_feeds [] = 0
line_feeds (c ∷ cs) = (if c == 10 then 1 else 0) + line_feeds cs

-- line feeds of two texts behind one another
pub line_feeds-append : (a b : List ℕ) → line_feeds (a ++ b) ≡ line_feeds a + line_feeds b
line_feeds-append [] b = omega arith
line_feeds-append (c ∷ cs) b = let h = line_feeds-append cs b in omega arith

-- bytes of a class that has no line feed have none
pub none_in : (test : ℕ → Bool) → test 10 ≡ false → (bs : List ℕ) → AllPass test bs → line_feeds bs ≡ 0
none_in test bad [] all = refl
none_in test bad (c ∷ cs) all =
    let passes : test c ≡ true = All-head (λ v. test v ≡ true) c cs all in
    let differ : c ≢ 10 = λ e. true≢false (sym passes ∙ (ap test e ∙ bad)) in
    let rest = none_in test bad cs (All-tail (λ v. test v ≡ true) c cs all) in
    rw (ne_eqb c 10 differ) (omega arith)

-- a byte counted before or after the rest
counted_if : (b : Bool) (n f : ℕ) → (if b then n + 1 else n) + f ≡ n + ((if b then 1 else 0) + f)
counted_if true n f = omega arith
counted_if false n f = omega arith

-- from a line on, each line feed ends one
pub run : (n : ℕ) (bs : List ℕ) → fold after_byte (true, n) bs ≡ (true, n + line_feeds bs)
run n [] = let e : n ≡ n + 0 = omega arith in λ i. (true, e i)
run n (c ∷ cs) = run (if c == 10 then n + 1 else n) cs ∙ (λ i. (true, counted_if (c == 10) n (line_feeds cs) i))

-- empty lines begin no line
pub blank_lines : (es : List LineEnd) → fold after_byte (false, 0) (print_blank es) ≡ (false, 0)
blank_lines [] = refl
blank_lines (crlf ∷ es) = blank_lines es
blank_lines (lf ∷ es) = blank_lines es

-- the same from the first line on
pub from_zero : (cs : List ℕ) → fold after_byte (true, 0) cs ≡ (true, line_feeds cs)
from_zero cs = run 0 cs ∙ (let e : 0 + line_feeds cs ≡ line_feeds cs = omega arith in λ i. (true, e i))

-- the same behind a byte that is no newline, as a test
begun_by : (cs : List ℕ) (b : Bool) → b ≡ false → fold after_byte (if b then (false, 0) else (true, 0)) cs ≡ (true, line_feeds cs)
begun_by cs true e = absurd (true≢false e)
begun_by cs false e = from_zero cs

-- a line that begins with no newline
begun : (c : ℕ) (cs : List ℕ) → is_newline c ≡ false → fold after_byte (false, 0) (c ∷ cs) ≡ (true, line_feeds cs)
begun c cs e = begun_by cs (is_newline c) e

-- a token has no line feed
pub token_feed : is_token_byte 10 ≡ false
unfolding httparse_on_literals
token_feed = refl

-- and no carriage return
pub token_return : is_token_byte 13 ≡ false
unfolding httparse_on_literals
token_return = refl

-- so none of its bytes is a newline
token_newline : (c : ℕ) → is_token_byte c ≡ true → is_newline c ≡ false
token_newline c e =
    let one : c ≢ 10 = λ s. true≢false (sym e ∙ (ap is_token_byte s ∙ token_feed)) in
    let two : c ≢ 13 = λ s. true≢false (sym e ∙ (ap is_token_byte s ∙ token_return)) in
    grind (arith, nat_tests)

-- a target has no line feed
pub uri_feed : is_uri_byte 10 ≡ false
uri_feed = refl

-- and a value has none
value_feed : is_value_byte 10 ≡ false
value_feed = refl

-- the method is the beginning of a line
pub method_begins : (m : List ℕ) → IsToken m → fold after_byte (false, 0) m ≡ (true, 0)
method_begins [] token = let some = token.0 in absurd (omega arith)
method_begins (c ∷ cs) token =
    let first : is_token_byte c ≡ true = All-head (λ v. is_token_byte v ≡ true) c cs token.1 in
    let none = none_in is_token_byte token_feed cs (All-tail (λ v. is_token_byte v ≡ true) c cs token.1) in
    begun c cs (token_newline c first) ∙ (λ i. (true, none i))

-- a line end has one
end_feed : (e : LineEnd) → line_feeds (print_end e) ≡ 1
end_feed crlf = refl
end_feed lf = refl

-- a version has none
version_feed : (minor : ℕ) → minor ≤ 1 → line_feeds (print_version minor) ≡ 0
version_feed minor le = let differ : 48 + minor ≢ 10 = λ e. omega arith in rw (ne_eqb (48 + minor) 10 differ) refl

-- a header line has one
field_feed : (f : Field) → IsField f → line_feeds (print_field f) ≡ 1
field_feed f is =
    let name = none_in is_token_byte token_feed f.name is.name.1 in
    let raw = none_in is_value_byte value_feed f.raw is.raw in
    let end = end_feed f.end in
    omega (arith, line_feeds-append (f.name ++ 58 ∷ f.raw) (print_end f.end), line_feeds-append f.name (58 ∷ f.raw))

-- header lines have as many as they are
pub fields_feed : (fs : List Field) → All IsField fs → line_feeds (flat_map print_field fs) ≡ length fs
fields_feed [] all = refl
fields_feed (f ∷ fs) all =
    let one = field_feed f (All-head IsField f fs all) in
    let rest = fields_feed fs (All-tail IsField f fs all) in
    omega (arith, line_feeds-append (print_field f) (flat_map print_field fs))

-- the empty lines in front and the start line
abbrev pub start_line : RequestHead → List ℕ
start_line h = print_blank h.blank ++ h.method ++ 32 ∷ h.target ++ 32 ∷ print_version h.minor ++ print_end h.line_end

-- the method in front, and all that is behind it
pub regroup : (a m t v e f : List ℕ) → ((((a ++ m) ++ 32 ∷ t) ++ 32 ∷ v) ++ e) ++ f ≡ (a ++ m) ++ ((((32 ∷ t) ++ 32 ∷ v) ++ e) ++ f)
regroup a m t v e f = simp (append_assoc, cons-append)

-- the start line and some field lines
pub start_and_fields : (h : RequestHead) → IsRequestHead h → (fs : List Field) → All IsField fs → fold after_byte (false, 0) (start_line h ++ flat_map print_field fs) ≡ (true, 1 + length fs)
start_and_fields h is fs all =
    let blank = print_blank h.blank in
    let front : fold after_byte (false, 0) (blank ++ h.method) ≡ (true, 0) =
    fold-append after_byte (false, 0) blank h.method ∙ (ap (λ (s : Bool × ℕ). fold after_byte s h.method) (blank_lines h.blank) ∙ method_begins h.method is.method) in
    let rest : List ℕ = (((32 ∷ h.target) ++ 32 ∷ print_version h.minor) ++ print_end h.line_end) ++ flat_map print_field fs in
    let shape : start_line h ++ flat_map print_field fs ≡ (blank ++ h.method) ++ rest = regroup blank h.method h.target (print_version h.minor) (print_end h.line_end) (flat_map print_field fs) in
    let target = none_in is_uri_byte uri_feed h.target is.target.1 in
    let version = version_feed h.minor is.minor in
    let end = end_feed h.line_end in
    let fields = fields_feed fs all in
    let count : line_feeds rest ≡ 1 + length fs = omega (arith, line_feeds-append (((32 ∷ h.target) ++ 32 ∷ print_version h.minor) ++ print_end h.line_end) (flat_map print_field fs), line_feeds-append ((32 ∷ h.target) ++ 32 ∷ print_version h.minor) (print_end h.line_end), line_feeds-append (32 ∷ h.target) (32 ∷ print_version h.minor)) in
    ap (fold after_byte (false, 0)) shape ∙ (fold-append after_byte (false, 0) (blank ++ h.method) rest ∙ (ap (λ (s : Bool × ℕ). fold after_byte s rest) front ∙ (from_zero rest ∙ (λ i. (true, count i)))))

-- a line feed at the end of a list that is not empty
pub ends_feed : (b : List ℕ) → EndsLine b → 1 ≤ line_feeds b
ends_feed b e = omega (arith, ap line_feeds e.1, line_feeds-append e.0 (10 ∷ []))

-- what ends in a line feed, cut after a first part, ends in one or is cut at its end
pub cut_end : (a rest b : List ℕ) → a ++ rest ≡ b → EndsLine b → (rest ≡ []) ⊎ EndsLine rest
cut_end [] rest b e end = inr (end.0, e ∙ end.1)
cut_end (c ∷ a) rest b e end = cut_from c a rest end.0 (e ∙ end.1)
  where
    cut_from : (c : ℕ) (a rest before : List ℕ) → c ∷ (a ++ rest) ≡ before ++ 10 ∷ [] → (rest ≡ []) ⊎ EndsLine rest
    cut_from c [] [] before e = inl refl
    cut_from c [] (r ∷ rs) [] e = absurd (cc)
    cut_from c [] (r ∷ rs) (x ∷ before) e = let tail : r ∷ rs ≡ before ++ 10 ∷ [] = cc in inr (before, tail)
    cut_from c (y ∷ a) rest [] e = absurd (cc)
    cut_from c (y ∷ a) rest (x ∷ before) e = let tail : y ∷ (a ++ rest) ≡ before ++ 10 ∷ [] = cc in cut_from y a rest before tail

-- two fronts of one text
pub fronts : (a b c d : List ℕ) → a ++ b ≡ c ++ d → ((e : List ℕ) × (a ++ e ≡ c)) ⊎ ((e : List ℕ) × (c ++ e ≡ a))
fronts [] b c d same = inl (c, refl)
fronts (x ∷ a) b [] d same = inr (x ∷ a, refl)
fronts (x ∷ a) b (y ∷ c) d same =
    let head : x ≡ y = cc in
    let tail : a ++ b ≡ c ++ d = cc in
    ⊎_elim (λ t. inl (t.0, λ i. head i ∷ t.1 i)) (λ t. inr (t.0, λ i. sym head i ∷ t.1 i)) (fronts a b c d tail)

-- of the fronts that end a line, one has so many whole lines
pub one_front : (n : ℕ) (a b c d : List ℕ) → a ++ b ≡ c ++ d → fold after_byte (false, 0) a ≡ (true, n) → fold after_byte (false, 0) c ≡ (true, n) → EndsLine a → EndsLine c → a ≡ c
one_front n a b c d same la lc ea ec = ⊎_elim
    (λ (t : (e : List ℕ) × (a ++ e ≡ c)). one n a t.0 c t.1 la lc ec)
    (λ (t : (e : List ℕ) × (c ++ e ≡ a)). sym (one n c t.0 a t.1 lc la ea))
    (fronts a b c d same)
  where
    one : (n : ℕ) (a e c : List ℕ) → a ++ e ≡ c → fold after_byte (false, 0) a ≡ (true, n) → fold after_byte (false, 0) c ≡ (true, n) → EndsLine c → a ≡ c
    one n a e c is la lc ec =
        let more : (true, n) ≡ (true, n + line_feeds e) = sym lc ∙ (ap (fold after_byte (false, 0)) (sym is) ∙ (fold-append after_byte (false, 0) a e ∙ (ap (λ (s : Bool × ℕ). fold after_byte s e) la ∙ run n e))) in
        let none : n ≡ n + line_feeds e = ap (λ (s : Bool × ℕ). s.1) more in
        ⊎_elim
        (λ (empty : e ≡ []). sym (append-nil a) ∙ (ap (λ (r : List ℕ). a ++ r) (sym empty) ∙ is))
        (λ (end : EndsLine e). let some = ends_feed e end in absurd (omega arith))
        (cut_end a e c is ec)

-- more text has no fewer whole lines
pub more_lines : (a b : List ℕ) → whole_lines a ≤ whole_lines (a ++ b)
more_lines a b = subst (λ (s : Bool × ℕ). whole_lines a ≤ s.1) (sym (fold-append after_byte (false, 0) a b)) (at_least (fold after_byte (false, 0) a) b)
  where
    counted : (n : ℕ) (t : Bool) → n ≤ (if t then n + 1 else n)
    counted n true = omega arith
    counted n false = omega arith

    kept : (n : ℕ) (t : Bool) → (let r : Bool × ℕ = (if t then (false, n) else (true, n)) in n ≤ r.1)
    kept n true = omega arith
    kept n false = omega arith

    stays : (b : Bool) (n c : ℕ) → n ≤ (after_byte (b, n) c).1
    stays true n c = counted n (c == 10)
    stays false n c = kept n (is_newline c)

    at_least : (s : Bool × ℕ) (b : List ℕ) → s.1 ≤ (fold after_byte s b).1
    at_least s [] = omega arith
    at_least s (c ∷ cs) = let one = stays s.0 s.1 c in let rest = at_least (after_byte s c) cs in omega arith

-- the text of a head: its start line, its headers and the last line
pub print_is : (h : RequestHead) → print_request h ≡ start_line h ++ (flat_map print_field h.fields ++ print_end h.last)
unfolding httparse_on_literals
print_is h = refl

-- a line end ends a line
end_line : (e : LineEnd) → EndsLine (print_end e)
end_line crlf = (13 ∷ [], refl)
end_line lf = ([], refl)

-- so does a text behind another
pub ends_after : (a b : List ℕ) → EndsLine b → EndsLine (a ++ b)
ends_after a b e = (a ++ e.0, ap (λ (r : List ℕ). a ++ r) e.1 ∙ sym (append_assoc a e.0 (10 ∷ [])))

-- and header lines behind a whole line
pub ends_fields : (a : List ℕ) (fs : List Field) → EndsLine a → EndsLine (a ++ flat_map print_field fs)
ends_fields a [] e = (e.0, append-nil a ∙ e.1)
ends_fields a (f ∷ fs) e =
    let one : EndsLine (print_field f) = ends_after (f.name ++ 58 ∷ f.raw) (print_end f.end) (end_line f.end) in
    let rest = ends_fields (a ++ print_field f) fs (ends_after a (print_field f) one) in
    (rest.0, sym (append_assoc a (print_field f) (flat_map print_field fs)) ∙ rest.1)

-- a start line is whole
pub start_ends : (h : RequestHead) → EndsLine (start_line h)
start_ends h = ends_after (print_blank h.blank ++ h.method ++ 32 ∷ h.target ++ 32 ∷ print_version h.minor) (print_end h.line_end) (end_line h.line_end)

-- the text of a head has two lines more than headers
pub all_lines : (h : RequestHead) → IsRequestHead h → fold after_byte (false, 0) (print_request h) ≡ (true, 2 + length h.fields)
all_lines h is =
    let front = start_and_fields h is h.fields is.fields in
    let end = end_feed h.last in
    let shape : print_request h ≡ (start_line h ++ flat_map print_field h.fields) ++ print_end h.last = print_is h ∙ sym (append_assoc (start_line h) (flat_map print_field h.fields) (print_end h.last)) in
    let count : 1 + length h.fields + line_feeds (print_end h.last) ≡ 2 + length h.fields = omega arith in
    ap (fold after_byte (false, 0)) shape ∙ (fold-append after_byte (false, 0) (start_line h ++ flat_map print_field h.fields) (print_end h.last) ∙ (ap (λ (s : Bool × ℕ). fold after_byte s (print_end h.last)) front ∙ (run (1 + length h.fields) (print_end h.last) ∙ (λ i. (true, count i)))))

-- and a head
pub print_ends : (h : RequestHead) → EndsLine (print_request h)
print_ends h = let e = ends_after (start_line h) (flat_map print_field h.fields ++ print_end h.last) (ends_after (flat_map print_field h.fields) (print_end h.last) (end_line h.last)) in (e.0, print_is h ∙ e.1)

-- no bytes can follow a longer text either
pub never_more : (a b c : List ℕ) → a ++ b ≡ c → NeverHasRequest a → NeverHasRequest c
never_more a b c same never more h rest reads = never (b ++ more) h rest (reads.0, (sym (append_assoc a b more) ∙ ap (λ (r : List ℕ). r ++ more) same) ∙ reads.1)
