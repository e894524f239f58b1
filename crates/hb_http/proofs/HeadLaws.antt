-- What stands at the front of some bytes stays there, whatever follows.
use Rattle.std.proofs.Common.{◌≡◌, ◌≤◌, ◌∙◌, ℕ, List, [], ◌∷◌, ◌++◌, length, take, drop, min, true, refl, sym, ap, subst, ⊎_elim, inl, inr, arith, append_assoc, append-nil, length-append, take-append-drop}
use Rattle.std.proofs.lemmas.List.{append_cancel_left, take-take, take-append-le, take_min}
use Rattle.std.proofs.lemmas.List.Elements.{All-cons, All-head, All-nil, All-tail}
use lib.Utf8.{encode}
use Rattle.httparse.specs.Grammar.{LineEnd, lf, IsField, IsToken, AllPass, is_uri_byte, print_blank, print_version, print_end, RequestHead, IsRequestHead, print_request, NeverHasRequest, EndsInTarget}
use Rattle.httparse.proofs.GrammarLemmas.{ReadsRequest-append}
use Rattle.hb_http.specs.declared.TheConstants.{MAX_HEAD, MAX_HEADERS}
use Rattle.hb_http.specs.Framing.{IsFramed}
use Rattle.hb_http.specs.Headers.{headers_of}
use Rattle.hb_http.specs.Heads.{IsHead, IsMalformed, NeverHasHead, HasTooManyHeaders, IsHeadTooLong, window}
use Rattle.hb_http.proofs.HeaderLimit.{exceeds_more, head_not_exceeds, never_gets_many}
use Rattle.hb_http.proofs.LineCounts.{fronts, never_more, print_is, regroup}
use Rattle.hb_http.proofs.Windows.{head_of_front, reads_in_window}

-- the first n bytes begin those of a longer text
front_grows : (n : ℕ) (b more : List ℕ) → (e : List ℕ) × (take n b ++ e ≡ take n (b ++ more))
front_grows n b more =
    let k : ℕ = min n (length b) in
    let low : k ≤ n = omega arith in
    let fits : k ≤ length b = omega arith in
    let begin : take k (take n (b ++ more)) ≡ take n b = take-take k n (b ++ more) low ∙ (take-append-le k b more fits ∙ take_min n b) in
    (drop k (take n (b ++ more)), ap (λ (t : List ℕ). t ++ drop k (take n (b ++ more))) (sym begin) ∙ take-append-drop k (take n (b ++ more)))

-- a head with this beginning
small_head : List LineEnd → List ℕ → RequestHead
small_head blank method = record { blank = blank; method = method; target = 47 ∷ []; minor = 1; line_end = lf; fields = []; last = lf }

-- it is one
small_valid : (blank : List LineEnd) (method : List ℕ) → IsToken method → IsRequestHead (small_head blank method)
unfolding small_head encode
small_valid blank method token = record {
  method = token;
  target = (omega arith, All-cons (λ v. is_uri_byte v ≡ true) 47 [] refl (All-nil (λ v. is_uri_byte v ≡ true)));
  target_text = (47 ∷ [], (refl, refl));
  minor = omega arith;
  fields = All-nil IsField;
}

-- what ends in a method, or before it, may become a head
before_target : (w x : List ℕ) (blank : List LineEnd) (method : List ℕ) → IsToken method → w ++ x ≡ print_blank blank ++ method → ¬ (NeverHasRequest w)
unfolding small_head
before_target w x blank method token same never =
    let h : RequestHead = small_head blank method in
    let rest : List ℕ = (((32 ∷ 47 ∷ []) ++ 32 ∷ print_version 1) ++ print_end lf) ++ print_end lf in
    let text : print_request h ≡ (print_blank blank ++ method) ++ rest = print_is h ∙ regroup (print_blank blank) method (47 ∷ []) (print_version 1) (print_end lf) (print_end lf) in
    never (x ++ rest) h [] (
      small_valid blank method token,
      sym (append_assoc w x rest) ∙ (ap (λ (t : List ℕ). t ++ rest) same ∙ (sym text ∙ sym (append-nil (print_request h)))),
    )

-- where the front of a text can never be a head and doesn't end inside a target, nor does the text
never_in_target : (w e t : List ℕ) → w ++ e ≡ t → NeverHasRequest w → ¬ (EndsInTarget w) → ¬ (EndsInTarget t)
never_in_target w e t same never outside inside =
    let blank : List LineEnd = inside.0 in
    let method : List ℕ = inside.1 in
    let token : IsToken method = inside.3 in
    ⊎_elim
    (λ (p : (x : List ℕ) × (w ++ x ≡ print_blank blank ++ method)). before_target w p.0 blank method token p.1 never)
    (λ (p : (x : List ℕ) × ((print_blank blank ++ method) ++ x ≡ w)).
    let behind : p.0 ++ e ≡ 32 ∷ inside.2 = append_cancel_left (print_blank blank ++ method) (p.0 ++ e) (32 ∷ inside.2)
    (sym (append_assoc (print_blank blank ++ method) p.0 e) ∙ (ap (λ (s : List ℕ). s ++ e) p.1 ∙ (same ∙ inside.5))) in
    from p.0 w e blank method inside.2 token inside.4 never outside behind p.1)
    (fronts w e (print_blank blank ++ method) (32 ∷ inside.2) (same ∙ inside.5))
  where
    in_front : (xs ys : List ℕ) → AllPass is_uri_byte (xs ++ ys) → AllPass is_uri_byte xs
    in_front [] ys all = All-nil (λ v. is_uri_byte v ≡ true)
    in_front (v ∷ xs) ys all = All-cons (λ v. is_uri_byte v ≡ true) v xs (All-head (λ v. is_uri_byte v ≡ true) v (xs ++ ys) all) (in_front xs ys (All-tail (λ v. is_uri_byte v ≡ true) v (xs ++ ys) all))

    from : (x w e : List ℕ) (blank : List LineEnd) (method target : List ℕ) → IsToken method → AllPass is_uri_byte target → NeverHasRequest w → ¬ (EndsInTarget w)
        → x ++ e ≡ 32 ∷ target → (print_blank blank ++ method) ++ x ≡ w → ⊥
    from [] w e blank method target token all never outside behind is = before_target w [] blank method token (append-nil w ∙ (sym is ∙ append-nil (print_blank blank ++ method))) never
    from (c ∷ x) w e blank method target token all never outside behind is =
        let blank_byte : c ≡ 32 = cc in
        let rest : x ++ e ≡ target = cc in
        outside (blank, method, x, token, in_front x e (subst (AllPass is_uri_byte) (sym rest) all), sym is ∙ ap (λ (v : ℕ). (print_blank blank ++ method) ++ v ∷ x) blank_byte)

-- a head stays
pub IsHead-append : (bytes more : List ℕ) (h : RequestHead) (rest : List ℕ) → IsHead bytes h rest → IsHead (bytes ++ more) h (rest ++ more)
IsHead-append bytes more h rest is = record { reads = ReadsRequest-append bytes h rest more is.reads; few = is.few; short = is.short }

-- bytes that are never a head stay so
pub NeverHasHead-append : (bytes more : List ℕ) → NeverHasHead bytes → NeverHasHead (bytes ++ more)
NeverHasHead-append bytes more never =
    let grown = front_grows MAX_HEAD bytes more in (
      never_more (window bytes) grown.0 (window (bytes ++ more)) grown.1 never.0,
      never_in_target (window bytes) grown.0 (window (bytes ++ more)) grown.1 never.0 never.1,
    )

-- malformed bytes stay malformed
pub IsMalformed-append : (bytes more : List ℕ) → IsMalformed bytes → IsMalformed (bytes ++ more)
IsMalformed-append bytes more malformed = ⊎_elim
    (λ (m : (h : RequestHead) × (rest : List ℕ) × IsHead bytes h rest × ¬ (IsFramed (headers_of h))). inl (m.0, m.1 ++ more, IsHead-append bytes more m.0 m.1 m.2, m.3))
    (λ never. inr (NeverHasHead-append bytes more never))
    malformed

-- too many headers stay too many
pub HasTooManyHeaders-append : (bytes more : List ℕ) → HasTooManyHeaders bytes → HasTooManyHeaders (bytes ++ more)
HasTooManyHeaders-append bytes more many =
    let grown = front_grows MAX_HEAD bytes more in exceeds_more MAX_HEADERS (window bytes) grown.0 (window (bytes ++ more)) grown.1 many

-- and bytes that are never a head don't get too many
pub HasTooManyHeaders-not_append : (bytes more : List ℕ) → NeverHasHead bytes → ¬ (HasTooManyHeaders bytes) → ¬ (HasTooManyHeaders (bytes ++ more))
HasTooManyHeaders-not_append bytes more never few =
    let grown = front_grows MAX_HEAD bytes more in never_gets_many MAX_HEADERS (window bytes) grown.0 (window (bytes ++ more)) grown.1 never.0 few

-- a full window stays as it is
pub window-append : (bytes more : List ℕ) → MAX_HEAD ≤ length bytes → window (bytes ++ more) ≡ window bytes
window-append bytes more full = take-append-le MAX_HEAD bytes more full

-- a head that is too long stays so
pub IsHeadTooLong-append : (bytes more : List ℕ) → IsHeadTooLong bytes → IsHeadTooLong (bytes ++ more)
IsHeadTooLong-append bytes more long =
    let same : window bytes ≡ window (bytes ++ more) = sym (window-append bytes more long.0) in (
      (let full : MAX_HEAD ≤ length bytes = long.0 in omega (arith, length-append bytes more)),
      λ h rest is. long.1 h _ (record { reads = head_of_front MAX_HEAD bytes h _ (reads_in_window (bytes ++ more) (window bytes) h rest same is); few = is.few; short = is.short }),
    )

-- a head within the limits is not one that can never be
pub IsHead-not_never : (bytes : List ℕ) (h : RequestHead) (rest : List ℕ) → IsHead bytes h rest → ¬ (NeverHasHead bytes)
IsHead-not_never bytes h rest is never =
    never.0 [] h _ (ReadsRequest-append (window bytes) h _ [] (reads_in_window bytes (window bytes) h rest refl is))

-- nor has it too many headers
pub IsHead-not_many : (bytes : List ℕ) (h : RequestHead) (rest : List ℕ) → IsHead bytes h rest → ¬ (HasTooManyHeaders bytes)
IsHead-not_many bytes h rest is = head_not_exceeds MAX_HEADERS (window bytes) h _ (reads_in_window bytes (window bytes) h rest refl is) is.few
