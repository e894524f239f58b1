-- Texts with a front or an end, and parts of a path.
use Rattle.std.proofs.Common.{◌≡◌, ◌⊎◌, inl, inr, ℕ, ◌-◌, Bool, true, false, cond, not, ◌&&◌, ◌||◌, List, [], ◌∷◌, ◌++◌, length, take, drop, refl, sym, ap, ◌∙◌, nat_eq, Some, None, arith, append_assoc, append-nil, length-append}
use Rattle.std.proofs.Math.Seq.{take-append_seam, drop-append_seam}
use Rattle.std.proofs.lemmas.List.{take-append-drop}
use Rattle.std.proofs.lemmas.Slice.Eq.{bytes_eq-Decides}
use Rattle.std.proofs.lemmas.Bool.Decides.{nat_tests}
use Rattle.hb_routes.specs.Cuts.{is_same, behind_front, before_end}
use Rattle.hb_routes.specs.Resources.{is_empty, is_part}
use Rattle.hb_routes.proofs.Parts.{neither}
use Rattle.hb_routes.proofs.Parameters.{slashed}

same-refl : (a : List ℕ) → is_same a a ≡ true
same-refl a = (bytes_eq-Decides a a).1 refl

-- ---- fronts
-- behind its front stands the rest of a text
pub behind-front : (w rest : List ℕ) → behind_front w (w ++ rest) ≡ Some rest
behind-front w rest =
    ap (λ z. cond (is_same z w) (Some (drop (length w) (w ++ rest))) None) (take-append_seam w rest)
    ∙ ap (λ t. cond t (Some (drop (length w) (w ++ rest))) None) (same-refl w)
    ∙ ap (λ z. Some z) (drop-append_seam w rest)

-- a text has the front, or it hasn't
has-front-by : (w path : List ℕ) (v : Bool) → is_same (take (length w) path) w ≡ v → (behind_front w path ≡ None) ⊎ ((rest : List ℕ) × (path ≡ w ++ rest))
has-front-by w path true e = inr (drop (length w) path, sym (take-append-drop (length w) path) ∙ ap (λ z. z ++ drop (length w) path) ((bytes_eq-Decides (take (length w) path) w).0 e))
has-front-by w path false e = inl (ap (λ t. cond t (Some (drop (length w) path)) None) e)

pub has-front : (w path : List ℕ) → (behind_front w path ≡ None) ⊎ ((rest : List ℕ) × (path ≡ w ++ rest))
has-front w path = has-front-by w path (is_same (take (length w) path) w) refl

-- a text without the front hasn't a longer one
pub longer-front : (w v path : List ℕ) → behind_front w path ≡ None → behind_front (w ++ v) path ≡ None
longer-front w v path none =
    elim (has-front (w ++ v) path) [
      | inl e ↦ e
      | inr e ↦ let there : behind_front w path ≡ Some (v ++ e.0) = ap (behind_front w) (e.1 ∙ append_assoc w v e.0) ∙ behind-front w (v ++ e.0) in cc
    ]

-- nor is it the front and more
pub other-text : (w v path : List ℕ) → behind_front w path ≡ None → (t : Bool) → is_same path (w ++ v) ≡ t → t ≡ false
other-text w v path none true e =
    let is = (bytes_eq-Decides path (w ++ v)).0 e in
    let there : behind_front w path ≡ Some v = ap (behind_front w) is ∙ behind-front w v in
    cc
other-text w v path none false e = refl

-- ---- ends
-- before its end stands the rest of a text
pub before-end : (m end : List ℕ) → before_end end (m ++ end) ≡ Some m
before-end m end =
    let long = length-append m end in
    let count : length (m ++ end) - length end ≡ length m = omega (arith, long) in
    ap (λ n. cond (is_same (drop n (m ++ end)) end) (Some (take n (m ++ end))) None) count
    ∙ ap (λ z. cond (is_same z end) (Some (take (length m) (m ++ end))) None) (drop-append_seam m end)
    ∙ ap (λ t. cond t (Some (take (length m) (m ++ end))) None) (same-refl end)
    ∙ ap (λ z. Some z) (take-append_seam m end)

-- each text ends with nothing
pub before-nothing : (s : List ℕ) → before_end [] s ≡ Some s
before-nothing s = ap (before_end []) (sym (append-nil s)) ∙ before-end s []

has-end-by : (end s : List ℕ) (v : Bool) → is_same (drop (length s - length end) s) end ≡ v → (before_end end s ≡ None) ⊎ ((m : List ℕ) × (s ≡ m ++ end) × (before_end end s ≡ Some m))
has-end-by end s true e =
    let n = length s - length end in
    inr (
      take n s,
      sym (take-append-drop n s) ∙ ap (λ z. take n s ++ z) ((bytes_eq-Decides (drop n s) end).0 e),
      ap (λ t. cond t (Some (take n s)) None) e,
    )
has-end-by end s false e = inl (ap (λ t. cond t (Some (take (length s - length end) s)) None) e)

pub has-end : (end s : List ℕ) → (before_end end s ≡ None) ⊎ ((m : List ℕ) × (s ≡ m ++ end) × (before_end end s ≡ Some m))
has-end end s = has-end-by end s (is_same (drop (length s - length end) s) end) refl

-- ---- parts
both-not : (a b : Bool) → (not a && not b) ≡ true → (a ≡ false) × (b ≡ false)
both-not true b h = cc
both-not false true h = cc
both-not false false h = (refl, refl)

-- a part isn't empty and has no slash
pub of-part : (s : List ℕ) → is_part s ≡ true → (is_empty s ≡ false) × (slashed s ≡ false)
of-part s h = both-not (is_empty s) (slashed s) h

pub part-plain : (b : ℕ) (s : List ℕ) → slashed (b ∷ s) ≡ false → is_part (b ∷ s) ≡ true
part-plain b s plain = ap not plain

pub part-slashed : (s : List ℕ) → slashed s ≡ true → is_part s ≡ false
part-slashed s more = ap (λ t. not (is_empty s) && not t) more ∙ and-false (not (is_empty s))
  where
    and-false : (a : Bool) → (a && false) ≡ false
    and-false true = refl
    and-false false = refl

-- a slash in a text
pub slashed-append : (s t : List ℕ) → slashed (s ++ 47 ∷ t) ≡ true
slashed-append [] t = refl
slashed-append (b ∷ s) t = elim (nat_eq 47 b) as (λ v. (v || slashed (s ++ 47 ∷ t)) ≡ true) [ true ↦ refl | false ↦ slashed-append s t ]

-- what stands before the first slash
pub first-slash : (s : List ℕ) → slashed s ≡ true → (part : List ℕ) × (tail : List ℕ) × (s ≡ part ++ 47 ∷ tail) × (slashed part ≡ false)
first-slash [] h = absurd (cc)
first-slash (b ∷ s) h = by_first b s (nat_eq 47 b) refl h (first-slash s)
  where
    by_first : (b : ℕ) (s : List ℕ) (v : Bool) → nat_eq 47 b ≡ v → slashed (b ∷ s) ≡ true → (slashed s ≡ true → (part : List ℕ) × (tail : List ℕ) × (s ≡ part ++ 47 ∷ tail) × (slashed part ≡ false)) → (part : List ℕ) × (tail : List ℕ) × (b ∷ s ≡ part ++ 47 ∷ tail) × (slashed part ≡ false)
    by_first b s true e h rest = let is : 47 ≡ b = grind (arith, nat_tests) in ([], s, ap (λ z. z ∷ s) (sym is), refl)
    by_first b s false e h rest =
        let more = rest (rw e at h) in
        (b ∷ more.0, more.1, ap (λ z. b ∷ z) more.2, rw e more.3)

-- there is one first slash
pub one-slash : (p q t u : List ℕ) → slashed p ≡ false → slashed q ≡ false → p ++ 47 ∷ t ≡ q ++ 47 ∷ u → (p ≡ q) × (t ≡ u)
one-slash [] [] t u h g e = (refl, cc)
one-slash [] (b ∷ q) t u h g e = let is : 47 ≡ b = cc in let other = (neither (nat_eq 47 b) (slashed q) g).0 in absurd (grind (arith, nat_tests))
one-slash (a ∷ p) [] t u h g e = let is : a ≡ 47 = cc in let other = (neither (nat_eq 47 a) (slashed p) h).0 in absurd (grind (arith, nat_tests))
one-slash (a ∷ p) (b ∷ q) t u h g e =
    let is : a ≡ b = cc in
    let tails : p ++ 47 ∷ t ≡ q ++ 47 ∷ u = cc in
    let rest = one-slash p q t u (neither (nat_eq 47 a) (slashed p) h).1 (neither (nat_eq 47 b) (slashed q) g).1 tails in
    (let front = rest.0 in cc, rest.1)
