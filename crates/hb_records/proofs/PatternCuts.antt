-- The test of a pattern is the relation on whole texts.
use Rattle.std.proofs.Common.{◌≡◌, ℕ, zero, suc, ◌+◌, ◌<◌, Bool, true, false, ◌&&◌, ◌||◌, List, [], ◌∷◌, ◌++◌, length, take, drop, IsTrue, nat_eq, refl, sym, ap, ◌∙◌, arith, length-append, take-append-drop}
use Rattle.std.proofs.lemmas.List.{take_at, drop_at}
use Rattle.std.specs.List.{list_any, range_with_len}
use Rattle.std.proofs.lemmas.Bool.Decides.{nat_tests}
use Rattle.hb_records.specs.Patterns.{Part, is_piece, is_cut, matches, Matches}

any-range : (p : ℕ → Bool) (n a k : ℕ) → k < n → p (a + k) ≡ true → list_any p (range_with_len a n) ≡ true
any-range p zero a k h e = absurd (omega arith)
any-range p (suc n) a zero h e = let first : p a ≡ true = ap p (omega arith) ∙ e in ap (λ b. b || list_any p (range_with_len (a + 1) n)) first
any-range p (suc n) a (suc k) h e = or-right (p a) _ (any-range p n (a + 1) k (omega arith) (ap p (omega arith) ∙ e))
  where
    or-right : (a b : Bool) → b ≡ true → (a || b) ≡ true
    or-right true b e = refl
    or-right false b e = e

range-any : (p : ℕ → Bool) (n a : ℕ) → list_any p (range_with_len a n) ≡ true → (k : ℕ) × (k < n) × (p (a + k) ≡ true)
range-any p zero a e = cc
range-any p (suc n) a e =
    elim (p a) as (λ b. p a ≡ b → (b || list_any p (range_with_len (a + 1) n)) ≡ true → (k : ℕ) × (k < suc n) × (p (a + k) ≡ true)) [
      | true ↦ λ t f. (0, omega arith, ap p (omega arith) ∙ t)
      | false ↦ λ t f. let w = range-any p n (a + 1) f in (w.0 + 1, omega (arith, w.1), ap p (omega arith) ∙ w.2)
    ] refl e

-- a text that can be cut is two pieces, and two pieces can be cut
from-cut : (test : List ℕ → List ℕ → Bool) (s : List ℕ) → is_cut test s ≡ true → (u : List ℕ) × (v : List ℕ) × (s ≡ u ++ v) × (test u v ≡ true)
from-cut test s e =
    let w = range-any (λ k. test (take k s) (drop k s)) (length s + 1) 0 e in
    let place : w.0 ≡ 0 + w.0 = omega arith in
    (take w.0 s, drop w.0 s, sym (take-append-drop w.0 s), ap (λ m. test (take m s) (drop m s)) place ∙ w.2)

to-cut : (test : List ℕ → List ℕ → Bool) (u v : List ℕ) → test u v ≡ true → is_cut test (u ++ v) ≡ true
to-cut test u v e =
    let place : 0 + length u ≡ length u = omega arith in
    any-range (λ k. test (take k (u ++ v)) (drop k (u ++ v))) (length (u ++ v) + 1) 0 (length u) (omega (arith, length-append u v))
    (ap (λ m. test (take m (u ++ v)) (drop m (u ++ v))) place ∙ (let a = take_at u v (length u) refl in let b = drop_at u v (length u) refl in λ i. test (a i) (b i)) ∙ e)

both : (a b : Bool) → a ≡ true → b ≡ true → (a && b) ≡ true
both true b e f = f
both false b e f = cc

first : (a b : Bool) → (a && b) ≡ true → a ≡ true
first true b e = refl
first false b e = cc

second : (a b : Bool) → (a && b) ≡ true → b ≡ true
second true b e = e
second false b e = cc

no_length : (s : List ℕ) → nat_eq (length s) 0 ≡ true → s ≡ []
no_length [] e = refl
no_length (x ∷ s) e = absurd (longer (length s) e)
  where
    longer : (n : ℕ) → nat_eq (suc n) 0 ≡ true → ⊥
    longer n e = grind (arith, nat_tests)

pub Matches-from_test : (parts : List Part) (s : List ℕ) → IsTrue (matches parts s) → Matches parts s
Matches-from_test [] s e = no_length s e
Matches-from_test (part ∷ parts) s e =
    let w = from-cut (λ piece rest. is_piece part piece && matches parts rest) s e in
    (w.0, w.1, w.2, first (is_piece part w.0) (matches parts w.1) w.3, Matches-from_test parts w.1 (second (is_piece part w.0) (matches parts w.1) w.3))

pub test-from_Matches : (parts : List Part) (s : List ℕ) → Matches parts s → IsTrue (matches parts s)
test-from_Matches [] s m = ap (λ z. nat_eq (length z) 0) m
test-from_Matches (part ∷ parts) s m =
    let test : List ℕ → List ℕ → Bool = λ piece rest. is_piece part piece && matches parts rest in
    ap (is_cut test) m.2 ∙ to-cut test m.0 m.1 (both (is_piece part m.0) (matches parts m.1) m.3 (test-from_Matches parts m.1 m.4))
