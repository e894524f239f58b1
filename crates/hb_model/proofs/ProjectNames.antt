-- The first component of a repository's name is a project's name.
use Rattle.std.proofs.Common.{◌≡◌, ℕ, ◌+◌, Bool, false, not, cond, ◌==◌, List, [], ◌∷◌, ◌++◌, length, take, refl, sym, ap, subst, ◌∙◌, nat_eq, IsTrue, inl, inr, arith}
use Rattle.std.proofs.Math.Seq.{take-append_seam}
use Rattle.std.proofs.lemmas.List.{length-append}
use Rattle.std.proofs.lemmas.Bool.Decides.{nat_tests}
use Rattle.std.specs.List.{AllByRecursion, prefix_len}
use Rattle.hb_text.specs.Grammar.{Grammar, Matches, joined, byte, is_lower_or_digit}
use Rattle.hb_text.specs.Grammar.Grammar.{Byte, Then, Or, Many}
use Rattle.hb_text.specs.Names.{component, IsName, IsProjectName, project_of}

-- the texts of the language have only bytes that pass
abbrev Only : (ℕ → Bool) → Grammar → Type 0
Only p (Byte test) = (b : ℕ) → IsTrue (test b) → IsTrue (p b)
Only p (Then g h) = Only p g × Only p h
Only p (Or g h) = Only p g × Only p h
Only p (Many g) = Only p g

abbrev AllPass : (ℕ → Bool) → List ℕ → Type 0
AllPass p s = AllByRecursion (λ b. IsTrue (p b)) s

pass-append : (p : ℕ → Bool) (u v : List ℕ) → AllPass p u → AllPass p v → AllPass p (u ++ v)
pass-append p [] v h k = k
pass-append p (b ∷ u) v h k = (h.0, pass-append p u v h.1 k)

pass-joined : (p : ℕ → Bool) (P : List ℕ → Type 0) → ((s : List ℕ) → P s → AllPass p s) → (pieces : List (List ℕ)) → AllByRecursion P pieces → AllPass p (joined pieces)
pass-joined p P each [] h = tt
pass-joined p P each (s ∷ pieces) h = pass-append p s (joined pieces) (each s h.0) (pass-joined p P each pieces h.1)

only : (p : ℕ → Bool) (g : Grammar) → Only p g → (s : List ℕ) → Matches g s → AllPass p s
only p (Byte test) o s m = subst (AllPass p) (sym m.1) (o m.0 m.2, tt)
only p (Then g h) o s m = subst (AllPass p) (sym m.2) (pass-append p m.0 m.1 (only p g o.0 m.0 m.3) (only p h o.1 m.1 m.4))
only p (Or g h) o s (inl m) = only p g o.0 s m
only p (Or g h) o s (inr m) = only p h o.1 s m
only p (Many g) o s m = subst (AllPass p) (sym m.1) (pass-joined p (Matches g) (only p g o) m.0 m.2)

-- no slash
abbrev is_plain : ℕ → Bool
is_plain b = not (b == 47)

letter-plain : (b : ℕ) → IsTrue (is_lower_or_digit b) → IsTrue (is_plain b)
letter-plain b h = grind (arith, nat_tests)

byte-plain : (c : ℕ) → nat_eq c 47 ≡ false → (b : ℕ) → IsTrue (nat_eq c b) → IsTrue (is_plain b)
byte-plain c other b h = grind (arith, nat_tests)

slash-ends : (b : ℕ) → IsTrue (nat_eq 47 b) → is_plain b ≡ false
slash-ends b h = grind (arith, nat_tests)

component-plain : Only is_plain component
component-plain = ((letter-plain, letter-plain), ((byte-plain 46 refl, (byte-plain 95 refl, ((byte-plain 95 refl, byte-plain 95 refl), (byte-plain 45 refl, byte-plain 45 refl)))), (letter-plain, letter-plain)))

-- what follows a component is nothing, or begins with a slash
parts-end : (pieces : List (List ℕ)) → AllByRecursion (Matches (Then (byte 47) component)) pieces → prefix_len is_plain (joined pieces) ≡ 0
parts-end [] h = refl
parts-end (s ∷ pieces) h =
    let m = h.0 in
    let whole : s ≡ m.3.0 ∷ m.1 = m.2 ∙ ap (λ u. u ++ m.1) m.3.1 in
    subst (λ z. prefix_len is_plain (z ++ joined pieces) ≡ 0) (sym whole) (ap (λ plain. cond plain (1 + prefix_len is_plain (m.1 ++ joined pieces)) 0) (slash-ends m.3.0 m.3.2))

plain-front : (u v : List ℕ) → AllPass is_plain u → prefix_len is_plain v ≡ 0 → prefix_len is_plain (u ++ v) ≡ length u
plain-front [] v h e = e
plain-front (b ∷ u) v h e = ap (λ plain. cond plain (1 + prefix_len is_plain (u ++ v)) 0) h.0 ∙ omega (arith, plain-front u v h.1 e)

pub project-name : (s : List ℕ) → IsName s → IsProjectName (project_of s)
project-name s h =
    let m = h.matches in
    let front : project_of s ≡ m.0 = ap project_of m.2 ∙ ap (λ n. take n (m.0 ++ m.1)) (plain-front m.0 m.1 (only is_plain component component-plain m.0 m.3) (subst (λ v. prefix_len is_plain v ≡ 0) (sym m.4.1) (parts-end m.4.0 m.4.2))) ∙ take-append_seam m.0 m.1 in
    subst IsProjectName (sym front) (record { short = omega (arith, h.short, ap length m.2, length-append m.0 m.1); matches = m.3 })
