-- The parts of a text, taken from its end.
use Rattle.std.proofs.Common.{◌≡◌, ℕ, ◌<◌, Bool, true, false, cond, ◌||◌, List, [], ◌∷◌, ◌++◌, length, refl, sym, ap, ◌∙◌, eqb, nat_eq, ⊎_elim, arith}
use Rattle.std.specs.List.{list_any, onto_first, join_with_byte}
use Rattle.std.proofs.lemmas.Bool.Decides.{nat_tests}
use Rattle.std.proofs.lemmas.List.Splits.{length-slice_split, join_with_byte-slice_split}
use Rattle.hb_routes.specs.LastParts.{AreOf}
use Rattle.hb_routes.specs.Resources.{parts}

-- neither of two tests passed
pub neither : (a b : Bool) → a || b ≡ false → (a ≡ false) × (b ≡ false)
neither true b h = absurd (cc)
neither false b h = (refl, h)

-- a test of the same two numbers
other_way : (b : ℕ) → nat_eq 47 b ≡ false → eqb b 47 ≡ false
other_way b h = grind (arith, nat_tests)

-- a text without a slash is one part
pub parts-one : (s : List ℕ) → list_any (nat_eq 47) s ≡ false → parts s ≡ s ∷ []
parts-one [] h = refl
parts-one (b ∷ s) h =
    let n = neither (nat_eq 47 b) (list_any (nat_eq 47) s) h in
    rw (other_way b n.0, parts-one s n.1) refl

-- a text has parts
some_part : (s : List ℕ) → 0 < length (parts s)
some_part s = omega (arith, length-slice_split (λ b. eqb b 47) s)

-- a byte before the first of several parts leaves the last
onto_first-append : (x : ℕ) (ps : List (List ℕ)) (l : List ℕ) → 0 < length ps → onto_first x (ps ++ l ∷ []) ≡ onto_first x ps ++ l ∷ []
onto_first-append x [] l h = absurd (omega arith)
onto_first-append x (p ∷ ps) l h = refl

-- the part behind the last slash is the last
pub parts-append : (front last : List ℕ) → list_any (nat_eq 47) last ≡ false → parts (front ++ 47 ∷ last) ≡ parts front ++ last ∷ []
parts-append [] last h = ap (λ ps. [] ∷ ps) (parts-one last h)
parts-append (x ∷ front) last h =
    elim (eqb x 47) as (λ t. cond t ([] ∷ parts (front ++ 47 ∷ last)) (onto_first x (parts (front ++ 47 ∷ last))) ≡ cond t ([] ∷ parts front) (onto_first x (parts front)) ++ last ∷ []) [
      | true ↦ ap (λ ps. [] ∷ ps) (parts-append front last h)
      | false ↦ ap (onto_first x) (parts-append front last h) ∙ onto_first-append x (parts front) last (some_part front)
    ]

-- the parts of a text, joined, are the text
pub join-parts : (before : List (List ℕ)) (text : List ℕ) → AreOf before text → join_with_byte 47 before ≡ text
join-parts before text h = ⊎_elim (λ e. ap (join_with_byte 47) e ∙ join_with_byte-slice_split 47 text) (λ e. ap (join_with_byte 47) e.0 ∙ sym e.1) h
