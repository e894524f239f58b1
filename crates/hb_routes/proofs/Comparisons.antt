-- What tests of texts say.
use Rattle.std.proofs.Common.{◌≡◌, ℕ, Bool, true, false, not, List, [], ◌∷◌, length, refl, sym, ap, ◌∙◌, eqb, arith}
use Rattle.std.proofs.lemmas.Bool.Decides.{nat_tests}
use Rattle.hb_routes.specs.Cuts.{is_same}
use Rattle.hb_routes.specs.Resources.{is_empty}

-- `==` of a text and a word
pub same-said : (r v : Bool) (s t word : List ℕ) → t ≡ word → r ≡ is_same s t → r ≡ v → is_same s word ≡ v
same-said r v s t word is said test = ap (is_same s) (sym is) ∙ sym said ∙ test

negated : (a b : Bool) → not a ≡ not b → a ≡ b
negated true true e = refl
negated true false e = sym e
negated false true e = sym e
negated false false e = refl

-- `!=` of a text and a word
pub other-said : (r v : Bool) (s t word : List ℕ) → t ≡ word → r ≡ not (is_same s t) → r ≡ not v → is_same s word ≡ v
other-said r v s t word is said test = ap (is_same s) (sym is) ∙ negated (is_same s t) v (sym said ∙ test)

-- a text without bytes is empty
pub empty-length : (s : List ℕ) → is_empty s ≡ eqb (length s) 0
empty-length [] = refl
empty-length (b ∷ s) = let some : eqb (length (b ∷ s)) 0 ≡ false = grind (arith, nat_tests) in sym some
