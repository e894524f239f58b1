-- What values say together, with one value more.
use Rattle.std.proofs.Common.{◌≡◌, ◌≢◌, ◌∙◌, ℕ, List, [], ◌∷◌, ◌++◌, refl, sym, subst, ⊎_elim}
use Rattle.std.proofs.lemmas.Bool.{cases_eq}
use Rattle.std.specs.List.{AllByRecursion}
use Rattle.hb_text.specs.Numbers.{IsNumber}
use Rattle.hb_http.proofs.Each.{all_push}
use Rattle.hb_http.specs.BodyHeaders.{SayLength}
use Rattle.hb_http.specs.declared.framing.LengthSaid.{LengthSaid}
use Rattle.hb_http.specs.declared.framing.LengthSaid.TheVariants.{Everywhere, Unclear}

-- what holds of each value holds of those before the last
pub all_but_last : (P : List ℕ → Type 0) (xs : List (List ℕ)) (y : List ℕ) → AllByRecursion P (xs ++ y ∷ []) → AllByRecursion P xs
all_but_last P [] y all = tt
all_but_last P (x ∷ xs) y all = (all.0, all_but_last P xs y all.1)

-- and of the last
pub all_last : (P : List ℕ → Type 0) (xs : List (List ℕ)) (y : List ℕ) → AllByRecursion P (xs ++ y ∷ []) → P y
all_last P [] y all = all.0
all_last P (x ∷ xs) y all = all_last P xs y all.1

-- a text writes at most one number
pub one_number : (text : List ℕ) (n m : ℕ) → IsNumber text n → IsNumber text m → n ≡ m
one_number text n m a b = sym a.value ∙ b.value

-- two numbers that each value writes are the same, if they are so where there is no value
pub one_length : (values : List (List ℕ)) (n m : ℕ) → (values ≡ [] → n ≡ m) → AllByRecursion (λ value. IsNumber value n) values → AllByRecursion (λ value. IsNumber value m) values → n ≡ m
one_length [] n m none a b = none refl
one_length (value ∷ values) n m none a b = one_number value n m a.0 b.0

-- there is one
some_push : (xs : List (List ℕ)) (y : List ℕ) → xs ++ y ∷ [] ≢ []
some_push [] y e = cc
some_push (x ∷ xs) y e = cc

-- what values say with one more, by whether it is the number before
pub say_both : (values : List (List ℕ)) (value : List ℕ) (before after : ℕ) (said : LengthSaid) → SayLength values (Everywhere before) → IsNumber value after
    → (before ≡ after → said ≡ Everywhere after) → (before ≢ after → said ≡ Unclear) → SayLength (values ++ value ∷ []) said
say_both values value before after said first second same other = ⊎_elim
    (λ e.
    let number : IsNumber value before = subst (IsNumber value) (sym e) second in
    let all : SayLength (values ++ value ∷ []) (Everywhere before) = (some_push values value, all_push (λ v. IsNumber v before) values value first.1 number) in
    subst (SayLength (values ++ value ∷ [])) (sym (same e)) (subst (λ (n : ℕ). SayLength (values ++ value ∷ []) (Everywhere n)) e all))
    (λ apart.
    let unclear : SayLength (values ++ value ∷ []) Unclear = λ n all.
    let told = one_length values before n (λ e. absurd (first.0 e)) first.1 (all_but_last (λ v. IsNumber v n) values value all) in
    apart (told ∙ one_number value n after (all_last (λ v. IsNumber v n) values value all) second) in
    subst (SayLength (values ++ value ∷ [])) (sym (other apart)) unclear)
    (cases_eq before after)
