-- What is taken and written piece by piece.
use Rattle.std.proofs.Common.{ℕ, List, [], ◌++◌, Option, Some, None, option_map, refl, sym, ap, subst, ◌∙◌, append_assoc, append-nil}
use Rattle.hb_outside.specs.Streams.{Gives, Writes}

pub Gives-append : (a b c : Option (List ℕ)) (xs ys : List ℕ) → Gives a b xs → Gives b c ys → Gives a c (xs ++ ys)
Gives-append None b c xs ys first second = subst (λ b. Gives b c ys) first second
Gives-append (Some bytes) b c xs ys first second =
    let then = subst (λ b. Gives b c ys) first.2 second in
    (then.0, first.1 ∙ ap (λ more. xs ++ more) then.1 ∙ sym (append_assoc xs ys then.0), then.2)

pub Gives-none : (a : Option (List ℕ)) → Gives a a []
Gives-none None = refl
Gives-none (Some bytes) = (bytes, refl, refl)

pub Writes-append : (a b c : Option (List ℕ)) (xs ys : List ℕ) → Writes a b xs → Writes b c ys → Writes a c (xs ++ ys)
Writes-append None b c xs ys first second = second ∙ ap (option_map (λ bytes. bytes ++ ys)) first
Writes-append (Some bytes) b c xs ys first second = second ∙ ap (option_map (λ bytes. bytes ++ ys)) first ∙ ap Some (append_assoc bytes xs ys)

pub Writes-none : (a : Option (List ℕ)) → Writes a a []
Writes-none None = refl
Writes-none (Some bytes) = ap Some (sym (append-nil bytes))
