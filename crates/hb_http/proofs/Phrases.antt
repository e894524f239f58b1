-- The phrases that the crate `http` gives to the statuses of a registry.
use Rattle.std.proofs.Common.{◌≡◌, ◌<◌, ◌≤◌, ℕ, true, List, [], ◌∷◌, refl, subst, ⊎_elim, unwrap_or, lit<, lit≤}
use Rattle.std.specs.Prelude.{◌==◌}
use Rattle.std.specs.List.{AllByRecursion, list_any}
use Rattle.std.proofs.lemmas.Bool.{eqb-true, or_cases, false≢true}
use Rattle.http.specs.StatusCode.{IsStatusCode, reason_phrase}
use Rattle.hb_http.specs.AnswerHeads.{has_phrase, phrase, statuses}

-- what holds of each number of a list holds of one that is found there
found_among : (P : ℕ → Type 0) (xs : List ℕ) (n : ℕ) → AllByRecursion P xs → list_any (λ x. x == n) xs ≡ true → P n
found_among P [] n all found = absurd (false≢true found)
found_among P (x ∷ xs) n all found = ⊎_elim
    (λ same. subst P (eqb-true x n same) all.0)
    (λ later. found_among P xs n all.1 later)
    (or_cases (x == n) (list_any (λ y. y == n) xs) found)

-- the phrases are the same
pub reason_phrase-registry : (status : ℕ) → has_phrase status ≡ true → unwrap_or (reason_phrase status) [] ≡ phrase status
reason_phrase-registry status has = found_among (λ s. unwrap_or (reason_phrase s) [] ≡ phrase s) statuses status
    (refl, (refl, (refl, (refl, (refl, (refl, (refl, (refl, (refl, (refl, (refl, (refl, (refl, (refl, (refl, tt))))))))))))))) has

-- and each is a status code
pub HasPhrase-code : (status : ℕ) → has_phrase status ≡ true → IsStatusCode status
HasPhrase-code status has = (
  found_among (λ s. 100 ≤ s) statuses status low has,
  found_among (λ s. s < 1000) statuses status high has,
)
  where
    low : AllByRecursion (λ s. 100 ≤ s) statuses
    low = (lit≤ tt, (lit≤ tt, (lit≤ tt, (lit≤ tt, (lit≤ tt, (lit≤ tt, (lit≤ tt, (lit≤ tt, (lit≤ tt, (lit≤ tt, (lit≤ tt, (lit≤ tt, (lit≤ tt, (lit≤ tt, (lit≤ tt, tt)))))))))))))))

    high : AllByRecursion (λ s. s < 1000) statuses
    high = (lit< tt, (lit< tt, (lit< tt, (lit< tt, (lit< tt, (lit< tt, (lit< tt, (lit< tt, (lit< tt, (lit< tt, (lit< tt, (lit< tt, (lit< tt, (lit< tt, (lit< tt, tt)))))))))))))))
