-- A page that has room for more takes the next row that is behind its key, and passes over the others.
use Rattle.std.proofs.Common.{◌≡◌, ℕ, suc, ◌+◌, ◌-◌, ◌<◌, Bool, true, false, cond, List, [], ◌∷◌, ◌++◌, length, take, drop, sym, ap, ◌∙◌, arith, length-append, append_assoc}
use Rattle.std.proofs.Math.ListN.{get_or}
use Rattle.std.proofs.Math.Seq.{drop-cons}
use Rattle.std.specs.List.{filter}

-- the page, filled up with the first of these rows
abbrev pub filled : {A : Type 0} → List A → List A → List A
filled page more = page ++ take (256 - length page) more

filled_next : {A : Type 0} (page : List A) (x : A) (more : List A) → length page < 256 → filled page (x ∷ more) ≡ filled (page ++ x ∷ []) more
filled_next page x more h =
    ap (λ n. page ++ take n (x ∷ more)) left
    ∙ sym (append_assoc page (x ∷ []) (take (256 - length (page ++ x ∷ [])) more))
  where
    left : 256 - length page ≡ suc (256 - length (page ++ x ∷ []))
    left = omega (arith, h, length-append page (x ∷ []))

-- the rows from the next one on
next_row : {A : Type 0} (rows : List A) (i : ℕ) (x : A) → i < length rows → x ≡ get_or rows i x → drop i rows ≡ x ∷ drop (i + 1) rows
next_row rows i x h e = drop-cons rows i x h ∙ (let next : suc i ≡ i + 1 = omega arith in λ j. sym e j ∷ drop (next j) rows)

module _ {A : Type 0} (p : A → Bool) (page rows : List A) (i : ℕ) (x : A) (inside : i < length rows) (is : x ≡ get_or rows i x) where
  first_test : (b : Bool) → p x ≡ b → filter p (drop i rows) ≡ cond b (x ∷ filter p (drop (i + 1) rows)) (filter p (drop (i + 1) rows))
  first_test b e = ap (filter p) (next_row rows i x inside is) ∙ ap (λ b. cond b (x ∷ filter p (drop (i + 1) rows)) (filter p (drop (i + 1) rows))) e

  pub filled_taken : p x ≡ true → length page < 256 → filled (page ++ x ∷ []) (filter p (drop (i + 1) rows)) ≡ filled page (filter p (drop i rows))
  filled_taken e h = sym (ap (filled page) (first_test true e) ∙ filled_next page x (filter p (drop (i + 1) rows)) h)

  pub filled_passed : p x ≡ false → filled page (filter p (drop (i + 1) rows)) ≡ filled page (filter p (drop i rows))
  filled_passed e = sym (ap (filled page) (first_test false e))
