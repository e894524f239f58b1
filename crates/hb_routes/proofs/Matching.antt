-- What `matchit`'s walk over rows answers: rows with a front in common, rows with different first bytes,
-- and a parameter at the front.
use Rattle.std.proofs.Common.{◌≡◌, ◌≢◌, ℕ, zero, suc, ◌-◌, ◌<◌, Bool, true, false, cond, ◌&&◌, List, [], ◌∷◌, ◌++◌, length, take, drop, refl, sym, ap, ◌∙◌, eqb, nat_eq, Option, Some, None, option_and_then, arith}
use Rattle.std.proofs.lemmas.Bool.Decides.{nat_tests}
use Rattle.matchit.specs.Rows.{RowsOf}
use Rattle.matchit.specs.Seek.{first, seek, step, own, or_else, param_step, has_slash}
use Rattle.hb_routes.specs.Cuts.{is_same, behind_front}

-- each element is a byte
abbrev pub AreBytes : List ℕ → Type 0
AreBytes [] = Unit {0}
AreBytes (b ∷ s) = (b < 256) × AreBytes s

-- a byte is neither of the two tokens that stand for parameters
token-other : (x : ℕ) → x < 256 → (eqb x 256 ≡ false) × (eqb x 257 ≡ false)
token-other x small = (grind (arith, nat_tests), grind (arith, nat_tests))

module _ {K : Type 0} where
  -- the rows with a byte, or with a text, in front of each
  abbrev pub under : ℕ → RowsOf K → RowsOf K
  under x [] = []
  under x ((t, k) ∷ rs) = (x ∷ t, k) ∷ under x rs

  abbrev pub under_front : List ℕ → RowsOf K → RowsOf K
  under_front [] rs = rs
  under_front (x ∷ w) rs = under x (under_front w rs)

  -- ---- steps
  step-under_same : (x : ℕ) (rs : RowsOf K) → step x (under x rs) ≡ rs
  step-under_same x [] = refl
  step-under_same x ((t, k) ∷ rs) = let same : eqb x x ≡ true = grind (arith, nat_tests) in rw (same, step-under_same x rs) refl

  step-under_other : (b x : ℕ) (rs : RowsOf K) → eqb x b ≡ false → step b (under x rs) ≡ []
  step-under_other b x [] other = refl
  step-under_other b x ((t, k) ∷ rs) other = rw (other, step-under_other b x rs other) refl

  step-append : (b : ℕ) (rs ss : RowsOf K) → step b (rs ++ ss) ≡ step b rs ++ step b ss
  step-append b [] ss = refl
  step-append b (([], k) ∷ rs) ss = step-append b rs ss
  step-append b ((x ∷ t, k) ∷ rs) ss =
      elim (eqb x b) as (λ v. cond v ((t, k) ∷ step b (rs ++ ss)) (step b (rs ++ ss)) ≡ cond v ((t, k) ∷ step b rs) (step b rs) ++ step b ss) [
        | true ↦ ap (λ z. (t, k) ∷ z) (step-append b rs ss)
        | false ↦ step-append b rs ss
      ]

  -- a parameter takes no rows to rows
  pub param_step-nil : (path : List ℕ) → (param_step {K = K} [] path).1 ≡ []
  unfolding param_step
  param_step-nil path = elim (has_slash path) as (λ v. (let p : ℕ × RowsOf K = cond v (0, []) (length path, []) in p.1) ≡ []) [ true ↦ refl | false ↦ refl ]

  -- no rows answer nothing
  pub seek-nil : (n : ℕ) (path : List ℕ) → seek {K = K} n [] path ≡ None
  unfolding seek
  seek-nil n [] = refl
  seek-nil (suc n) (b ∷ path) = seek-nil n path
  seek-nil zero (b ∷ path) = rw (param_step-nil (b ∷ path), seek-nil 0 path, seek-nil ((param_step {K = K} [] (b ∷ path)).0 - 1) path) refl

  -- what stands before the skip doesn't matter
  pub seek-skip : (rs : RowsOf K) (u v : List ℕ) → seek (length u) rs (u ++ v) ≡ seek 0 rs v
  unfolding seek
  seek-skip rs [] v = refl
  seek-skip rs (b ∷ u) v = seek-skip rs u v

  -- ---- a byte, and a text, in front of all rows
  seek-under : (x : ℕ) (rs : RowsOf K) (b : ℕ) (path : List ℕ) → x < 256 → seek 0 (under x rs) (b ∷ path) ≡ or_else (seek 0 (step b (under x rs)) path) None
  unfolding seek
  seek-under x rs b path small =
      let t = token-other x small in
      rw (
        step-under_other 256 x rs t.0,
        step-under_other 257 x rs t.1,
        param_step-nil (b ∷ path),
        seek-nil ((param_step {K = K} [] (b ∷ path)).0 - 1) path,
      )
      refl

  pub or_else-none : (o : Option K) → or_else o None ≡ o
  or_else-none None = refl
  or_else-none (Some k) = refl

  seek-under_same : (x : ℕ) (rs : RowsOf K) (path : List ℕ) → x < 256 → seek 0 (under x rs) (x ∷ path) ≡ seek 0 rs path
  seek-under_same x rs path small = seek-under x rs x path small ∙ or_else-none (seek 0 (step x (under x rs)) path) ∙ ap (λ z. seek 0 z path) (step-under_same x rs)

  seek-under_other : (x : ℕ) (rs : RowsOf K) (b : ℕ) (path : List ℕ) → x < 256 → eqb x b ≡ false → seek 0 (under x rs) (b ∷ path) ≡ None
  seek-under_other x rs b path small other = seek-under x rs b path small ∙ or_else-none (seek 0 (step b (under x rs)) path) ∙ ap (λ z. seek 0 z path) (step-under_other b x rs other) ∙ seek-nil 0 path

  -- rows under a byte end nowhere at once
  own-under : (x : ℕ) (rs : RowsOf K) → own (under x rs) ≡ None
  own-under x [] = refl
  own-under x ((t, k) ∷ rs) = own-under x rs

  first-nil : (x : ℕ) (rs : RowsOf K) → first (under x rs) [] ≡ None
  unfolding seek
  first-nil x rs = own-under x rs

  -- one byte more of the front
  first-cons : (x b : ℕ) (w : List ℕ) (rs : RowsOf K) (path : List ℕ) → x < 256 → first (under_front w rs) path ≡ option_and_then (first rs) (behind_front w path) → (v : Bool) → eqb x b ≡ v → first (under x (under_front w rs)) (b ∷ path) ≡ option_and_then (first rs) (behind_front (x ∷ w) (b ∷ path))
  first-cons x b w rs path small rest true e =
      let same : x ≡ b = grind (arith, nat_tests) in
      let back : nat_eq b x ≡ true = grind (arith, nat_tests) in
      ap (λ (z : ℕ). seek 0 (under x (under_front w rs)) (z ∷ path)) (sym same) ∙ seek-under_same x (under_front w rs) path small ∙ rest
      ∙ sym (ap (λ (t : Bool). option_and_then (first rs) (cond (t && is_same (take (length w) path) w) (Some (drop (length w) path)) None)) back)
  first-cons x b w rs path small rest false e =
      let back : nat_eq b x ≡ false = grind (arith, nat_tests) in
      seek-under_other x (under_front w rs) b path small e
      ∙ sym (ap (λ (t : Bool). option_and_then (first rs) (cond (t && is_same (take (length w) path) w) (Some (drop (length w) path)) None)) back)

  -- rows with a front in common answer what the rest of the rows answer of the rest of the path
  pub first-under_front : (w : List ℕ) (rs : RowsOf K) (path : List ℕ) → AreBytes w → first (under_front w rs) path ≡ option_and_then (first rs) (behind_front w path)
  first-under_front [] rs path small = refl
  first-under_front (x ∷ w) rs [] small = first-nil x (under_front w rs)
  first-under_front (x ∷ w) rs (b ∷ path) small = first-cons x b w rs path small.0 (first-under_front w rs path small.1) (eqb x b) refl

  -- ---- rows that begin with two different bytes
  seek-two : (x y : ℕ) (rs ss : RowsOf K) (b : ℕ) (path : List ℕ) → x < 256 → y < 256 → seek 0 (under x rs ++ under y ss) (b ∷ path) ≡ or_else (seek 0 (step b (under x rs) ++ step b (under y ss)) path) None
  unfolding seek
  seek-two x y rs ss b path small small' =
      let t = token-other x small in
      let t' = token-other y small' in
      rw (
        step-append b (under x rs) (under y ss),
        step-append 256 (under x rs) (under y ss),
        step-append 257 (under x rs) (under y ss),
        step-under_other 256 x rs t.0,
        step-under_other 257 x rs t.1,
        step-under_other 256 y ss t'.0,
        step-under_other 257 y ss t'.1,
        param_step-nil (b ∷ path),
        seek-nil ((param_step {K = K} [] (b ∷ path)).0 - 1) path,
      )
      refl

  append-nil : (rs : RowsOf K) → rs ++ [] ≡ rs
  append-nil [] = refl
  append-nil (r ∷ rs) = ap (λ z. r ∷ z) (append-nil rs)

  own-two : (x y : ℕ) (rs ss : RowsOf K) → own (under x rs ++ under y ss) ≡ None
  own-two x y [] ss = own-under y ss
  own-two x y ((t, k) ∷ rs) ss = own-two x y rs ss

  first-two_nil : (x y : ℕ) (rs ss : RowsOf K) → first (under x rs ++ under y ss) [] ≡ None
  unfolding seek
  first-two_nil x y rs ss = own-two x y rs ss

  two-at : (x y : ℕ) (rs ss : RowsOf K) (b : ℕ) (path : List ℕ) → x < 256 → y < 256 → (x ≢ y) → (v u : Bool) → eqb x b ≡ v → eqb y b ≡ u → first (under x rs ++ under y ss) (b ∷ path) ≡ or_else (first (under x rs) (b ∷ path)) (first (under y ss) (b ∷ path))
  two-at x y rs ss b path small small' apart true true e f = absurd (apart (grind (arith, nat_tests)))
  two-at x y rs ss b path small small' apart true false e f =
      seek-two x y rs ss b path small small'
      ∙ ap (λ z. or_else (seek 0 (step b (under x rs) ++ z) path) None) (step-under_other b y ss f)
      ∙ ap (λ z. or_else (seek 0 z path) None) (append-nil (step b (under x rs)))
      ∙ sym (seek-under x rs b path small)
      ∙ sym (or_else-none (first (under x rs) (b ∷ path)))
      ∙ ap (or_else (first (under x rs) (b ∷ path))) (sym (seek-under_other y ss b path small' f))
  two-at x y rs ss b path small small' apart false u e f =
      seek-two x y rs ss b path small small'
      ∙ ap (λ z. or_else (seek 0 (z ++ step b (under y ss)) path) None) (step-under_other b x rs e)
      ∙ sym (seek-under y ss b path small')
      ∙ ap (λ o. or_else o (first (under y ss) (b ∷ path))) (sym (seek-under_other x rs b path small e))

  -- rows that begin with one byte and rows that begin with another: the one sort or the other answers
  pub first-two : (x y : ℕ) (rs ss : RowsOf K) (path : List ℕ) → x < 256 → y < 256 → x ≢ y → first (under x rs ++ under y ss) path ≡ or_else (first (under x rs) path) (first (under y ss) path)
  first-two x y rs ss [] small small' apart = first-two_nil x y rs ss ∙ sym (ap (λ o. or_else o (first (under y ss) [])) (first-nil x rs) ∙ first-nil y ss)
  first-two x y rs ss (b ∷ path) small small' apart = two-at x y rs ss b path small small' apart (eqb x b) (eqb y b) refl refl
