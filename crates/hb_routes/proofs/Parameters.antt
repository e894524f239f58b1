-- What `matchit`'s walk answers where a pattern goes on with a parameter: the parameter takes one part.
use Rattle.std.proofs.Common.{◌≡◌, ℕ, zero, suc, ◌-◌, ◌<◌, Bool, true, false, ◌&&◌, List, [], ◌∷◌, ◌++◌, length, drop, refl, ap, ◌∙◌, eqb, ltb, nat_eq, Some, None, option_and_then, arith, codes, length-append, lit<}
use Rattle.std.specs.List.{list_any}
use Rattle.std.specs.Cmp.Lexicographic.{pointwise}
use Rattle.std.proofs.Math.Seq.{drop-append_seam}
use Rattle.std.proofs.lemmas.Bool.Decides.{nat_tests}
use Rattle.matchit.specs.Rows.{RowsOf}
use Rattle.matchit.specs.Seek.{first, seek, step, own, param_step, segment, has_slash, cuts, longest_suffix, with_suffix}
use Rattle.hb_routes.specs.Cuts.{behind_front}
use Rattle.hb_routes.proofs.Parts.{neither}
use Rattle.hb_routes.proofs.Matching.{seek-nil, seek-skip, first-under_front, param_step-nil, or_else-none}

-- the text has a slash
abbrev pub slashed : List ℕ → Bool
slashed = list_any (nat_eq 47)

-- ---- segments
turned : (b : ℕ) (v : Bool) → nat_eq 47 b ≡ v → eqb b 47 ≡ v
turned b true h = grind (arith, nat_tests)
turned b false h = grind (arith, nat_tests)

segment-plain : (s : List ℕ) → slashed s ≡ false → segment s ≡ s
segment-plain [] h = refl
segment-plain (b ∷ s) h = let n = neither (nat_eq 47 b) (slashed s) h in rw (turned b false n.0, segment-plain s n.1) refl

pub segment-part : (part tail : List ℕ) → slashed part ≡ false → segment (part ++ 47 ∷ tail) ≡ part ++ 47 ∷ []
segment-part [] tail h = refl
segment-part (b ∷ part) tail h = let n = neither (nat_eq 47 b) (slashed part) h in rw (turned b false n.0, segment-part part tail n.1) refl

has_slash-first : (b : ℕ) (s : List ℕ) (v : Bool) → nat_eq 47 b ≡ v → has_slash s ≡ slashed s → has_slash (b ∷ s) ≡ slashed (b ∷ s)
has_slash-first b s true h rest = rw (turned b true h, h) refl
has_slash-first b s false h rest = rw (turned b false h, h) rest

has_slash-slashed : (s : List ℕ) → has_slash s ≡ slashed s
has_slash-slashed [] = refl
has_slash-slashed (b ∷ s) = has_slash-first b s (nat_eq 47 b) refl (has_slash-slashed s)

-- what stands further on in a text without slashes has none
slashed-drop : (n : ℕ) (s : List ℕ) → slashed s ≡ false → slashed (drop n s) ≡ false
slashed-drop zero s h = h
slashed-drop (suc n) [] h = h
slashed-drop (suc n) (b ∷ s) h = slashed-drop n s (neither (nat_eq 47 b) (slashed s) h).1

begins-plain : (s : List ℕ) → slashed s ≡ false → pointwise nat_eq (47 ∷ []) s ≡ false
begins-plain [] h = refl
begins-plain (b ∷ s) h = rw (neither (nat_eq 47 b) (slashed s) h).0 refl

and-false : (a : Bool) → (a && false) ≡ false
and-false true = refl
and-false false = refl

-- a text without slashes doesn't end with one
cuts-plain : (s : List ℕ) → slashed s ≡ false → cuts s (47 ∷ []) ≡ false
cuts-plain s h = ap (λ t. ltb 1 (length s) && t) (begins-plain (drop (length s - 1) s) (slashed-drop (length s - 1) s h)) ∙ and-false (ltb 1 (length s))

-- a part and a slash end with a slash
cuts-part : (b : ℕ) (part : List ℕ) → cuts (b ∷ part ++ 47 ∷ []) (47 ∷ []) ≡ true
cuts-part b part =
    let long = length-append (b ∷ part) (47 ∷ []) in
    let count : length (b ∷ part ++ 47 ∷ []) - 1 ≡ length (b ∷ part) = omega (arith, long) in
    let more : ltb 1 (length (b ∷ part ++ 47 ∷ [])) ≡ true = grind (arith, nat_tests, long) in
    ap (λ t. t && pointwise nat_eq (47 ∷ []) (drop (length (b ∷ part ++ 47 ∷ []) - 1) (b ∷ part ++ 47 ∷ []))) more
    ∙ ap (λ n. pointwise nat_eq (47 ∷ []) (drop n (b ∷ part ++ 47 ∷ []))) count
    ∙ ap (pointwise nat_eq (47 ∷ [])) (drop-append_seam (b ∷ part) (47 ∷ []))

module _ {K : Type 0} where
  -- ---- how much a parameter takes
  takes-rest : (rs : RowsOf K) (path : List ℕ) → longest_suffix (segment path) rs ≡ [] → has_slash path ≡ false → param_step rs path ≡ (length path, rs)
  unfolding param_step
  takes-rest rs path none plain = rw (none, plain) refl

  takes-nothing : (rs : RowsOf K) (path : List ℕ) → longest_suffix (segment path) rs ≡ [] → has_slash path ≡ true → param_step rs path ≡ (0, [])
  unfolding param_step
  takes-nothing rs path none more = rw (none, more) refl

  takes-part : (rs : RowsOf K) (path : List ℕ) → longest_suffix (segment path) rs ≡ 47 ∷ [] → param_step rs path ≡ (length (segment path) - 1, with_suffix (47 ∷ []) rs)
  unfolding param_step
  takes-part rs path slash = rw slash refl

  -- where no row goes on with the byte itself, a parameter has to take it
  seek-param : (rs : RowsOf K) (b : ℕ) (path : List ℕ) → step b rs ≡ [] → step 257 rs ≡ [] → seek 0 rs (b ∷ path) ≡ seek ((param_step (step 256 rs) (b ∷ path)).0 - 1) (param_step (step 256 rs) (b ∷ path)).1 path
  unfolding seek
  seek-param rs b path here rest = rw (here, rest, seek-nil {K = K} 0 path) (or_else-none (seek ((param_step (step 256 rs) (b ∷ path)).0 - 1) (param_step (step 256 rs) (b ∷ path)).1 path))

  -- a skip of all that is left
  seek-all : (rs : RowsOf K) (path : List ℕ) → seek (length path) rs path ≡ own rs
  unfolding seek
  seek-all rs [] = refl
  seek-all rs (b ∷ path) = seek-all rs path

  -- a row that ends matches the empty text alone
  pub first-ended : (k : K) (b : ℕ) (path : List ℕ) → first (([], k) ∷ []) (b ∷ path) ≡ None
  first-ended k b path =
      let rs : RowsOf K = ([], k) ∷ [] in
      seek-param rs b path refl refl
      ∙ ap (λ (z : RowsOf K). seek ((param_step {K = K} [] (b ∷ path)).0 - 1) z path) (param_step-nil (b ∷ path))
      ∙ seek-nil ((param_step {K = K} [] (b ∷ path)).0 - 1) path

  pub first-ended_nil : (k : K) → first (([], k) ∷ []) [] ≡ Some k
  unfolding seek
  first-ended_nil k = refl

  -- ---- one row that a parameter ends
  module _ (k : K) where
    abbrev one_row : RowsOf K
    one_row = (256 ∷ [], k) ∷ []

    abbrev one_left : RowsOf K
    one_left = ([], k) ∷ []

    pub one-nil : first one_row [] ≡ None
    unfolding seek
    one-nil = refl

    one-param : (b : ℕ) (path : List ℕ) → b < 256 → first one_row (b ∷ path) ≡ seek ((param_step one_left (b ∷ path)).0 - 1) (param_step one_left (b ∷ path)).1 path
    one-param b path small = let other : eqb 256 b ≡ false = grind (arith, nat_tests) in seek-param one_row b path (rw other refl) refl

    -- one part that isn't empty is taken
    pub one-plain : (b : ℕ) (path : List ℕ) → b < 256 → slashed (b ∷ path) ≡ false → first one_row (b ∷ path) ≡ Some k
    one-plain b path small plain =
        let taken = takes-rest one_left (b ∷ path) refl (has_slash-slashed (b ∷ path) ∙ plain) in
        let count : length (b ∷ path) - 1 ≡ length path = omega arith in
        one-param b path small
        ∙ ap (λ (t : ℕ × RowsOf K). seek (t.0 - 1) t.1 path) taken
        ∙ ap (λ n. seek n one_left path) count
        ∙ seek-all one_left path

    pub one-slashed : (b : ℕ) (path : List ℕ) → b < 256 → slashed (b ∷ path) ≡ true → first one_row (b ∷ path) ≡ None
    one-slashed b path small more =
        let taken = takes-nothing one_left (b ∷ path) refl (has_slash-slashed (b ∷ path) ∙ more) in
        one-param b path small
        ∙ ap (λ (t : ℕ × RowsOf K). seek (t.0 - 1) t.1 path) taken
        ∙ seek-nil (0 - 1) path

  -- ---- two rows: one that a parameter ends, and one with a text behind it
  module _ (longer shorter : K) where
    abbrev two_rows : RowsOf K
    two_rows = (256 ∷ codes "/rules", longer) ∷ (256 ∷ [], shorter) ∷ []

    abbrev two_left : RowsOf K
    two_left = (codes "/rules", longer) ∷ ([], shorter) ∷ []

    abbrev longer_left : RowsOf K
    longer_left = (codes "/rules", longer) ∷ []

    pub two-nil : first two_rows [] ≡ None
    unfolding seek
    two-nil = refl

    two-param : (b : ℕ) (path : List ℕ) → b < 256 → first two_rows (b ∷ path) ≡ seek ((param_step two_left (b ∷ path)).0 - 1) (param_step two_left (b ∷ path)).1 path
    two-param b path small = let other : eqb 256 b ≡ false = grind (arith, nat_tests) in seek-param two_rows b path (rw other refl) refl

    pub two-plain : (b : ℕ) (path : List ℕ) → b < 256 → slashed (b ∷ path) ≡ false → first two_rows (b ∷ path) ≡ Some shorter
    two-plain b path small plain =
        let none : longest_suffix (segment (b ∷ path)) two_left ≡ [] = ap (λ z. longest_suffix z two_left) (segment-plain (b ∷ path) plain) ∙ rw (cuts-plain (b ∷ path) plain) refl in
        let taken = takes-rest two_left (b ∷ path) none (has_slash-slashed (b ∷ path) ∙ plain) in
        let count : length (b ∷ path) - 1 ≡ length path = omega arith in
        two-param b path small
        ∙ ap (λ (t : ℕ × RowsOf K). seek (t.0 - 1) t.1 path) taken
        ∙ ap (λ n. seek n two_left path) count
        ∙ seek-all two_left path

    -- a part isn't empty
    pub two-empty : (tail : List ℕ) → first two_rows (47 ∷ tail) ≡ None
    two-empty tail =
        let taken = takes-nothing two_left (47 ∷ tail) refl refl in
        let small : 47 < 256 = omega arith in
        two-param 47 tail small
        ∙ ap (λ (t : ℕ × RowsOf K). seek (t.0 - 1) t.1 tail) taken
        ∙ seek-nil (0 - 1) tail

    pub two-part : (b : ℕ) (part tail : List ℕ) → b < 256 → slashed (b ∷ part) ≡ false → first two_rows (b ∷ part ++ 47 ∷ tail) ≡ option_and_then (first (([], longer) ∷ [])) (behind_front (codes "/rules") (47 ∷ tail))
    two-part b part tail small plain =
        let segmented = segment-part (b ∷ part) tail plain in
        let slash : longest_suffix (segment (b ∷ part ++ 47 ∷ tail)) two_left ≡ 47 ∷ [] = ap (λ z. longest_suffix z two_left) segmented ∙ rw (cuts-part b part) refl in
        let taken = takes-part two_left (b ∷ part ++ 47 ∷ tail) slash in
        let long = length-append (b ∷ part) (47 ∷ []) in
        let count : length (segment (b ∷ part ++ 47 ∷ tail)) - 1 - 1 ≡ length part = ap (λ z. length z - 1 - 1) segmented ∙ omega (arith, long) in
        two-param b (part ++ 47 ∷ tail) small
        ∙ ap (λ (t : ℕ × RowsOf K). seek (t.0 - 1) t.1 (part ++ 47 ∷ tail)) taken
        ∙ ap (λ n. seek n longer_left (part ++ 47 ∷ tail)) count
        ∙ seek-skip longer_left part (47 ∷ tail)
        ∙ first-under_front (codes "/rules") (([], longer) ∷ []) (47 ∷ tail) (lit< tt, (lit< tt, (lit< tt, (lit< tt, (lit< tt, (lit< tt, tt))))))
