-- Which ending the parts of a path have, by the last two or three of them.
use Rattle.std.proofs.Common.{◌≡◌, ◌≢◌, ◌⊎◌, inl, inr, ℕ, ◌-◌, Bool, true, false, ◌&&◌, List, [], ◌∷◌, ◌++◌, length, take, drop, get_or, refl, sym, ap, ◌∙◌, append_assoc, Some, None, codes, length-append, arith}
use Rattle.std.specs.List.{join_with_byte}
use Rattle.std.specs.Cmp.Lexicographic.{pointwise}
use Rattle.std.proofs.Math.Seq.{drop-append_seam, take-append_seam, get_or-append_right}
use Rattle.std.proofs.lemmas.Slice.Eq.{bytes_eq-Decides}
use Rattle.hb_routes.specs.Cuts.{is_same}
use Rattle.hb_routes.specs.LastParts.{AreOf, IsLastPart}
use Rattle.hb_routes.specs.Resources.{Shape, parts, fits, ends_in, by_ending, is_empty}
use Rattle.hb_routes.specs.Resources.Resource.{Tags, Uploads, Upload, Blob, Manifest}
use Rattle.hb_routes.specs.Resources.Shape.{Word, Nothing, Any}
use Rattle.hb_routes.proofs.Parts.{join-parts}

and-false : (a : Bool) → (a && false) ≡ false
and-false true = refl
and-false false = refl

-- ---- the last parts
-- so many parts stand before the last ones
count_before : (before last : List (List ℕ)) → length (before ++ last) - length last ≡ length before
count_before before last = omega (arith, length-append before last)

pub drop_before : (before last : List (List ℕ)) (n : ℕ) → length last ≡ n → drop (length (before ++ last) - n) (before ++ last) ≡ last
drop_before before last n long = ap (λ m. drop (length (before ++ last) - m) (before ++ last)) (sym long) ∙ ap (λ m. drop m (before ++ last)) (count_before before last) ∙ drop-append_seam before last

pub take_before : (before last : List (List ℕ)) (n : ℕ) → length last ≡ n → take (length (before ++ last) - n) (before ++ last) ≡ before
take_before before last n long = ap (λ m. take (length (before ++ last) - m) (before ++ last)) (sym long) ∙ ap (λ m. take m (before ++ last)) (count_before before last) ∙ take-append_seam before last

-- the last of two parts behind others
last_of_two : (before : List (List ℕ)) (k l : List ℕ) → get_or (before ++ k ∷ l ∷ []) (length (before ++ k ∷ l ∷ []) - 1) [] ≡ l
last_of_two before k l =
    let long = length-append before (k ∷ l ∷ []) in
    get_or-append_right before (k ∷ l ∷ []) (length (before ++ k ∷ l ∷ []) - 1) [] (omega (arith, long))
    ∙ (let at : length (before ++ k ∷ l ∷ []) - 1 - length before ≡ 1 = omega (arith, long) in ap (λ i. get_or (k ∷ l ∷ []) i []) at)

-- two shapes, of the last two parts
pub two : (before : List (List ℕ)) (k l : List ℕ) (s t : Shape) → ends_in (s ∷ t ∷ []) (before ++ k ∷ l ∷ []) ≡ (fits s k && (fits t l && true))
two before k l s t = ap (pointwise fits (s ∷ t ∷ [])) (drop_before before (k ∷ l ∷ []) 2 refl)

-- three shapes, of the last three parts
pub three : (before : List (List ℕ)) (b k l : List ℕ) (s t u : Shape) → ends_in (s ∷ t ∷ u ∷ []) (before ++ b ∷ k ∷ l ∷ []) ≡ (fits s b && (fits t k && (fits u l && true)))
three before b k l s t u = ap (pointwise fits (s ∷ t ∷ u ∷ [])) (drop_before before (b ∷ k ∷ l ∷ []) 3 refl)

-- two parts alone don't have three shapes
three-short : (k l : List ℕ) (s t u : Shape) → ends_in (s ∷ t ∷ u ∷ []) (k ∷ l ∷ []) ≡ false
three-short k l s t u = ap (λ z. fits s k && z) (and-false (fits t l)) ∙ and-false (fits s k)

-- one part alone doesn't have two shapes, nor three
one-two : (p : List ℕ) (s t : Shape) → ends_in (s ∷ t ∷ []) (p ∷ []) ≡ false
one-two p s t = and-false (fits s p)

one-three : (p : List ℕ) (s t u : Shape) → ends_in (s ∷ t ∷ u ∷ []) (p ∷ []) ≡ false
one-three p s t u = and-false (fits s p)

-- a list is empty, or has a last element
abbrev FromEnd : List (List ℕ) → Type 0
FromEnd ps = (ps ≡ []) ⊎ ((before : List (List ℕ)) × (last : List ℕ) × (ps ≡ before ++ last ∷ []))

from_end : (ps : List (List ℕ)) → FromEnd ps
from_end [] = inl refl
from_end (p ∷ ps) =
    elim (from_end ps) [
      | inl none ↦ inr ([], p, ap (λ z. p ∷ z) none)
      | inr more ↦ inr (p ∷ more.0, more.1, ap (λ z. p ∷ z) more.2)
    ]

-- one part more in front of the last two
regroup : (before : List (List ℕ)) (b k l : List ℕ) → (before ++ b ∷ []) ++ k ∷ l ∷ [] ≡ before ++ b ∷ k ∷ l ∷ []
regroup before b k l = simp append_assoc

-- parts have three shapes only where the last but one has its shape
three-not : (before : List (List ℕ)) (k l : List ℕ) (s t u : Shape) → fits t k ≡ false → ends_in (s ∷ t ∷ u ∷ []) (before ++ k ∷ l ∷ []) ≡ false
three-not before k l s t u unfit =
    elim (from_end before) [
      | inl none ↦ ap (λ z. ends_in (s ∷ t ∷ u ∷ []) (z ++ k ∷ l ∷ [])) none ∙ three-short k l s t u
      | inr more ↦
          ap (λ z. ends_in (s ∷ t ∷ u ∷ []) (z ++ k ∷ l ∷ [])) more.2
          ∙ ap (ends_in (s ∷ t ∷ u ∷ [])) (regroup more.0 more.1 k l)
          ∙ three more.0 more.1 k l s t u
          ∙ ap (λ z. fits s more.1 && (z && (fits u l && true))) unfit
          ∙ and-false (fits s more.1)
    ]

-- ---- the first ending that fits
abbrev tags_shapes : List Shape
tags_shapes = Word (codes "tags") ∷ Word (codes "list") ∷ []

abbrev uploads_shapes : List Shape
uploads_shapes = Word (codes "blobs") ∷ Word (codes "uploads") ∷ Nothing ∷ []

abbrev upload_shapes : List Shape
upload_shapes = Word (codes "blobs") ∷ Word (codes "uploads") ∷ Any ∷ []

abbrev blob_shapes : List Shape
blob_shapes = Word (codes "blobs") ∷ Any ∷ []

abbrev manifest_shapes : List Shape
manifest_shapes = Word (codes "manifests") ∷ Any ∷ []

module _ (ps : List (List ℕ)) where
  -- what stands before the ending, and the last part
  abbrev before_two : List ℕ
  before_two = join_with_byte 47 (take (length ps - 2) ps)

  abbrev before_three : List ℕ
  before_three = join_with_byte 47 (take (length ps - 3) ps)

  abbrev last_one : List ℕ
  last_one = get_or ps (length ps - 1) []

  pick-tags : ends_in tags_shapes ps ≡ true → by_ending ps ≡ Some (Tags before_two)
  pick-tags a = rw a refl

  pick-uploads : ends_in tags_shapes ps ≡ false → ends_in uploads_shapes ps ≡ true → by_ending ps ≡ Some (Uploads before_three)
  pick-uploads a b = rw (a, b) refl

  pick-upload : ends_in tags_shapes ps ≡ false → ends_in uploads_shapes ps ≡ false → ends_in upload_shapes ps ≡ true → by_ending ps ≡ Some (Upload before_three last_one)
  pick-upload a b c = rw (a, b, c) refl

  pick-blob : ends_in tags_shapes ps ≡ false → ends_in uploads_shapes ps ≡ false → ends_in upload_shapes ps ≡ false → ends_in blob_shapes ps ≡ true → by_ending ps ≡ Some (Blob before_two last_one)
  pick-blob a b c d = rw (a, b, c, d) refl

  pick-manifest : ends_in tags_shapes ps ≡ false → ends_in uploads_shapes ps ≡ false → ends_in upload_shapes ps ≡ false → ends_in blob_shapes ps ≡ false → ends_in manifest_shapes ps ≡ true → by_ending ps ≡ Some (Manifest before_two last_one)
  pick-manifest a b c d e = rw (a, b, c, d, e) refl

  pick-none : ends_in tags_shapes ps ≡ false → ends_in uploads_shapes ps ≡ false → ends_in upload_shapes ps ≡ false → ends_in blob_shapes ps ≡ false → ends_in manifest_shapes ps ≡ false → by_ending ps ≡ None
  pick-none a b c d e = rw (a, b, c, d, e) refl

-- ---- what the last two parts name
-- texts that a test tells equal are equal
pub same_text : (a b : List ℕ) → is_same a b ≡ true → a ≡ b
same_text a b = (bytes_eq-Decides a b).0

module _ (before : List (List ℕ)) (front : List ℕ) (of_front : AreOf before front) where
  -- the text before an ending of two parts
  text_before : (k l : List ℕ) → join_with_byte 47 (take (length (before ++ k ∷ l ∷ []) - 2) (before ++ k ∷ l ∷ [])) ≡ front
  text_before k l = ap (join_with_byte 47) (take_before before (k ∷ l ∷ []) 2 refl) ∙ join-parts before front of_front

  pub tags-named : by_ending (before ++ codes "tags" ∷ codes "list" ∷ []) ≡ Some (Tags front)
  tags-named =
      let k = codes "tags" in
      let l = codes "list" in
      pick-tags (before ++ k ∷ l ∷ []) (two before k l (Word k) (Word l)) ∙ ap (λ (n : List ℕ). Some (Tags n)) (text_before k l)

  pub blob-named : (l : List ℕ) → by_ending (before ++ codes "blobs" ∷ l ∷ []) ≡ Some (Blob front l)
  blob-named l =
      let k = codes "blobs" in
      let w = Word (codes "uploads") in
      pick-blob (before ++ k ∷ l ∷ [])
      (two before k l (Word (codes "tags")) (Word (codes "list")))
      (three-not before k l (Word k) w Nothing refl)
      (three-not before k l (Word k) w Any refl)
      (two before k l (Word k) Any)
      ∙ ap (λ (n : List ℕ). Some (Blob n (get_or (before ++ k ∷ l ∷ []) (length (before ++ k ∷ l ∷ []) - 1) []))) (text_before k l)
      ∙ ap (λ (m : List ℕ). Some (Blob front m)) (last_of_two before k l)

  pub manifest-named : (l : List ℕ) → by_ending (before ++ codes "manifests" ∷ l ∷ []) ≡ Some (Manifest front l)
  manifest-named l =
      let k = codes "manifests" in
      let b = Word (codes "blobs") in
      let w = Word (codes "uploads") in
      pick-manifest (before ++ k ∷ l ∷ [])
      (two before k l (Word (codes "tags")) (Word (codes "list")))
      (three-not before k l b w Nothing refl)
      (three-not before k l b w Any refl)
      (two before k l b Any)
      (two before k l (Word k) Any)
      ∙ ap (λ (n : List ℕ). Some (Manifest n (get_or (before ++ k ∷ l ∷ []) (length (before ++ k ∷ l ∷ []) - 1) []))) (text_before k l)
      ∙ ap (λ (m : List ℕ). Some (Manifest front m)) (last_of_two before k l)

-- other words name nothing
pub none-named : (before : List (List ℕ)) (k l : List ℕ) → (is_same k (codes "tags") && (is_same l (codes "list") && true)) ≡ false → is_same k (codes "uploads") ≡ false → is_same k (codes "blobs") ≡ false → is_same k (codes "manifests") ≡ false → by_ending (before ++ k ∷ l ∷ []) ≡ None
none-named before k l tags uploads blobs manifests =
    let b = Word (codes "blobs") in
    let w = Word (codes "uploads") in
    pick-none (before ++ k ∷ l ∷ [])
    (two before k l (Word (codes "tags")) (Word (codes "list")) ∙ tags)
    (three-not before k l b w Nothing uploads)
    (three-not before k l b w Any uploads)
    (two before k l b Any ∙ ap (λ z. z && true) blobs)
    (two before k l (Word (codes "manifests")) Any ∙ ap (λ z. z && true) manifests)

-- one part alone names nothing
pub one-named : (p : List ℕ) → by_ending (p ∷ []) ≡ None
one-named p =
    let b = Word (codes "blobs") in
    let w = Word (codes "uploads") in
    pick-none (p ∷ [])
    (one-two p (Word (codes "tags")) (Word (codes "list")))
    (one-three p b w Nothing)
    (one-three p b w Any)
    (one-two p b Any)
    (one-two p (Word (codes "manifests")) Any)

-- ---- what the last three parts name
-- of several parts one that stands alone is empty
single : (before : List (List ℕ)) (k : List ℕ) → ([] ∷ []) ≡ before ++ k ∷ [] → k ≡ []
single [] k e = cc
single (p ∷ before) k e = let long = ap length e in absurd (omega (arith, long, length-append before (k ∷ [])))

-- the last part of what stands before, where it isn't empty
before_last_part : (before : List (List ℕ)) (front name kind : List ℕ) → AreOf before front → IsLastPart front name kind → kind ≢ [] → (others : List (List ℕ)) × (before ≡ others ++ kind ∷ []) × AreOf others name
before_last_part before front name kind h last some_kind =
    elim h [
      | inl e ↦ (last.before, e ∙ last.whole, last.of_front)
      | inr e ↦ absurd (some_kind (single last.before kind (ap parts (sym e.1) ∙ last.whole)))
    ]

module _ (others : List (List ℕ)) (name : List ℕ) (of_name : AreOf others name) (l : List ℕ) where
  abbrev all_parts : List (List ℕ)
  all_parts = others ++ codes "blobs" ∷ codes "uploads" ∷ l ∷ []

  grouped : (others ++ codes "blobs" ∷ []) ++ codes "uploads" ∷ l ∷ [] ≡ all_parts
  grouped = regroup others (codes "blobs") (codes "uploads") l

  no_tags : ends_in tags_shapes all_parts ≡ false
  no_tags = ap (ends_in tags_shapes) (sym grouped) ∙ two (others ++ codes "blobs" ∷ []) (codes "uploads") l (Word (codes "tags")) (Word (codes "list"))

  text_before_three : join_with_byte 47 (take (length all_parts - 3) all_parts) ≡ name
  text_before_three = ap (join_with_byte 47) (take_before others (codes "blobs" ∷ codes "uploads" ∷ l ∷ []) 3 refl) ∙ join-parts others name of_name

  last_of_three : get_or all_parts (length all_parts - 1) [] ≡ l
  last_of_three = ap (λ ps. get_or ps (length ps - 1) []) (sym grouped) ∙ last_of_two (others ++ codes "blobs" ∷ []) (codes "uploads") l

  uploads-three : is_empty l ≡ true → by_ending all_parts ≡ Some (Uploads name)
  uploads-three empty =
      pick-uploads all_parts no_tags
      (three others (codes "blobs") (codes "uploads") l (Word (codes "blobs")) (Word (codes "uploads")) Nothing ∙ ap (λ z. z && true) empty)
      ∙ ap (λ (n : List ℕ). Some (Uploads n)) text_before_three

  upload-three : is_empty l ≡ false → by_ending all_parts ≡ Some (Upload name l)
  upload-three full =
      pick-upload all_parts no_tags
      (three others (codes "blobs") (codes "uploads") l (Word (codes "blobs")) (Word (codes "uploads")) Nothing ∙ ap (λ z. z && true) full)
      (three others (codes "blobs") (codes "uploads") l (Word (codes "blobs")) (Word (codes "uploads")) Any)
      ∙ ap (λ (n : List ℕ). Some (Upload n (get_or all_parts (length all_parts - 1) []))) text_before_three
      ∙ ap (λ (m : List ℕ). Some (Upload name m)) last_of_three

module _ (before : List (List ℕ)) (front name kind l : List ℕ) (of_front : AreOf before front) (last : IsLastPart front name kind) where
  -- `blobs` isn't empty
  blobs_before : is_same kind (codes "blobs") ≡ true → (others : List (List ℕ)) × (before ≡ others ++ codes "blobs" ∷ []) × AreOf others name
  blobs_before same =
      let is = same_text kind (codes "blobs") same in
      let some_kind : kind ≢ [] = λ none. cc in
      let found = before_last_part before front name kind of_front last some_kind in
      (found.0, found.1 ∙ ap (λ k. found.0 ++ k ∷ []) is, found.2)

  in_three : (others : List (List ℕ)) → before ≡ others ++ codes "blobs" ∷ [] → before ++ codes "uploads" ∷ l ∷ [] ≡ others ++ codes "blobs" ∷ codes "uploads" ∷ l ∷ []
  in_three others is = ap (λ ps. ps ++ codes "uploads" ∷ l ∷ []) is ∙ regroup others (codes "blobs") (codes "uploads") l

  pub uploads-named : is_same kind (codes "blobs") ≡ true → is_empty l ≡ true → by_ending (before ++ codes "uploads" ∷ l ∷ []) ≡ Some (Uploads name)
  uploads-named same empty = let found = blobs_before same in ap by_ending (in_three found.0 found.1) ∙ uploads-three found.0 name found.2 l empty

  pub upload-named : is_same kind (codes "blobs") ≡ true → is_empty l ≡ false → by_ending (before ++ codes "uploads" ∷ l ∷ []) ≡ Some (Upload name l)
  upload-named same full = let found = blobs_before same in ap by_ending (in_three found.0 found.1) ∙ upload-three found.0 name found.2 l full

  -- three shapes want `blobs`
  no-blobs : (u : Shape) → is_same kind (codes "blobs") ≡ false → ends_in (Word (codes "blobs") ∷ Word (codes "uploads") ∷ u ∷ []) (before ++ codes "uploads" ∷ l ∷ []) ≡ false
  no-blobs u other =
      let k = codes "uploads" in
      let b = Word (codes "blobs") in
      let w = Word (codes "uploads") in
      elim of_front [
        | inl e ↦
            ap (λ ps. ends_in (b ∷ w ∷ u ∷ []) (ps ++ k ∷ l ∷ [])) (e ∙ last.whole)
            ∙ ap (ends_in (b ∷ w ∷ u ∷ [])) (regroup last.before kind k l)
            ∙ three last.before kind k l b w u
            ∙ ap (λ z. z && (true && (fits u l && true))) other
        | inr e ↦ ap (λ ps. ends_in (b ∷ w ∷ u ∷ []) (ps ++ k ∷ l ∷ [])) e.0 ∙ three-short k l b w u
      ]

  pub no-upload-named : is_same kind (codes "blobs") ≡ false → by_ending (before ++ codes "uploads" ∷ l ∷ []) ≡ None
  no-upload-named other =
      let k = codes "uploads" in
      pick-none (before ++ k ∷ l ∷ [])
      (two before k l (Word (codes "tags")) (Word (codes "list")))
      (no-blobs Nothing other)
      (no-blobs Any other)
      (two before k l (Word (codes "blobs")) Any)
      (two before k l (Word (codes "manifests")) Any)
