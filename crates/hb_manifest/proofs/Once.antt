-- Digests, each once: one more at the end, none of them twice, and none of them lost.
use Rattle.std.proofs.Common.{ℕ, arith, ◌≡◌, ◌≢◌, ◌∙◌, ◌++◌, ◌||◌, Bool, true, false, not, cond, List, [], ◌∷◌, refl, sym, ap, append-nil}
use Rattle.std.specs.List.{list_any, AllPairs}
use Rattle.std.specs.Bool.{Decides, one_answer}
use Rattle.std.proofs.lemmas.Bool.{not-true, true≢false}
use Rattle.std.proofs.lemmas.Slice.Eq.{bytes_eq-Decides}
use Rattle.std.proofs.lemmas.List.Elements.{filter-append, filter_passes}
use Rattle.std.proofs.lemmas.List.Kept.{AllPairs-cons, AllPairs-filter}
use Rattle.hb_text.specs.declared.digests.Digest.{Digest}
use Rattle.hb_manifest.specs.Lists.{same_digest, without, each_once}

-- the comparison tells digests apart
pub same-Decides : (a b : Digest) → Decides (same_digest a b) (a ≡ b)
same-Decides a b =
    let made : List ℕ → Digest = λ bytes. record { 0 = bytes } in
    (λ e. ap made ((bytes_eq-Decides a.0 b.0).0 e), λ e. (bytes_eq-Decides a.0 b.0).1 (ap (λ (d : Digest). d.0) e))

pub same-sym : (a b : Digest) → same_digest a b ≡ same_digest b a
same-sym a b = one_answer (same_digest a b) (same_digest b a) (same-Decides a b) (λ e. sym ((same-Decides b a).0 e), λ e. (same-Decides b a).1 (sym e))

-- Whether a digest is among them isn't changed by leaving out another.
kept_at : (d x e : Digest) (es : List Digest) (t : Bool) → same_digest x e ≡ t → same_digest d x ≡ false
    → list_any (same_digest d) (without x es) ≡ list_any (same_digest d) es
    → list_any (same_digest d) (cond (not t) (e ∷ without x es) (without x es)) ≡ (same_digest d e || list_any (same_digest d) es)
kept_at d x e es true h other ih = ih ∙ ap (λ b. b || list_any (same_digest d) es) (sym (ap (same_digest d) (sym ((same-Decides x e).0 h)) ∙ other))
kept_at d x e es false h other ih = ap (λ b. same_digest d e || b) ih

any-kept : (d x : Digest) → same_digest d x ≡ false → (es : List Digest)
    → list_any (same_digest d) (without x es) ≡ list_any (same_digest d) es
any-kept d x other [] = refl
any-kept d x other (e ∷ es) = kept_at d x e es (same_digest x e) refl other (any-kept d x other es)

-- one digest more, where the first of them is told apart from it or not, and the others too
more_at : (x d : Digest) (es : List Digest) (t : Bool) → list_any (same_digest d) es ≡ t → (s : Bool) → same_digest d x ≡ s
    → x ∷ without x (cond t es (es ++ d ∷ []))
    ≡ cond (s || list_any (same_digest d) (without x es)) (x ∷ without x es) ((x ∷ without x es) ++ d ∷ [])
more_at x d es true among true same = refl
more_at x d es true among false same =
    sym (ap (λ b. cond b (x ∷ without x es) ((x ∷ without x es) ++ d ∷ [])) (any-kept d x same es ∙ among))
more_at x d es false among true same =
    ap (λ ds. x ∷ ds)
    (filter-append (λ e. not (same_digest x e)) es (d ∷ [])
    ∙ ap (λ b. without x es ++ cond (not b) (d ∷ []) []) (same-sym x d ∙ same)
    ∙ append-nil (without x es))
more_at x d es false among false same =
    ap (λ ds. x ∷ ds)
    (filter-append (λ e. not (same_digest x e)) es (d ∷ [])
    ∙ ap (λ b. without x es ++ cond (not b) (d ∷ []) []) (same-sym x d ∙ same))
    ∙ sym (ap (λ b. cond b (x ∷ without x es) ((x ∷ without x es) ++ d ∷ [])) (any-kept d x same es ∙ among))

-- a digest more stands at the end, where it isn't among those before
pub once-more : (xs : List Digest) (d : Digest)
    → each_once (xs ++ d ∷ []) ≡ cond (list_any (same_digest d) (each_once xs)) (each_once xs) (each_once xs ++ d ∷ [])
once-more [] d = refl
once-more (x ∷ xs) d =
    ap (λ es. x ∷ without x es) (once-more xs d)
    ∙ more_at x d (each_once xs) (list_any (same_digest d) (each_once xs)) refl (same_digest d x) refl

-- no digest stands twice
pub once-differ : (xs : List Digest) → AllPairs (λ a b. a ≢ b) (each_once xs)
once-differ [] = λ i j d less within. absurd (omega arith)
once-differ (x ∷ xs) =
    AllPairs-cons (λ a b. a ≢ b) x (without x (each_once xs))
    (λ k d within same. true≢false (sym ((same-Decides x _).1 same) ∙ not-true _ (filter_passes (λ e. not (same_digest x e)) (each_once xs) k d within)))
    (AllPairs-filter (λ a b. a ≢ b) (λ e. not (same_digest x e)) (each_once xs) (once-differ xs))

-- and each is among them
any_once_at : (x d : Digest) (ds : List Digest) (s : Bool) → same_digest x d ≡ s
    → list_any (same_digest x) (each_once ds) ≡ list_any (same_digest x) ds
    → (s || list_any (same_digest x) (without d (each_once ds))) ≡ (s || list_any (same_digest x) ds)
any_once_at x d ds true same ih = refl
any_once_at x d ds false same ih = any-kept x d same (each_once ds) ∙ ih

pub any-once : (x : Digest) (ds : List Digest) → list_any (same_digest x) (each_once ds) ≡ list_any (same_digest x) ds
any-once x [] = refl
any-once x (d ∷ ds) = any_once_at x d ds (same_digest x d) refl (any-once x ds)
