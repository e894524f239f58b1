-- What lists have, and what stands in the lists of digests.
use Rattle.std.proofs.Common.{◌≡◌, ◌<◌, ◌∙◌, ◌⊎◌, inl, inr, ⊎_elim, ℕ, zero, suc, List, [], ◌∷◌, length, get_or, Option, Some, None, refl, sym, ap, subst, arith}
use Rattle.std.specs.List.{Contains, filter_map, cons_option}
use Rattle.std.specs.Cmp.{IsEquivalence}
use Rattle.std.proofs.lemmas.Map.Views.{Contains-from_any, list_any-from_Contains}
use Rattle.serde_json.specs.Data.{Data}
use Rattle.hb_text.specs.declared.digests.Digest.{Digest}
use Rattle.hb_manifest.specs.declared.media.Kind.{Kind}
use Rattle.hb_manifest.specs.declared.media.Kind.TheVariants.{Image, Index}
use Rattle.hb_manifest.specs.Descriptors.{descriptor}
use Rattle.hb_manifest.specs.Lists.{same_digest, each_once}
use Rattle.hb_manifest.specs.Forms.{needed, refs, children}
use Rattle.hb_manifest.specs.Laws.{HasEachOnce, referring, containing}
use Rattle.hb_manifest.proofs.Once.{same-Decides, same-sym, once-differ, any-once}

there : {X : Type 0} (x : X) (xs : List X) (y : X) → Contains xs y → Contains (x ∷ xs) y
there x xs y c = let within = c.1 in (suc c.0, omega arith, c.2)

split_at : {X : Type 0} (x : X) (xs : List X) (y : X) (k : ℕ) → k < length (x ∷ xs) → get_or (x ∷ xs) k y ≡ y → (x ≡ y) ⊎ Contains xs y
split_at x xs y zero within is = inl is
split_at x xs y (suc k) within is = inr (k, omega arith, is)

split : {X : Type 0} (x : X) (xs : List X) (y : X) → Contains (x ∷ xs) y → (x ≡ y) ⊎ Contains xs y
split x xs y c = split_at x xs y c.0 c.1 c.2

nothing : {X : Type 0} (y : X) → Contains [] y → ⊥
nothing y c = let within = c.1 in omega arith

-- what is mapped comes from an element
from_at : {X Y : Type 0} (h : X → Option Y) (x : X) (xs : List X) (ys : List Y) (y : Y) (o : Option Y) → h x ≡ o
    → (Contains ys y → (z : X) × Contains xs z × (h z ≡ Some y)) → Contains (cons_option o ys) y → (z : X) × Contains (x ∷ xs) z × (h z ≡ Some y)
from_at h x xs ys y None is ih c = let found = ih c in (found.0, there x xs found.0 found.1, found.2)
from_at h x xs ys y (Some w) is ih c = ⊎_elim
    (λ e. (x, (0, omega arith, refl), is ∙ ap Some e))
    (λ c'. let found = ih c' in (found.0, there x xs found.0 found.1, found.2))
    (split w ys y c)

mapped-from : {X Y : Type 0} (h : X → Option Y) (xs : List X) (y : Y) → Contains (filter_map h xs) y → (z : X) × Contains xs z × (h z ≡ Some y)
mapped-from h [] y c = absurd (nothing y c)
mapped-from h (x ∷ xs) y c = from_at h x xs (filter_map h xs) y (h x) refl (mapped-from h xs y) c

-- and what an element gives is there
kept_behind : {Y : Type 0} (o : Option Y) (ys : List Y) (y : Y) → Contains ys y → Contains (cons_option o ys) y
kept_behind None ys y c = c
kept_behind (Some w) ys y c = there w ys y c

mapped-to : {X Y : Type 0} (h : X → Option Y) (xs : List X) (z : X) (y : Y) → Contains xs z → h z ≡ Some y → Contains (filter_map h xs) y
mapped-to h [] z y c is = absurd (nothing z c)
mapped-to h (x ∷ xs) z y c is = ⊎_elim
    (λ e. subst (λ o. Contains (cons_option o (filter_map h xs)) y) (sym (ap h e ∙ is)) (0, omega arith, refl))
    (λ c'. kept_behind (h x) (filter_map h xs) y (mapped-to h xs z y c' is))
    (split x xs z c)

same-equivalence : IsEquivalence same_digest
same-equivalence = record {
  refl = λ x. (same-Decides x x).1 refl;
  symm = same-sym;
  congr = λ x y z e. ap (λ d. same_digest d z) ((same-Decides x y).0 e);
}

-- the digests of descriptors, each once
once-each : (ds : List Data) → HasEachOnce ds (each_once (filter_map descriptor ds))
once-each ds =
    let digests : List Digest = filter_map descriptor ds in
    record {
      once = once-differ digests;
      each = λ x. (
        λ c. mapped-from descriptor ds x
            (Contains-from_any (λ a b. (same-Decides a b).0) x digests (sym (any-once x digests) ∙ list_any-from_Contains same-equivalence x (each_once digests) c)),
        λ named. Contains-from_any (λ a b. (same-Decides a b).0) x (each_once digests)
            (any-once x digests ∙ list_any-from_Contains same-equivalence x digests (mapped-to descriptor ds named.0 x named.1 named.2)),
      );
    }

-- and none of no descriptor
none-each : HasEachOnce [] []
none-each = record {
  once = λ i j d less within. absurd (omega arith);
  each = λ x. (λ c. absurd (nothing x c), λ named. absurd (nothing named.0 named.1));
}

pub refs-each : (kind : Kind) (ds : List Data) → HasEachOnce (referring kind ds) (refs kind ds)
refs-each Image ds = once-each (needed ds)
refs-each Index ds = none-each

pub children-each : (kind : Kind) (ds : List Data) → HasEachOnce (containing kind ds) (children kind ds)
children-each Image ds = none-each
children-each Index ds = once-each ds
