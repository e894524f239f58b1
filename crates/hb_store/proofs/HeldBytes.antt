-- What is held under a digest after a content was placed, and after a removal took effect.
use Rattle.std.proofs.Common.{◌≡◌, ℕ, Bool, true, false, cond, List, Option, Some, None, refl, sym, ap, ◌∙◌}
use Rattle.std.specs.Option.{option_map}
use Rattle.std.specs.Ordering.{is_eq}
use Rattle.std.specs.Cmp.{IsTotalOrder}
use Rattle.std.specs.Cmp.Lexicographic.{on_texts, texts_ties, same_text, nat_list_eq_equiv}
use Rattle.hb_base.specs.Tables.{row_at}
use Rattle.hb_base.proofs.TableLaws.{row_at-with, row_at-without}
use Rattle.hb_text.specs.declared.digests.Digest.{Digest}
use Rattle.hb_store.specs.Contents.{Contents, digest_cmp, held_key, bytes_of, holding, lapsed}

pub digest_cmp-total : IsTotalOrder digest_cmp
digest_cmp-total = on_texts (λ d. d.0)

-- digests that the order doesn't tell apart are one
pub digest_cmp-equal : (a b : Digest) → is_eq (digest_cmp a b) ≡ true → a ≡ b
digest_cmp-equal a b e = let same : a.0 ≡ b.0 = same_text a.0 b.0 (sym (texts_ties a.0 b.0 ∙ e)) in ap (λ bytes. let d : Digest = record { 0 = bytes } in d) same

pub digest_cmp-same : (d : Digest) → is_eq (digest_cmp d d) ≡ true
digest_cmp-same d = sym (texts_ties d.0 d.0) ∙ nat_list_eq_equiv.refl d.0

-- a function of a choice is the choice of its values
option_map-cond : {A B : Type 0} (f : A → B) (b : Bool) (x y : Option A) → option_map f (cond b x y) ≡ cond b (option_map f x) (option_map f y)
option_map-cond f true x y = refl
option_map-cond f false x y = refl

pub bytes_of-holding : (c : Contents) (d q : Digest) (bytes : List ℕ) → bytes_of (holding d bytes c) q ≡ cond (is_eq (digest_cmp q d)) (Some bytes) (bytes_of c q)
bytes_of-holding c d q bytes =
    ap (option_map (λ row. row.bytes)) (row_at-with digest_cmp-total held_key q (record { digest = d; bytes = bytes }) c.held)
    ∙ option_map-cond (λ row. row.bytes) (is_eq (digest_cmp q d)) (Some (record { digest = d; bytes = bytes })) (row_at digest_cmp held_key q c.held)

pub bytes_of-lapsed : (c : Contents) (d q : Digest) → bytes_of (lapsed c d) q ≡ cond (is_eq (digest_cmp q d)) None (bytes_of c q)
bytes_of-lapsed c d q =
    ap (option_map (λ row. row.bytes)) (row_at-without digest_cmp-total held_key q d c.held)
    ∙ option_map-cond (λ row. row.bytes) (is_eq (digest_cmp q d)) None (row_at digest_cmp held_key q c.held)
