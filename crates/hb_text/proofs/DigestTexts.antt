-- The text of a digest is decoded to its bytes.
use Rattle.std.specs.Result.{is_err}
use Rattle.std.specs.Cmp.Lexicographic.{pointwise, nat_list_eq_equiv}
use Rattle.std.proofs.lemmas.Bool.{false≢true}
use Rattle.std.proofs.Common.{Bool, true, false, nat_eq, ◌≡◌, ℕ, List, length, take, drop, ◌-◌, Result, Ok, Err, MatchResult, subst, take_all, sym, ap, ◌∙◌, arith}
use Rattle.hex.specs.Hex.{encode_lower, decode_sized, lower_digits}
use Rattle.hex.proofs.HexLemmas.{length-encode_with, decode_of-encode_lower, decode_sized-twice}
use Rattle.hb_text.specs.declared.digests.Digest.{Digest}
use Rattle.hb_text.specs.Digests.{digest_text, IsDigest}

-- two digits a byte
pub length-hex : (d : Digest) → IsDigest d → length (encode_lower d.0) ≡ 64
length-hex d h = omega (arith, length-encode_with lower_digits d.0, h.long)

-- `sha256:` and two digits a byte
pub length-text : (d : Digest) → IsDigest d → length (digest_text d) ≡ 71
length-text d h = omega (arith, length-hex d h)

-- as many as there are
take-whole : (xs : List ℕ) (n : ℕ) → n ≡ length xs → take n xs ≡ xs
take-whole xs n e = ap (λ m. take m xs) e ∙ take_all (length xs) xs (omega arith)

-- what stands behind `sha256:` is decoded to the digest's bytes
pub decoded : (s : List ℕ) (d : Digest) → IsDigest d → s ≡ digest_text d → decode_sized (take (length s - 7) (drop 7 s)) 32 ≡ Ok d.0
decoded s d h e =
    ap (λ z. decode_sized (take (length z - 7) (drop 7 z)) 32) e
    ∙ ap (λ z. decode_sized z 32) (take-whole (encode_lower d.0) (length (digest_text d) - 7) (omega (arith, length-text d h, length-hex d h)))
    ∙ decode_sized-twice (encode_lower d.0) 32 (length-hex d h) ∙ decode_of-encode_lower d.0 h.bytes

-- what a decoding that succeeds says
pub when-decoded : {E : Type 0} (r : Result (Unit {0}) E) (out : List ℕ) (x : Result (List ℕ) E) (bs : List ℕ) → x ≡ Ok bs → MatchResult x (λ bytes. (r ≡ Ok tt) × (out ≡ bytes)) (λ e. r ≡ Err e) → (r ≡ Ok tt) × (out ≡ bs)
when-decoded r out x bs e h = subst (λ x. MatchResult x (λ bytes. (r ≡ Ok tt) × (out ≡ bytes)) (λ e. r ≡ Err e)) e h

-- a decoding that succeeded gave no error
pub no-error : {E : Type 0} (b : Bool) (r : Result (Unit {0}) E) → b ≡ is_err r → b ≡ true → r ≡ Ok tt → ⊥
no-error b r said test ok = false≢true (sym (ap is_err ok) ∙ sym said ∙ test)

-- texts that a comparison tells apart are not equal
pub not-told-apart : (b : Bool) (xs ys : List ℕ) → b ≡ pointwise nat_eq xs ys → b ≡ false → xs ≡ ys → ⊥
not-told-apart b xs ys said test same = false≢true (sym test ∙ said ∙ ap (pointwise nat_eq xs) (sym same) ∙ nat_list_eq_equiv.refl xs)
