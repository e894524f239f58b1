-- The text that names a digest is the one that is written for it.
use Rattle.std.proofs.Common.{◌≡◌, ◌∙◌, ◌%◌, ◌/◌, ◌==◌, ℕ, Bool, true, false, cond, List, length, drop, Some, None, Result, Ok, Err, refl, sym, ap, arith}
use Rattle.std.specs.Prelude.{bytes_eq, option_and_then, if◌then◌else◌}
use Rattle.std.specs.Result.{result_ok}
use Rattle.std.proofs.lemmas.Bool.{eqb-true}
use Rattle.std.proofs.lemmas.Option.{option_and_then_some, cond_some, none-some, same_Some}
use Rattle.std.proofs.lemmas.Slice.Eq.{bytes_eq-Decides}
use Rattle.hex.specs.declared.error.FromHexError.{FromHexError}
use Rattle.hex.specs.declared.error.FromHexError.TheVariants.{OddLength, InvalidStringLength}
use Rattle.hex.specs.Hex.{encode_lower, decode_sized, decode_pairs, IsBytes}
use Rattle.hex.proofs.HexLemmas.{decode_of-encode_lower, decode_pairs-ok, decode_sized-twice}
use Rattle.hb_text.specs.declared.digests.Digest.{Digest}
use Rattle.hb_text.specs.Digests.{digest_text, IsDigest}
use Rattle.hb_text.proofs.DigestTexts.{length-hex}
use Rattle.hb_manifest.specs.Descriptors.{digest_in, when_written}

-- what is written for a digest names it
pub named : (text : List ℕ) (d : Digest) → IsDigest d → text ≡ digest_text d → digest_in text ≡ Some d
named text d is written =
    let made : List ℕ → Digest = λ bytes. record { 0 = bytes } in
    let decoded : decode_sized (drop 7 text) 32 ≡ Ok d.0 =
    ap (λ t. decode_sized (drop 7 t) 32) written
    ∙ decode_sized-twice (encode_lower d.0) 32 (length-hex d is) ∙ decode_of-encode_lower d.0 is.bytes in
    ap (λ r. option_and_then (λ bytes. when_written text (made bytes)) (result_ok r)) decoded
    ∙ ap (λ b. if b then Some d else None) ((bytes_eq-Decides (digest_text d) text).1 (sym written))

-- what is decoded in room for so many bytes is so many bytes
sized_at : (s bytes : List ℕ) (odd fits : Bool) (n : ℕ) → length s / 2 == n ≡ fits
    → cond odd (Err OddLength) (cond fits (decode_pairs 0 s) (Err InvalidStringLength)) ≡ Ok bytes
    → (length bytes ≡ n) × IsBytes bytes
sized_at s bytes true fits n half e = cc e
sized_at s bytes false false n half e = cc e
sized_at s bytes false true n half e =
    let ok = decode_pairs-ok 0 s bytes e in
    let twice = ok.1 in
    let halved = eqb-true (length s / 2) n half in
    (omega arith, ok.2)

sized : (s bytes : List ℕ) (n : ℕ) → decode_sized s n ≡ Ok bytes → (length bytes ≡ n) × IsBytes bytes
sized s bytes n e = sized_at s bytes (length s % 2 == 1) (length s / 2 == n) n refl e

ok_is : (r : Result (List ℕ) FromHexError) (bytes : List ℕ) → result_ok r ≡ Some bytes → r ≡ Ok bytes
ok_is (Ok x) bytes e = ap Ok (same_Some x bytes e)
ok_is (Err f) bytes e = absurd (none-some bytes e)

-- a digest that a text names is one, and the text is what is written for it
pub names : (text : List ℕ) (d : Digest) → digest_in text ≡ Some d → (text ≡ digest_text d) × IsDigest d
names text d e =
    let made : List ℕ → Digest = λ bytes. record { 0 = bytes } in
    option_and_then_some (λ bytes. when_written text (made bytes)) (result_ok (decode_sized (drop 7 text) 32)) d e
    (λ bytes decoded written.
    let is = cond_some (bytes_eq (digest_text (made bytes)) text) (made bytes) d written in
    let size = sized (drop 7 text) bytes 32 (ok_is _ bytes decoded) in
    let text_is = sym ((bytes_eq-Decides (digest_text (made bytes)) text).0 is.0) in
    (text_is ∙ ap digest_text is.1, rw (← is.1) (record { long = size.0; bytes = size.1 })))
