-- How a head says where its body ends (RFC 9112, section 6.3), and whether the connection is to close
-- behind the answer (section 9.3).
use Rattle.std.specs.Prelude.{◌≡◌, ◌⊎◌, ◌==◌, ◌||◌, ℕ, Bool, true, List, [], ◌∷◌, codes}
use Rattle.std.specs.List.{AllByRecursion, list_any}
use Rattle.httparse.specs.Grammar.{RequestHead}
use Rattle.hb_text.specs.Numbers.{IsNumber}
use Rattle.hb_http.specs.Headers.{headers_of, same_ignoring_case, values_of}

abbrev pub lengths : List (List ℕ × List ℕ) → List (List ℕ)
lengths = values_of (codes "content-length")

abbrev pub codings : List (List ℕ × List ℕ) → List (List ℕ)
codings = values_of (codes "transfer-encoding")

-- the body has n bytes: each Content-Length says so; where there is none, n is 0
pub record HasLength (headers : List (List ℕ × List ℕ)) (n : ℕ) : Type 0 where
  pub plain : codings headers ≡ []
  pub each : AllByRecursion (λ value. IsNumber value n) (lengths headers)
  pub none : lengths headers ≡ [] → n ≡ 0

-- the body comes in chunks: one Transfer-Encoding says so, and no Content-Length says anything
pub record IsChunked (headers : List (List ℕ × List ℕ)) : Type 0 where
  pub coding : List ℕ
  pub one : codings headers ≡ coding ∷ []
  pub chunked : same_ignoring_case coding (codes "chunked") ≡ true
  pub no_length : lengths headers ≡ []

-- The head says where its body ends. One that says it twice in different ways, by another coding or by
-- no number is refused, so that no two readers of the connection can differ.
abbrev pub IsFramed : List (List ℕ × List ℕ) → Type 0
IsFramed headers = ((n : ℕ) × HasLength headers n) ⊎ IsChunked headers

-- `Connection: close`, which any Connection header may say
abbrev pub says_close : List (List ℕ × List ℕ) → Bool
says_close headers = list_any (λ value. same_ignoring_case value (codes "close")) (values_of (codes "connection") headers)

-- version 1.0, or `Connection: close`
abbrev pub is_last : ℕ → List (List ℕ × List ℕ) → Bool
is_last minor headers = minor == 0 || says_close headers

abbrev pub asks_to_close : RequestHead → Bool
asks_to_close h = is_last h.minor (headers_of h)
