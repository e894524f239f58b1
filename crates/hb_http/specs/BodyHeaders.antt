-- What the headers about a body say together.
use Rattle.std.specs.Prelude.{◌≡◌, ◌≢◌, ℕ, true, List, [], ◌∷◌, codes}
use Rattle.std.specs.List.{AllByRecursion}
use Rattle.hb_text.specs.Numbers.{IsNumber}
use Rattle.hb_http.specs.Headers.{same_ignoring_case}
use Rattle.hb_http.specs.declared.framing.LengthSaid.{LengthSaid}
use Rattle.hb_http.specs.declared.framing.LengthSaid.TheVariants.{Nowhere, Everywhere, Unclear}
use Rattle.hb_http.specs.declared.framing.CodingSaid.{CodingSaid}
use Rattle.hb_http.specs.declared.framing.CodingSaid.TheVariants.{Nothing, Chunked, Other}

-- no value; each value is this number; the values are no number, or not one
abbrev pub SayLength : List (List ℕ) → LengthSaid → Type 0
SayLength values Nowhere = values ≡ []
SayLength values (Everywhere n) = (values ≢ []) × AllByRecursion (λ value. IsNumber value n) values
SayLength values Unclear = (n : ℕ) → ¬ (AllByRecursion (λ value. IsNumber value n) values)

-- the one value is `chunked`
abbrev pub IsOneChunked : List (List ℕ) → Type 0
IsOneChunked values = (coding : List ℕ) × (values ≡ coding ∷ []) × (same_ignoring_case coding (codes "chunked") ≡ true)

-- no value; the one value is `chunked`; other values, or more
abbrev pub SayCoding : List (List ℕ) → CodingSaid → Type 0
SayCoding values Nothing = values ≡ []
SayCoding values Chunked = IsOneChunked values
SayCoding values Other = (values ≢ []) × ¬ (IsOneChunked values)
