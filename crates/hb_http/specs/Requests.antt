-- The requests that bytes are, one behind another. They speak of the bytes alone, however these were
-- cut into pieces on their way.
use Rattle.std.specs.Prelude.{◌≡◌, ◌<◌, ◌≤◌, ◌⊎◌, ℕ, List, [], ◌∷◌, ◌++◌, length, take}
use Rattle.httparse.specs.Grammar.{RequestHead, IsRequestHead, print_request}
use Rattle.hb_http.specs.Framing.{IsFramed}
use Rattle.hb_http.specs.Headers.{headers_of}
use Rattle.hb_http.specs.declared.TheConstants.{MAX_HEAD, MAX_HEADERS}

-- a head, and the bytes behind it that belong to the request, as they came
pub record Request : Type 0 where
  pub head : RequestHead
  pub body : List ℕ

abbrev pub request_text : Request → List ℕ
request_text r = print_request r.head ++ r.body

-- Ends says of a head and the bytes behind it that the request ends with them. A server says by it which
-- bodies it reads, and how far.
module _ (Ends : RequestHead → List ℕ → Type 0) where
  -- a whole request: it ends with its body, and not before
  pub record IsRequest (r : Request) : Type 0 where
    pub head : IsRequestHead r.head
    pub few : length r.head.fields ≤ MAX_HEADERS
    pub short : length (print_request r.head) ≤ MAX_HEAD
    pub framed : IsFramed (headers_of r.head)
    pub ends : Ends r.head r.body
    pub first : (n : ℕ) → n < length r.body → ¬ (Ends r.head (take n r.body))

  -- the bytes are this request, and then more
  abbrev pub Begins : List ℕ → Request → List ℕ → Type 0
  Begins bytes r more = IsRequest r × (bytes ≡ request_text r ++ more)

  -- no whole request begins the bytes
  abbrev pub HasNoRequest : List ℕ → Type 0
  HasNoRequest bytes = (r : Request) (more : List ℕ) → ¬ (Begins bytes r more)

  -- Closes says of a head and a body that the connection closes behind the request.
  module _ (Closes : RequestHead → List ℕ → Type 0) where
    -- The bytes are these requests up to and with the first that closes, and the rest. Behind a request
    -- that closes nothing is read, and the rest is empty. Else no whole request begins the rest.
    abbrev pub RequestsOf : List ℕ → List Request → List ℕ → Type 0
    RequestsOf bytes [] rest = (rest ≡ bytes) × HasNoRequest bytes
    RequestsOf bytes (r ∷ rs) rest =
        (more : List ℕ) × Begins bytes r more
        × ((Closes r.head r.body × (rs ≡ []) × (rest ≡ [])) ⊎ ((¬ (Closes r.head r.body)) × RequestsOf more rs rest))
