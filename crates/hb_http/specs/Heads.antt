-- Heads of requests within the limits of a registry.
use Rattle.std.specs.Prelude.{◌≤◌, ◌⊎◌, ℕ, List, length, take, drop, All}
use Rattle.httparse.specs.Grammar.{RequestHead, ReadsRequest, print_request, NeverHasRequest, EndsInTarget}
use Rattle.httparse.specs.Spans.{RequestExceeds, IsWithin, IsHeaderWithin, IsRequestAt, IsRequestWithin}
use Rattle.httparse.specs.declared.spans.HeaderSpan.{HeaderSpan}
use Rattle.httparse.specs.declared.spans.RequestSpans.{RequestSpans}
use Rattle.hb_http.specs.Framing.{IsFramed}
use Rattle.hb_http.specs.Headers.{headers_of}
use Rattle.hb_http.specs.declared.TheConstants.{MAX_HEAD, MAX_HEADERS}

-- the bytes begin with this head, which is within the limits
pub record IsHead (bytes : List ℕ) (h : RequestHead) (rest : List ℕ) : Type 0 where
  pub reads : ReadsRequest bytes h rest
  pub few : length h.fields ≤ MAX_HEADERS
  pub short : length (print_request h) ≤ MAX_HEAD

-- no head within the limits begins the bytes
abbrev pub HasNoHead : List ℕ → Type 0
HasNoHead bytes = (h : RequestHead) (rest : List ℕ) → ¬ (IsHead bytes h rest)

-- what is looked at for a head
abbrev pub window : List ℕ → List ℕ
window bytes = take MAX_HEAD bytes

-- no bytes can follow that make a head of them, and they don't end inside a target
abbrev pub NeverHasHead : List ℕ → Type 0
NeverHasHead bytes = NeverHasRequest (window bytes) × ¬ (EndsInTarget (window bytes))

-- the bytes begin with a head that doesn't say where its body ends, or can never begin with a head
abbrev pub IsMalformed : List ℕ → Type 0
IsMalformed bytes = ((h : RequestHead) × (rest : List ℕ) × IsHead bytes h rest × ¬ (IsFramed (headers_of h))) ⊎ NeverHasHead bytes

-- the line of one header more than the limit is whole
abbrev pub HasTooManyHeaders : List ℕ → Type 0
HasTooManyHeaders bytes = RequestExceeds MAX_HEADERS (window bytes)

-- so many bytes hold no whole head
abbrev pub IsHeadTooLong : List ℕ → Type 0
IsHeadTooLong bytes = (MAX_HEAD ≤ length bytes) × HasNoHead bytes

-- the bytes begin with this head, and the spans cover its parts
pub record IsHeadAt (bytes : List ℕ) (headers : List HeaderSpan) (r : RequestSpans) (h : RequestHead) : Type 0 where
  pub head : IsHead bytes h (drop r.len bytes)
  pub at : IsRequestAt bytes headers r h
  pub within : IsRequestWithin bytes headers r

-- the spans cover parts of the bytes
pub record AreWithin (bytes : List ℕ) (spans : List HeaderSpan) (r : RequestSpans) : Type 0 where
  pub len : r.len ≤ length bytes
  pub method : IsWithin (length bytes) r.method
  pub path : IsWithin (length bytes) r.path
  pub count : r.headers ≤ length spans
  pub headers : All (IsHeaderWithin (length bytes)) (take r.headers spans)
