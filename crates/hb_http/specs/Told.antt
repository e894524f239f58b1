-- What a head says, by its spans.
use Rattle.std.specs.Prelude.{◌≡◌, ◌≤◌, ℕ, List, codes, drop, length, Some, None}
use Rattle.httparse.specs.Grammar.{RequestHead}
use Rattle.httparse.specs.Spans.{span_bytes}
use Rattle.httparse.specs.declared.spans.RequestSpans.{RequestSpans}
use Rattle.hb_http.specs.Framing.{IsFramed, is_last}
use Rattle.hb_http.specs.Headers.{headers_of, values_of}
use Rattle.hb_http.specs.Heads.{IsHead}
use Rattle.hb_http.specs.Parts.{IsToldOf, first_of}
use Rattle.hb_http.specs.declared.framing.Framing.{Framing}
use Rattle.hb_http.specs.declared.framing.Framing.TheVariants.{Length, Chunked}
use Rattle.hb_http.specs.declared.parts.Head.{Head}

-- what is told of these spans and headers
pub record IsToldBy (bytes : List ℕ) (r : RequestSpans) (headers : List (List ℕ × List ℕ)) (framing : Framing) (told : Head) : Type 0 where
  pub method : told.method ≡ span_bytes bytes r.method
  pub target : told.target ≡ span_bytes bytes r.path
  pub content_type : told.content_type ≡ first_of (values_of (codes "content-type") headers)
  pub content_range : told.content_range ≡ first_of (values_of (codes "content-range") headers)
  pub counted : (n : ℕ) → framing ≡ Length n → told.length ≡ Some n
  pub chunked : framing ≡ Chunked → told.length ≡ None
  pub close : told.close ≡ is_last r.version headers

-- the first bytes are a head that says where its body ends, and this is told of it
pub record IsToldAt (bytes : List ℕ) (told : Head) (len : ℕ) : Type 0 where
  pub head : RequestHead
  pub is_head : IsHead bytes head (drop len bytes)
  pub framed : IsFramed (headers_of head)
  pub is_told : IsToldOf head told
  pub within : len ≤ length bytes
