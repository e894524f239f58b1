-- What a head wants, and whether it is too long, by what is told of it.
use Rattle.std.proofs.Common.{◌≡◌, ◌<◌, ◌≤◌, ◌+◌, ◌∙◌, ⊎_elim, ℕ, Bool, true, false, List, [], ◌++◌, length, Option, Some, None, MatchBool, MatchOption, refl, sym, subst, inl, inr, arith, length-append, ◌↔◌, IsTrue, codes}
use Rattle.std.specs.Prelude.{nat_le}
use Rattle.std.proofs.lemmas.Bool.{leb-false, leb-true, ltb-false, ltb-true}
use Rattle.httparse.specs.Grammar.{RequestHead}
use Rattle.hb_http.specs.Framing.{HasLength, IsChunked, asks_to_close}
use Rattle.hb_http.specs.Headers.{headers_of}
use Rattle.hb_http.specs.Parts.{IsToldOf}
use Rattle.hb_http.specs.declared.parts.Head.{Head}
use Rattle.hb_http.proofs.FramingLaws.{HasLength-not_chunked, HasLength-unique}
use Rattle.hb_talk.specs.Bodies.{IsLast, IsTooLong, TellsTooLong}
use Rattle.hb_talk.specs.Comings.{ComesOf, tells_too_long}
use Rattle.hb_talk.specs.Wanting.{Asks, IsBare}
use Rattle.hb_talk.specs.declared.wanted.TheConstants.{MAX_BODY}
use Rattle.hb_talk.specs.declared.wanted.Wanted.{Wanted}
use Rattle.hb_talk.proofs.ReadBodies.{not-both}

-- ---- a length that is told
abbrev pub TellsLength : RequestHead → Option ℕ → Type 0
TellsLength h length = MatchOption length (IsChunked (headers_of h)) (HasLength (headers_of h))

pub tells-long : (h : RequestHead) (length : Option ℕ) → TellsLength h length → tells_too_long length ≡ true → TellsTooLong h
tells-long h None told is = cc is
tells-long h (Some n) told is = (n, told, ltb-true MAX_BODY n is)

tells-short : (h : RequestHead) (length : Option ℕ) → TellsLength h length → tells_too_long length ≡ false → ¬ (TellsTooLong h)
tells-short h None told is long = HasLength-not_chunked (headers_of h) long.0 long.1 told
tells-short h (Some n) told is long = not-both long.0 MAX_BODY (subst (λ n. n ≤ MAX_BODY) (HasLength-unique (headers_of h) n long.0 told long.1) (ltb-false MAX_BODY n is)) long.2

-- a head alone is short
pub head-short : (h : RequestHead) (length : Option ℕ) → TellsLength h length → tells_too_long length ≡ false → ¬ (IsTooLong h [])
head-short h length told is = λ long. ⊎_elim (tells-short h length told is) (λ above. not-both 0 MAX_BODY (omega (arith)) above) long

-- ---- a piece more
-- the body is too long with it
grown-above : (body content piece : List ℕ) (most : ℕ) → body ≡ content → nat_le (length body + length piece) most ≡ false → most < length (content ++ piece)
grown-above body content piece most same is = subst (λ b. most < length (b ++ piece)) same (subst (λ n. most < n) (sym (length-append body piece)) (leb-false (length body + length piece) most is))

pub grown-long : (h : RequestHead) (body content piece : List ℕ) → body ≡ content → nat_le (length body + length piece) MAX_BODY ≡ false → IsTooLong h (content ++ piece)
grown-long h body content piece same is = inr (grown-above body content piece MAX_BODY same is)

-- or it isn't
grown-few : (body content piece : List ℕ) (most : ℕ) → body ≡ content → nat_le (length body + length piece) most ≡ true → length (content ++ piece) ≤ most
grown-few body content piece most same is = subst (λ b. length (b ++ piece) ≤ most) same (subst (λ n. n ≤ most) (sym (length-append body piece)) (leb-true (length body + length piece) most is))

pub grown-short : (h : RequestHead) (body content piece : List ℕ) → body ≡ content → ¬ (IsTooLong h content) → nat_le (length body + length piece) MAX_BODY ≡ true → ¬ (IsTooLong h (content ++ piece))
grown-short h body content piece same short is = λ long. ⊎_elim (λ tells. short (inl tells)) (λ above. not-both (length (content ++ piece)) MAX_BODY (grown-few body content piece MAX_BODY same is) above) long

-- ---- whether the connection closes
pub closes-by : (h : RequestHead) (content : List ℕ) (last : Bool) → last ≡ asks_to_close h → ¬ (IsTooLong h content) → MatchBool last (IsLast h content) (¬ (IsLast h content))
closes-by h content true is short = inl (sym is)
closes-by h content false is short = λ last. ⊎_elim (λ asks. let both : false ≡ true = is ∙ asks in cc both) short last

-- ---- the request that comes
pub bare-by : (h : RequestHead) (head : Head) → IsToldOf h head → (bare : Bool) → IsTrue bare ↔ (head.method ≡ codes "HEAD") → MatchBool bare (IsBare h) (¬ (IsBare h))
bare-by h head told true is = sym told.method ∙ is.0 refl
bare-by h head told false is = λ asks. let both : false ≡ true = is.1 (told.method ∙ asks) in cc both

pub comes-of : (h : RequestHead) (head : Head) → IsToldOf h head → (wanted : Wanted) (bare : Bool) → IsTrue bare ↔ (head.method ≡ codes "HEAD") → Asks head.method head.target wanted → ComesOf wanted head.content_type head.close bare h
comes-of h head told wanted bare bare_is asks = record {
  asks = subst (λ m. Asks m h.target wanted) told.method (subst (λ t. Asks head.method t wanted) told.target asks);
  media = told.content_type;
  closes = told.close;
  bare = bare-by h head told bare bare_is;
}
