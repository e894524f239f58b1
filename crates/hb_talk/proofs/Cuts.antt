-- Bytes that hold no further part, and may still become one, call for no refusal.
use Rattle.std.proofs.Common.{◌≢◌, ◌∙◌, ◌+◌, ⊎_elim, ℕ, List, ◌++◌, length, Option, Some, None, sym, ap, subst, inl, inr}
use Rattle.std.proofs.lemmas.List.Sums.{fold-append}
use Rattle.httparse.specs.Grammar.{RequestHead}
use Rattle.httparse.proofs.GrammarLemmas.{request_unique}
use Rattle.hb_http.specs.ChunkPlaces.{body_start, chunk_step, place_after}
use Rattle.hb_http.specs.Framing.{IsChunked, IsFramed}
use Rattle.hb_http.specs.Headers.{headers_of}
use Rattle.hb_http.specs.Heads.{HasNoHead, HasTooManyHeaders, IsHead, IsHeadTooLong, IsMalformed, NeverHasHead}
use Rattle.hb_http.specs.Parts.{HoldsNoPart}
use Rattle.hb_http.specs.Readings.{Given, IsBegun}
use Rattle.hb_http.specs.declared.TheConstants.{MAX_HEAD}
use Rattle.hb_http.specs.declared.chunk_places.ChunkPlace.{ChunkPlace}
use Rattle.hb_http.specs.declared.chunk_places.ChunkPlace.TheVariants.{Bad as BadBody}
use Rattle.hb_http.specs.declared.places.Place.{Place}
use Rattle.hb_http.specs.declared.places.Place.TheVariants.{Between, Counted, Chunked}
use Rattle.hb_http.proofs.ChunkLaws.{bad_stays}
use Rattle.hb_http.proofs.FramingLaws.{HasLength-not_chunked}
use Rattle.hb_http.proofs.HeadLaws.{IsHead-append, IsHead-not_many, IsHead-not_never}
use Rattle.hb_http.proofs.PartsRead.{begun_through}
use Rattle.hb_talk.specs.Talks.{IsBadBody, IsMalformedRest, IsOpen, IsOverLimits}
use Rattle.hb_talk.proofs.ReadBodies.{not-both}

-- a head that doesn't say where its body ends, and one whose body in chunks can't be one
abbrev Unframed : List ℕ → Type 0
Unframed bytes = (g : RequestHead) × (rest : List ℕ) × IsHead bytes g rest × ¬ (IsFramed (headers_of g))

abbrev Rotten : List ℕ → Type 0
Rotten bytes = (g : RequestHead) × (rest : List ℕ) × IsHead bytes g rest × IsChunked (headers_of g) × IsBadBody rest

-- a head that says where its body ends, and no body in chunks that can't be one
headed-open : (bytes : List ℕ) (h : RequestHead) (body : List ℕ) → IsHead bytes h body → IsFramed (headers_of h) → (IsChunked (headers_of h) → place_after body_start body ≢ BadBody) → IsOpen bytes
headed-open bytes h body is framed may = record { formed = formed; within = within }
  where
    formed : ¬ (IsMalformedRest bytes)
    formed malformed = ⊎_elim
        (λ (head : IsMalformed bytes). ⊎_elim
        (λ (x : Unframed bytes). x.3 (subst (λ (g : RequestHead). IsFramed (headers_of g)) (request_unique bytes h x.0 body x.1 is.reads x.2.reads).0 framed))
        (λ (x : NeverHasHead bytes). IsHead-not_never bytes h body is x)
        head)
        (λ (x : Rotten bytes).
        let same = request_unique bytes x.0 h x.1 body x.2.reads is.reads in
        let bad = x.4 in
        may (subst (λ (g : RequestHead). IsChunked (headers_of g)) same.0 x.3)
        (ap (place_after body_start) (sym same.1 ∙ bad.2) ∙ (fold-append chunk_step body_start bad.0 bad.1 ∙ (ap (λ (p : ChunkPlace). place_after p bad.1) bad.3 ∙ bad_stays bad.1))))
        malformed

    within : ¬ (IsOverLimits bytes)
    within over = ⊎_elim (λ (x : HasTooManyHeaders bytes). IsHead-not_many bytes h body is x) (λ (x : IsHeadTooLong bytes). x.1 h body is) over

-- bytes that hold no head, and may still begin with one
pub headless-formed : (bytes : List ℕ) → HasNoHead bytes → ¬ (NeverHasHead bytes) → ¬ (IsMalformedRest bytes)
headless-formed bytes none may malformed = ⊎_elim
    (λ (head : IsMalformed bytes). ⊎_elim (λ (x : Unframed bytes). none x.0 x.1 x.2) (λ (x : NeverHasHead bytes). may x) head)
    (λ (x : Rotten bytes). none x.0 x.1 x.2)
    malformed

headless-open : (bytes : List ℕ) → HoldsNoPart Between bytes → IsOpen bytes
headless-open bytes none = record { formed = headless-formed bytes none.0 none.2; within = within }
  where
    within : ¬ (IsOverLimits bytes)
    within over = ⊎_elim (λ (x : HasTooManyHeaders bytes). none.3 x) (λ (x : IsHeadTooLong bytes). not-both MAX_HEAD (length bytes) x.0 none.1) over

pub rest-open : (place : Place) (now : Option Given) (begun waiting : List ℕ) → IsBegun place now begun → HoldsNoPart place waiting → IsOpen (begun ++ waiting)
rest-open Between None begun waiting is none = subst (λ (b : List ℕ). IsOpen (b ++ waiting)) (sym is) (headless-open waiting none)
rest-open Between (Some g) begun waiting is none = absurd is
rest-open (Counted left) None begun waiting is none = absurd is
rest-open (Counted left) (Some g) begun waiting is none =
    headed-open (begun ++ waiting) g.head (g.content ++ waiting) (IsHead-append begun waiting g.head g.content is.0) (inl (length g.content + left, is.1))
    (λ chunked. absurd (HasLength-not_chunked (headers_of g.head) (length g.content + left) is.1 chunked))
rest-open (Chunked place) None begun waiting is none = absurd is
rest-open (Chunked place) (Some g) begun waiting is none =
    let through = begun_through place g begun waiting is none in
    headed-open (begun ++ waiting) g.head through.begun through.is_head (inr through.chunked) (λ chunked bad. through.not_bad (sym through.arrives ∙ bad))
