-- Laws of the requests that bytes are.
use Rattle.std.proofs.Common.{◌≡◌, ◌<◌, ◌≤◌, ◌∙◌, ℕ, List, [], ◌∷◌, ◌++◌, length, take, refl, sym, ap, subst, arith, append_assoc, ⊎_elim, inr}
use Rattle.std.proofs.lemmas.Bool.{cases_lt}
use Rattle.std.proofs.lemmas.List.{append_cancel_left, take_at, take-append-le, take_all}
use Rattle.std.specs.List.{flat_map, AllByRecursion}
use Rattle.httparse.specs.Grammar.{RequestHead, ReadsRequest, print_request}
use Rattle.httparse.proofs.GrammarLemmas.{request_unique}
use Rattle.hb_http.specs.Framing.{IsFramed}
use Rattle.hb_http.specs.Headers.{headers_of}
use Rattle.hb_http.specs.Heads.{IsHead, HasNoHead, IsMalformed}
use Rattle.hb_http.specs.Requests.{Request, request_text, IsRequest, Begins, HasNoRequest, RequestsOf}
use Rattle.hb_http.proofs.HeadLaws.{IsHead-not_never}

-- whole requests none of which closes stand before the requests of the bytes behind them
pub RequestsOf-behind : (Ends Closes : RequestHead → List ℕ → Type 0) (done rs : List Request) (more rest : List ℕ)
    → AllByRecursion (λ r. IsRequest Ends r × ¬ (Closes r.head r.body)) done
    → RequestsOf Ends Closes more rs rest
    → RequestsOf Ends Closes (flat_map request_text done ++ more) (done ++ rs) rest
RequestsOf-behind Ends Closes [] rs more rest all reads = reads
RequestsOf-behind Ends Closes (r ∷ done) rs more rest all reads = (
  flat_map request_text done ++ more,
  (all.0.0, append_assoc (request_text r) (flat_map request_text done) more),
  inr (all.0.1, RequestsOf-behind Ends Closes done rs more rest all.1 reads),
)

-- the shorter of two fronts of one text is a front of the longer
shorter_front : (a b c d : List ℕ) → a ++ b ≡ c ++ d → length a ≤ length c → take (length a) c ≡ a
shorter_front a b c d same short =
    sym (take-append-le (length a) c d short) ∙ (ap (take (length a)) (sym same) ∙ take_at a b (length a) refl)

-- of two requests of one head whose bodies begin one text, neither body is shorter
never_shorter : (Ends : RequestHead → List ℕ → Type 0) (r s : Request) (m n : List ℕ) → r.head ≡ s.head → r.body ++ m ≡ s.body ++ n
    → IsRequest Ends r → IsRequest Ends s → ¬ (length r.body < length s.body)
never_shorter Ends r s m n head text is_r is_s less =
    let front : take (length r.body) s.body ≡ r.body = shorter_front r.body m s.body n text (omega arith) in
    let moved : Ends s.head r.body = subst (λ (h : RequestHead). Ends h r.body) head is_r.ends in
    is_s.first (length r.body) less (subst (Ends s.head) (sym front) moved)

-- so both bodies are the same
same_body : (Ends : RequestHead → List ℕ → Type 0) (r s : Request) (m n : List ℕ) → r.head ≡ s.head → r.body ++ m ≡ s.body ++ n
    → IsRequest Ends r → IsRequest Ends s → r.body ≡ s.body
same_body Ends r s m n head text is_r is_s =
    let below = never_shorter Ends r s m n head text is_r is_s in
    let above = never_shorter Ends s r n m (sym head) (sym text) is_s is_r in
    let long : length s.body ≤ length r.body = ⊎_elim (λ (e : length r.body < length s.body). absurd (below e)) (λ (e : length s.body ≤ length r.body). e) (cases_lt (length r.body) (length s.body)) in
    let short : length r.body ≤ length s.body = ⊎_elim (λ (e : length s.body < length r.body). absurd (above e)) (λ (e : length r.body ≤ length s.body). e) (cases_lt (length s.body) (length r.body)) in
    sym (shorter_front r.body m s.body n text short) ∙ take_all (length r.body) s.body long

-- the head that a request's text begins with, and what is behind it
head_of_text : (Ends : RequestHead → List ℕ → Type 0) (bytes : List ℕ) (r : Request) (more : List ℕ) → Begins Ends bytes r more
    → ReadsRequest bytes r.head (r.body ++ more)
head_of_text Ends bytes r more begins = (begins.0.head, begins.1 ∙ append_assoc (print_request r.head) r.body more)

-- at most one whole request begins the bytes
pub Begins-unique : (Ends : RequestHead → List ℕ → Type 0) (bytes : List ℕ) (r s : Request) (m n : List ℕ)
    → Begins Ends bytes r m → Begins Ends bytes s n → (r ≡ s) × (m ≡ n)
Begins-unique Ends bytes r s m n first second =
    let heads = request_unique bytes r.head s.head (r.body ++ m) (s.body ++ n) (head_of_text Ends bytes r m first) (head_of_text Ends bytes s n second) in
    let body : r.body ≡ s.body = same_body Ends r s m n heads.0 heads.1 first.0 second.0 in
    let behind : s.body ++ m ≡ s.body ++ n = ap (λ (b : List ℕ). b ++ m) (sym body) ∙ heads.1 in
    (λ i. record { head = heads.0 i; body = body i }, append_cancel_left s.body m n behind)

-- bytes are requests and a rest in one way
pub RequestsOf-unique : (Ends Closes : RequestHead → List ℕ → Type 0) (bytes : List ℕ) (rs os : List Request) (rest other : List ℕ)
    → RequestsOf Ends Closes bytes rs rest → RequestsOf Ends Closes bytes os other → (rs ≡ os) × (rest ≡ other)
RequestsOf-unique Ends Closes bytes [] [] rest other x y = (refl, x.0 ∙ sym y.0)
RequestsOf-unique Ends Closes bytes [] (o ∷ os) rest other x y = absurd (x.1 o y.0 y.1)
RequestsOf-unique Ends Closes bytes (r ∷ rs) [] rest other x y = absurd (y.1 r x.0 x.1)
RequestsOf-unique Ends Closes bytes (r ∷ rs) (o ∷ os) rest other x y =
    let same = Begins-unique Ends bytes r o x.0 y.0 x.1 y.1 in
    ⊎_elim
    (λ (a : Closes r.head r.body × (rs ≡ []) × (rest ≡ [])). ⊎_elim
    (λ (b : Closes o.head o.body × (os ≡ []) × (other ≡ [])).
    let tail : rs ≡ os = a.1 ∙ sym b.1 in
    (λ i. same.0 i ∷ tail i, a.2 ∙ sym b.2))
    (λ (b : (¬ (Closes o.head o.body)) × RequestsOf Ends Closes y.0 os other).
    absurd (b.0 (subst (λ (q : Request). Closes q.head q.body) same.0 a.0)))
    y.2)
    (λ (a : (¬ (Closes r.head r.body)) × RequestsOf Ends Closes x.0 rs rest). ⊎_elim
    (λ (b : Closes o.head o.body × (os ≡ []) × (other ≡ [])).
    absurd (a.0 (subst (λ (q : Request). Closes q.head q.body) (sym same.0) b.0)))
    (λ (b : (¬ (Closes o.head o.body)) × RequestsOf Ends Closes y.0 os other).
    let onward = RequestsOf-unique Ends Closes x.0 rs os rest other a.1 (subst (λ (t : List ℕ). RequestsOf Ends Closes t os other) (sym same.1) b.1) in
    (λ i. same.0 i ∷ onward.0 i, onward.1))
    y.2)
    x.2

-- where no head begins the bytes, no request does
pub HasNoHead-no_request : (Ends : RequestHead → List ℕ → Type 0) (bytes : List ℕ) → HasNoHead bytes → HasNoRequest Ends bytes
HasNoHead-no_request Ends bytes none r more begins =
    none r.head (r.body ++ more) (record { reads = head_of_text Ends bytes r more begins; few = begins.0.few; short = begins.0.short })

-- nor does one where the head doesn't say where its body ends
pub unframed-no_request : (Ends : RequestHead → List ℕ → Type 0) (bytes : List ℕ) (h : RequestHead) (rest : List ℕ)
    → IsHead bytes h rest → ¬ (IsFramed (headers_of h)) → HasNoRequest Ends bytes
unframed-no_request Ends bytes h rest head unframed r more begins =
    let same = request_unique bytes r.head h (r.body ++ more) rest (head_of_text Ends bytes r more begins) head.reads in
    unframed (subst (λ (k : RequestHead). IsFramed (headers_of k)) same.0 begins.0.framed)

-- so malformed bytes begin with no request
pub IsMalformed-no_request : (Ends : RequestHead → List ℕ → Type 0) (bytes : List ℕ) → IsMalformed bytes → HasNoRequest Ends bytes
IsMalformed-no_request Ends bytes malformed = ⊎_elim
    (λ (m : (h : RequestHead) × (rest : List ℕ) × IsHead bytes h rest × ¬ (IsFramed (headers_of h))). unframed-no_request Ends bytes m.0 m.1 m.2 m.3)
    (λ never. HasNoHead-no_request Ends bytes (λ h rest is. IsHead-not_never bytes h rest is never))
    malformed
