-- Each turn of a talk leaves less to do.
use Rattle.std.proofs.Common.{◌≡◌, ◌≢◌, ◌<◌, ◌≤◌, ◌+◌, ◌-◌, ◌*◌, ◌^◌, ℕ, zero, suc, min, Bool, false, List, [], ◌∷◌, ◌++◌, length, take, drop, Option, Some, None, Ok, refl, sym, ap, subst, ◌∙◌, inl, inr, arith, append-nil, length-append, length-drop}
use Rattle.httparse.specs.Grammar.{RequestHead, print_request}
use Rattle.hb_http.specs.Heads.{IsHead}
use Rattle.hb_http.specs.Parts.{Gives, GivesBody, body_place, read_through}
use Rattle.hb_http.specs.Standing.{Standing}
use Rattle.hb_http.specs.declared.TheConstants.{MAX_PIECE}
use Rattle.hb_http.specs.declared.parts.Head.{Head}
use Rattle.hb_http.specs.declared.parts.Part.TheVariants.{Head as HeadPart, Body, NeedInput}
use Rattle.hb_http.specs.declared.places.Place.{Place}
use Rattle.hb_http.specs.declared.places.Place.TheVariants.{Between, Counted, Chunked}
use Rattle.hb_http.proofs.OneReading.{no_head_in_nothing}
use Rattle.hb_talk.specs.Progress.{Begins, Gathers, GathersTo, Reads, TalkParts, is_between, is_open, work_left}
use Rattle.hb_talk.specs.declared.ends.TalkEnd.TheVariants.{Bad}
use Rattle.hb_talk.specs.declared.ends.Turned.TheVariants.{More, Ended}

-- a head has bytes
some-head : (h : RequestHead) (bytes rest : List ℕ) → IsHead bytes h rest → length rest < length bytes
some-head h bytes rest is = go (print_request h) refl
  where
    go : (p : List ℕ) → print_request h ≡ p → length rest < length bytes
    go [] none = absurd (no_head_in_nothing h [] (record { reads = (is.reads.0, sym (append-nil (print_request h) ∙ none)); few = is.few; short = is.short }))
    go (x ∷ p) some = let size : length bytes ≡ length (x ∷ p) + length rest = ap (λ b. length b) (is.reads.1 ∙ ap (λ p. p ++ rest) some) ∙ length-append (x ∷ p) rest in omega (arith, size)

in-body : (length : Option ℕ) → is_between (body_place length) ≡ 1
in-body None = refl
in-body (Some n) = refl

pub less-head : (talk : TalkParts) (told : Head) (s' : Standing) (held held' : Option (List ℕ)) (new : TalkParts) → Gives talk.standing (Ok (HeadPart told)) s' → Begins (record { standing = s'; coming = talk.coming; taken = talk.taken }) told held held' new More → work_left new < work_left talk
less-head talk told s' held held' new gives (inl refused) = absurd refused.3
less-head talk told s' held held' new gives (inr begins) =
    let fewer = some-head gives.head talk.standing.waiting s'.waiting gives.is_head in
    let place : is_between s'.place ≡ 1 = ap (λ (s : Standing). is_between s.place) gives.after ∙ in-body told.length in
    let open_ : is_open s'.closed ≡ is_open talk.standing.closed = ap (λ (s : Standing). is_open s.closed) gives.after in
    let is : work_left new ≡ 4 * (2 ^ 62 - talk.taken) + 2 * length s'.waiting + is_between s'.place + is_open s'.closed = ap work_left begins.2.1 in
    omega (arith, fewer, place, open_, is)

-- a piece of a body has bytes
piece-less : (n : ℕ) (bytes : List ℕ) → take n bytes ≢ [] → length (drop n bytes) < length bytes
piece-less zero bytes some = absurd (some refl)
piece-less (suc n) [] some = absurd (some refl)
piece-less (suc n) (x ∷ bytes) some = omega (arith, length-drop n bytes)

-- and leaves the session in the body
body-less : (place : Place) (s s' : Standing) → s.place ≡ place → GivesBody place s s' → (length s'.waiting < length s.waiting) × (is_between s'.place ≡ is_between s.place) × (s'.closed ≡ s.closed)
body-less Between s s' at gives = absurd gives
body-less (Counted left) s s' at gives = (
  subst (λ w. length w < length s.waiting) (sym (ap (λ (s : Standing). s.waiting) gives.after)) (piece-less (min left MAX_PIECE) s.waiting (λ none. gives.some (ap (λ (s : Standing). s.body) gives.after ∙ none))),
  ap (λ (s : Standing). is_between s.place) gives.after ∙ sym (ap is_between at),
  ap (λ (s : Standing). s.closed) gives.after,
)
body-less (Chunked place) s s' at gives =
    let fewer = piece-less (min gives.left MAX_PIECE) gives.rest (λ none. gives.some (ap (λ (s : Standing). s.body) gives.after ∙ none)) in
    let size : length s.waiting ≡ length gives.lines + length gives.rest = ap (λ b. length b) gives.text ∙ length-append gives.lines gives.rest in (
      subst (λ w. length w < length s.waiting) (sym (ap (λ (s : Standing). s.waiting) gives.after)) (omega (arith, fewer, size)),
      ap (λ (s : Standing). is_between s.place) gives.after ∙ sym (ap is_between at),
      ap (λ (s : Standing). s.closed) gives.after,
    )

pub less-body : (talk : TalkParts) (s' : Standing) (held held' : Option (List ℕ)) (new : TalkParts) → Gives talk.standing (Ok Body) s' → Gathers (record { standing = s'; coming = talk.coming; taken = talk.taken }) held held' new More → work_left new < work_left talk
less-body talk s' held held' new gives (inl none) = absurd (let more : More ≡ Ended Bad = none.1 in cc more)
less-body talk s' held held' new gives (inr came) = go came.2
  where
    go : GathersTo (record { standing = s'; coming = talk.coming; taken = talk.taken }) came.0 held held' new More → work_left new < work_left talk
    go (inl refused) = absurd refused.1
    go (inr grows) =
        let left = body-less talk.standing.place talk.standing s' refl gives in
        let open_ : is_open s'.closed ≡ is_open talk.standing.closed = ap is_open left.2 in
        let is : work_left new ≡ 4 * (2 ^ 62 - talk.taken) + 2 * length s'.waiting + is_between s'.place + is_open s'.closed = ap work_left grows.2.1 in
        omega (arith, left.0, left.1, open_, is)

-- what lines of a body leave
through-less : (place : Place) (s : Standing) → s.place ≡ place → 2 * length (read_through place s).waiting + is_between (read_through place s).place ≤ 2 * length s.waiting + is_between s.place
through-less Between s is = omega (arith)
through-less (Counted left) s is = omega (arith)
through-less (Chunked place) s is = let at : is_between s.place ≡ 1 = ap is_between is in omega (arith, at)

through-open : (place : Place) (s : Standing) → s.closed ≡ false → is_open (read_through place s).closed ≡ 1
through-open Between s is = ap is_open is
through-open (Counted left) s is = ap is_open is
through-open (Chunked place) s is = ap is_open is

pub less-input : (talk : TalkParts) (s' : Standing) (new : TalkParts) (left rest : Option (List ℕ)) (ended ended' : Bool) → Gives talk.standing (Ok NeedInput) s' → Reads (record { standing = s'; coming = talk.coming; taken = talk.taken }) new left rest ended ended' More → new.taken ≤ 2 ^ 62 → work_left new < work_left talk
less-input talk s' new left rest ended ended' gives reads few = go reads
  where
    fewer : 2 * length s'.waiting + is_between s'.place ≤ 2 * length talk.standing.waiting + is_between talk.standing.place
    fewer = subst (λ (s : Standing). 2 * length s.waiting + is_between s.place ≤ 2 * length talk.standing.waiting + is_between talk.standing.place) (sym gives.2) (through-less talk.standing.place talk.standing refl)

    was_open : is_open talk.standing.closed ≡ 1
    was_open = ap is_open gives.0

    is_open' : is_open s'.closed ≡ 1
    is_open' = ap (λ (s : Standing). is_open s.closed) gives.2 ∙ through-open talk.standing.place talk.standing gives.0

    go : Reads (record { standing = s'; coming = talk.coming; taken = talk.taken }) new left rest ended ended' More → work_left new < work_left talk
    go (inl closed) =
        let is : work_left new ≡ 4 * (2 ^ 62 - talk.taken) + 2 * length s'.waiting + is_between s'.place + 0 = ap work_left closed.2 in
        omega (arith, fewer, was_open, is)
    go (inr came) =
        let is : work_left new ≡ 4 * (2 ^ 62 - (talk.taken + length came.0)) + 2 * length (s'.waiting ++ came.0) + is_between s'.place + is_open s'.closed = ap work_left came.5 in
        let size = length-append s'.waiting came.0 in
        let taken : new.taken ≡ talk.taken + length came.0 = ap (λ (t : TalkParts). t.taken) came.5 in
        omega (arith, fewer, was_open, is_open', is, size, taken, few, came.1)
