-- Chains of points: joined, and what stands behind them at the end.
use Rattle.std.proofs.Common.{◌≡◌, ◌≤◌, ◌+◌, ◌^◌, ℕ, suc, Bool, true, false, List, [], ◌∷◌, ◌++◌, length, Option, Some, None, Ok, Err, IfSome, IsSomeAnd, is_some, refl, sym, ap, subst, ◌∙◌, inl, inr, arith}
use Rattle.std.specs.List.{AllByRecursion}
use Rattle.hb_records.specs.Entries.{AuditEntry}
use Rattle.hb_records.specs.declared.entries.EntryKind.{EntryKind}
use Rattle.hb_desk.specs.Calls.{Call, Outcome}
use Rattle.hb_desk.specs.Reply.{reply}
use Rattle.hb_outside.specs.Clocks.{behind}
use Rattle.hb_desk.specs.Chains.{AreTimely, Chain, IsSpentByReply, Stands, StandsBehind}
use Rattle.hb_desk.specs.Clause.{Leaves, MineGrows, View, is_fault, may_be_unmade}
use Rattle.hb_desk.specs.Events.{Event, acknowledged, after, entry_of, happens}
use Rattle.hb_desk.specs.Points.{IsBetween, IsFrom, IsTimely, Moves, Point, StoodAt}
use Rattle.hb_desk.specs.Prefix.{GoesOn}
use Rattle.hb_desk.specs.State.{State}
use Rattle.hb_desk.specs.ClockedDesks.{ClockedDesk}
use Rattle.hb_desk.specs.declared.refusals.Refusal.TheVariants.{Spent}
use Rattle.hb_desk.proofs.Histories.{entered-goes, events-go-on, goes-on}

same-state : (s s' : State) → Some s ≡ Some s' → s ≡ s'
same-state s s' e = cc e

-- ---- behind one event
-- an event that may not have been made has no entry
unmade-none : {A : Type 0} (seat : Bool) (call : Call) (outcome : Outcome) (made : Option EntryKind) (kind : EntryKind) → may_be_unmade seat call outcome ≡ true → acknowledged outcome made ≡ Some kind → A
unmade-none seat call (Ok gave) made kind unmade is = absurd (cc unmade)
unmade-none seat call (Err refusal) made kind unmade is = absurd (cc is)

event-goes : (ev : Event) (at s : State) (new : View) → Leaves new ev at → new.state ≡ Some s → GoesOn at.audit s.audit
event-goes ev at s new (inl made) here = subst (λ x. GoesOn at.audit x.audit) (same-state _ s (sym made ∙ here)) (entered-goes ev.moment (entry_of ev at) at.audit)
event-goes ev at s new (inr unmade) here = subst (λ x. GoesOn at.audit x.audit) (same-state _ s (sym unmade.1 ∙ here)) ([], refl)

own-entry : (ev : Event) (at s : State) (old new : View) (made : Option EntryKind) → entry_of ev at ≡ made → MineGrows old new (length at.audit) (is_some made) → Leaves new ev at → new.state ≡ Some s → IfSome made (λ kind. GoesOn (happens ev at).audit s.audit × (new.mine (suc (length at.audit)) ≡ true))
own-entry ev at s old new None is mine leaves here = tt
own-entry ev at s old new (Some kind) is mine (inl made) here = (subst (λ x. GoesOn (happens ev at).audit x.audit) (same-state _ s (sym made ∙ here)) ([], refl), (mine.own refl).0)
own-entry ev at s old new (Some kind) is mine (inr unmade) here = unmade-none new.spent ev.call ev.outcome _ kind unmade.0 is

event-stands : (ev : Event) (at s : State) (old new : View) → MineGrows old new (length at.audit) (is_some (entry_of ev at)) → Leaves new ev at → new.state ≡ Some s → Stands s.audit (λ n. new.mine n ≡ true) ev at
event-stands ev at s old new mine leaves here = record { seen = event-goes ev at s new leaves here; own = own-entry ev at s old new (entry_of ev at) refl mine leaves here }

-- ---- and it stays
later-stands : (audit audit' : List AuditEntry) (mine mine' : ℕ → Bool) (ev : Event) (at : State) → GoesOn audit audit' → ((k : ℕ) → mine k ≡ true → mine' k ≡ true) → Stands audit (λ n. mine n ≡ true) ev at → Stands audit' (λ n. mine' n ≡ true) ev at
later-stands audit audit' mine mine' ev at goes kept stands = record { seen = goes-on _ _ _ stands.seen goes; own = go (entry_of ev at) stands.own }
  where
    go : (made : Option EntryKind) → IfSome made (λ kind. GoesOn (happens ev at).audit audit × (mine (suc (length at.audit)) ≡ true)) → IfSome made (λ kind. GoesOn (happens ev at).audit audit' × (mine' (suc (length at.audit)) ≡ true))
    go None h = tt
    go (Some kind) h = (goes-on _ _ _ h.0 goes, kept _ h.1)

all-stand : (audit audit' : List AuditEntry) (mine mine' : ℕ → Bool) (points : List Point) → GoesOn audit audit' → ((k : ℕ) → mine k ≡ true → mine' k ≡ true) → AllByRecursion (StandsBehind audit (λ n. mine n ≡ true)) points → AllByRecursion (StandsBehind audit' (λ n. mine' n ≡ true)) points
all-stand audit audit' mine mine' [] goes kept h = tt
all-stand audit audit' mine mine' (p ∷ points) goes kept h = (go p.state h.0, all-stand audit audit' mine mine' points goes kept h.1)
  where
    go : (state : Option State) → IsSomeAnd state (Stands audit (λ n. mine n ≡ true) p.event) → IsSomeAnd state (Stands audit' (λ n. mine' n ≡ true) p.event)
    go None h = absurd h
    go (Some at) h = later-stands audit audit' mine mine' p.event at goes kept h

-- a desk that told its state tells it behind its events
told-behind : (start now : ClockedDesk) (points : List Point) (s : State) → start.view.state ≡ Some s → Chain start points now → (t : State) × (now.view.state ≡ Some t)
told-behind start now [] s told chain = (s, ap (λ (v : ClockedDesk). v.view.state) (sym chain) ∙ told)
told-behind start now (p ∷ points) s told chain =
    let mid = told-behind start chain.0 points s told chain.1 in
    let stood = subst (λ state. StoodAt state chain.0.view now.view p.event.call p.event.outcome p.state) mid.1 chain.2.between.stood in
    elim stood.0.leaves [
      | inl made ↦ (_, made)
      | inr unmade ↦ (_, unmade.1)
    ]

pub chain-stands : (start now : ClockedDesk) (points : List Point) (s s' : State) → Chain start points now → start.view.state ≡ Some s → now.view.state ≡ Some s' → GoesOn s.audit s'.audit × AllByRecursion (StandsBehind s'.audit (λ n. now.view.mine n ≡ true)) points
chain-stands start now [] s s' chain first last = (subst (λ x. GoesOn s.audit x.audit) (same-state s s' (sym first ∙ ap (λ (v : ClockedDesk). v.view.state) chain ∙ last)) ([], refl), tt)
chain-stands start now (p ∷ points) s s' chain first last =
    let mid = chain.0 in
    let told = told-behind start mid points s first chain.1 in
    let stood = subst (λ state. StoodAt state mid.view now.view p.event.call p.event.outcome p.state) told.1 chain.2.between.stood in
    let event = stood.0 in
    let at = after event.others told.0 in
    let behind = chain-stands start mid points s told.0 chain.1 first told.1 in
    let ev : Event = record { call = p.event.call; moment = now.view.moment; outcome = p.event.outcome } in
    let newest = subst (λ ev. Stands s'.audit (λ n. now.view.mine n ≡ true) ev at) (sym (ap (λ (q : Point). q.event) chain.2.between.is)) (event-stands ev at s' mid.view now.view event.mine event.leaves last) in
    let goes = goes-on told.0.audit at.audit s'.audit (events-go-on event.others told.0) (event-goes ev at s' now.view event.leaves last) in (
      goes-on s.audit told.0.audit s'.audit behind.0 goes,
      (
        subst (λ state. IsSomeAnd state (Stands s'.audit (λ n. now.view.mine n ≡ true) p.event)) (sym stood.1) newest,
        all-stand told.0.audit s'.audit mid.view.mine now.view.mine points goes event.mine.kept behind.1,
      ),
    )

-- ---- a seat that is left
not-yet : (before after : Bool) → (before ≡ true → after ≡ true) → after ≡ false → before ≡ false
not-yet false after stays left = refl
not-yet true after stays left = let both : true ≡ false = sym (stays refl) ∙ left in cc both

-- where it was told, the reply spent it
replied-spent : (p : Point) (old new : View) → IsBetween p old new → new.spent ≡ false → p.event.outcome ≡ Err Spent → IfSome p.state (λ s. (reply p.event.call s p.event.moment).outcome ≡ Err Spent)
replied-spent p old new between left spent = go old.state between.stood
  where
    go : (state : Option State) → StoodAt state old new p.event.call p.event.outcome p.state → IfSome p.state (λ s. (reply p.event.call s p.event.moment).outcome ≡ Err Spent)
    go None none = subst (λ at. IfSome at (λ s. (reply p.event.call s p.event.moment).outcome ≡ Err Spent)) (sym none) tt
    go (Some s) stood =
        let replied = sym (stood.0.answered (ap (is_fault new.spent) spent ∙ left)) ∙ spent in
        subst (λ at. IfSome at (λ s. (reply p.event.call s p.event.moment).outcome ≡ Err Spent)) (sym stood.1)
        (subst (λ t. (reply p.event.call (after stood.0.others s) t).outcome ≡ Err Spent) (sym (ap (λ (q : Point). q.event.moment) between.is)) replied)

full-here : (p : Point) (old new : View) → IsBetween p old new → new.spent ≡ false → p.event.outcome ≡ Err Spent → 2 ^ 62 ≤ new.entries
full-here p old new between left spent = elim (between.spent spent) [
  | inl gone ↦ let both : true ≡ false = sym gone ∙ left in cc both
  | inr full ↦ full
]

later-spent : (n m : ℕ) (points : List Point) → n ≤ m → AllByRecursion (IsSpentByReply n) points → AllByRecursion (IsSpentByReply m) points
later-spent n m [] more h = tt
later-spent n m (p ∷ points) more h = (λ spent. (omega (arith, more, (h.0 spent).0), (h.0 spent).1), later-spent n m points more h.1)

pub chain-spent : (start now : ClockedDesk) (points : List Point) → Chain start points now → now.view.spent ≡ false → AllByRecursion (IsSpentByReply now.view.entries) points
chain-spent start now [] chain left = tt
chain-spent start now (p ∷ points) chain left =
    let mid = chain.0 in
    let between = chain.2.between in (
      (λ spent. (full-here p mid.view now.view between left spent, replied-spent p mid.view now.view between left spent)),
      later-spent mid.view.entries now.view.entries points between.moves.entries (chain-spent start mid points chain.1 (not-yet mid.view.spent now.view.spent between.moves.seat left)),
    )

-- ---- readings of the clock
-- behind the events as many readings are taken
chain-readings : (start now : ClockedDesk) (points : List Point) (reading : ℕ → ℕ) → Chain start points now → start.readings ≡ Some reading → now.readings ≡ Some (λ k. reading (length points + k))
chain-readings start now [] reading chain told = ap (λ (t : ClockedDesk). t.readings) (sym chain) ∙ told ∙ ap (λ r. Some r) (λ i k. reading (zero-on k i))
  where
    zero-on : (k : ℕ) → k ≡ 0 + k
    zero-on k = omega arith
chain-readings start now (p ∷ points) reading chain told =
    chain.2.goes_on ∙ ap behind (chain-readings start chain.0 points reading chain.1 told) ∙ ap (λ r. Some r) (λ i k. reading (one-on (length points) k i))
  where
    one-on : (n k : ℕ) → n + suc k ≡ suc n + k
    one-on n k = omega arith

chain-timely : (start now : ClockedDesk) (points : List Point) (reading : ℕ → ℕ) → Chain start points now → start.readings ≡ Some reading → AreTimely reading points
chain-timely start now [] reading chain told = tt
chain-timely start now (p ∷ points) reading chain told = (newest, chain-timely start chain.0 points reading chain.1 told)
  where
    none-on : (n : ℕ) → n + 0 ≡ n
    none-on n = omega arith

    newest : IsFrom (reading (length points)) p
    newest = subst (λ n. IsFrom (reading n) p) (none-on (length points)) (subst (λ readings. IfSome readings (λ reading. IsTimely (reading 0) chain.0.view p)) (chain-readings start chain.0 points reading chain.1 told) chain.2.timely).from

pub readings-timely : (start now : ClockedDesk) (points : List Point) → Chain start points now → IfSome start.readings (λ reading. AreTimely reading points)
readings-timely start now points chain = go start.readings refl
  where
    go : (readings : Option (ℕ → ℕ)) → start.readings ≡ readings → IfSome readings (λ reading. AreTimely reading points)
    go None told = tt
    go (Some reading) told = chain-timely start now points reading chain told

-- ---- joined
pub chain-append : (a b c : ClockedDesk) (points more : List Point) → Chain a points b → Chain b more c → Chain a (more ++ points) c
chain-append a b c points [] one two = subst (λ v. Chain a points v) two one
chain-append a b c points (p ∷ more) one two = (two.0, chain-append a b two.0 points more one two.1, two.2)

-- no event changes whether bytes are told
pub chain-bytes : (start now : ClockedDesk) (points : List Point) → Chain start points now → now.view.told_bytes ≡ start.view.told_bytes
chain-bytes start now [] chain = ap (λ (t : ClockedDesk). t.view.told_bytes) (sym chain)
chain-bytes start now (p ∷ points) chain = chain.2.between.moves.told_bytes ∙ chain-bytes start chain.0 points chain.1

-- ---- the numbers of a desk
pub moves-none : (v : View) → Moves v v
moves-none v = record { keeper_later = omega arith; store_later = omega arith; entries = omega arith; rises = omega arith; seat = λ h. h; sole = refl; told_bytes = refl }

pub moves-on : (a b c : View) → Moves a b → Moves b c → Moves a c
moves-on a b c one two = record {
  keeper_later = omega (arith, one.keeper_later, two.keeper_later);
  store_later = omega (arith, one.store_later, two.store_later);
  entries = omega (arith, one.entries, two.entries);
  rises = omega (arith, one.rises, two.rises);
  seat = λ h. two.seat (one.seat h);
  sole = two.sole ∙ one.sole;
  told_bytes = two.told_bytes ∙ one.told_bytes;
}
