-- An event of a caller before which others acted.
use Rattle.std.proofs.Common.{◌≡◌, ◌≢◌, ◌||◌, ◌^◌, ℕ, suc, ◌≤◌, ◌<◌, Bool, true, false, not, cond, List, [], ◌∷◌, ◌++◌, length, Option, Some, None, Result, Ok, Err, IfSome, is_some, is_err, nat_eq, refl, ap, subst, sym, ◌∙◌, inl, inr, arith}
use Rattle.std.proofs.lemmas.Bool.Decides.{nat_tests}
use Rattle.hb_outside.specs.Causes.{Rose}
use Rattle.hb_text.specs.declared.digests.Digest.{Digest}
use Rattle.hb_records.specs.declared.entries.EntryKind.{EntryKind}
use Rattle.hb_records.specs.declared.notes.Sealed.{Sealed}
use Rattle.hb_model.specs.History.{History, latest}
use Rattle.hb_desk.specs.Alone.{alone_view, is_own, AloneKnows}
use Rattle.hb_desk.specs.Noting.{seal_of, with_seal}
use Rattle.hb_desk.specs.Calls.{Call, Asked, StagePlaced, Tells, Outcome, plain}
use Rattle.hb_desk.specs.Clause.{View, EventOf, EventFrom, Between, MineGrows, Known, Fits, FitsAt, AllFit, Causes, Leaves, Seals, moves_seal}
use Rattle.hb_desk.specs.Events.{Event, happens, after, entry_of, acknowledged}
use Rattle.hb_desk.specs.Notes.{sealed_at, without_sealed}
use Rattle.hb_desk.specs.Reply.{reply}
use Rattle.hb_desk.specs.State.{State}
use Rattle.hb_desk.specs.declared.asks.Ask.{Ask}
use Rattle.hb_desk.specs.declared.asks.Ask.TheVariants.{ShowProject, TouchBlob, BeginUpload, EndUpload, Seal, SealManifest, Settle, PutArtifact, Look, NotePull}
use Rattle.hb_desk.specs.declared.told.Told.{Told}
use Rattle.hb_desk.specs.declared.refusals.Refusal.{Refusal}
use Rattle.hb_desk.specs.declared.refusals.Refusal.TheVariants.{Memory}
use Rattle.hb_desk.proofs.LegalReplies.{is_ask, no-entry}

-- ---- events of others, and then more
pub after-more : (xs ys : List Event) (s : State) → after (xs ++ ys) s ≡ after xs (after ys s)
after-more [] ys s = refl
after-more (x ∷ xs) ys s = ap (happens x) (after-more xs ys s)

fits-more : (xs ys : List Event) (s : State) → AllFit xs (after ys s) → AllFit ys s → AllFit (xs ++ ys) s
fits-more [] ys s one two = two
fits-more (x ∷ xs) ys s one two = (subst (FitsAt x) (sym (after-more xs ys s)) one.0, fits-more xs ys s one.1 two)

-- ---- own numbers
-- a slot was taken, and filled where the last own number of the desk below moved
pub record Stored (own own' : List ℕ) (last last' : ℕ) (mid new : View) : Type 0 where
  pub same : new.last ≡ mid.last → (own' ≡ 0 ∷ own) × (last' ≡ last)
  pub other : new.last ≢ mid.last → (own' ≡ new.last ∷ own) × (last' ≡ new.last)

or-kept : (a b : Bool) → b ≡ true → (a || b) ≡ true
or-kept true b h = refl
or-kept false b h = h

-- the views of a caller before and after an event
abbrev Mine : View → List ℕ → List ℕ → ℕ → ℕ → List Sealed → List Sealed → View → ℕ → Bool → Type 0
Mine old own own' last last' sealed sealed' new n b = MineGrows (alone_view old own last sealed) (alone_view new own' last' sealed') n b

mine-stored : (own own' : List ℕ) (old mid new : View) (last last' : ℕ) (sealed sealed' : List Sealed) (n : ℕ) (b : Bool) → Stored own own' last last' mid new → mid.last ≤ n → MineGrows mid new n b → Mine old own own' last last' sealed sealed' new n b
mine-stored own own' old mid new last last' sealed sealed' n true stored low grows =
    let is : new.last ≡ suc n = (grows.own refl).1 in
    let moved = stored.other (λ e. absurd (omega (arith, e, is, low))) in
    record {
      kept = λ k h. subst (λ l. is_own l k ≡ true) (sym moved.0) (or-kept (nat_eq k new.last) (is_own own k) h);
      own = λ _. (subst (λ l. is_own l (suc n) ≡ true) (sym moved.0) (first (suc n) is), moved.1 ∙ is);
      only = λ k above le h. only k le is (subst (λ l. is_own l k ≡ true) moved.0 h);
      none = λ h. cc h;
    }
  where
    first : (k : ℕ) → new.last ≡ k → (nat_eq k new.last || is_own own k) ≡ true
    first k is = let tied : nat_eq k new.last ≡ true = grind (arith, nat_tests) in ap (λ b. b || is_own own k) tied

    only : (k : ℕ) → k ≤ n → new.last ≡ suc n → (nat_eq k new.last || is_own own k) ≡ true → is_own own k ≡ true
    only k le is h = let apart : nat_eq k new.last ≡ false = grind (arith, nat_tests) in sym (ap (λ b. b || is_own own k) apart) ∙ h
mine-stored own own' old mid new last last' sealed sealed' n false stored low grows =
    let still = stored.same (grows.none refl) in
    record {
      kept = λ k h. subst (λ l. is_own l k ≡ true) (sym still.0) (or-kept (nat_eq k 0) (is_own own k) h);
      own = λ h. cc h;
      only = λ k above le h. only k above (subst (λ l. is_own l k ≡ true) still.0 h);
      none = λ _. still.1;
    }
  where
    only : (k : ℕ) → 0 < k → (nat_eq k 0 || is_own own k) ≡ true → is_own own k ≡ true
    only k above h = let apart : nat_eq k 0 ≡ false = grind (arith, nat_tests) in sym (ap (λ b. b || is_own own k) apart) ∙ h

-- an event without an entry
mine-none : (own : List ℕ) (old new : View) (last : ℕ) (sealed sealed' : List Sealed) (n : ℕ) → Mine old own own last last sealed sealed' new n false
mine-none own old new last sealed sealed' n = record { kept = λ k h. h; own = λ h. cc h; only = λ k above le h. h; none = λ _. refl }

-- ---- the event
-- the event as it stands in the clause
abbrev ev_of : View → Call → Outcome → Event
ev_of new call outcome = record { call = call; moment = new.moment; outcome = outcome }

abbrev commits_at : View → Call → Outcome → State → Bool
commits_at new call outcome x = is_some (entry_of (ev_of new call outcome) x)

module _ (own own' : List ℕ) (old mid new : View) (last last' : ℕ) (sealed sealed' : List Sealed) (call : Call) (outcome : Outcome) where
  MineTo : Type 0
  MineTo = (x : State) → mid.entries ≤ length x.audit → MineGrows mid new (length x.audit) (commits_at new call outcome x) → Mine old own own' last last' sealed sealed' new (length x.audit) (commits_at new call outcome x)

  event-after : (s : State) (es : List Event) → AllFit es s → old.entries ≤ mid.entries → MineTo → EventFrom (after es s) mid new call outcome → EventFrom s (alone_view old own last sealed) (alone_view new own' last' sealed') call outcome
  unfolding MineTo
  event-after s es fits grows mine e =
      let J = after-more e.others es s in
      record {
        others = e.others ++ es;
        fits = fits-more e.others es s e.fits fits;
        alone = λ h. cc h;
        history = subst (λ x. History x.audit) (sym J) e.history;
        later = subst (λ x. latest x.audit ≤ new.moment) (sym J) e.later;
        answered = subst (Fits new.spent (ev_of new call outcome)) (sym J) e.answered;
        mine = subst (λ (x : State). Mine old own own' last last' sealed sealed' new (length x.audit) (commits_at new call outcome x)) (sym J) (mine (after e.others (after es s)) e.count e.mine);
        count = subst (λ (x : State). old.entries ≤ length x.audit) (sym J) (omega (arith, grows, e.count));
        leaves = subst (Leaves new (ev_of new call outcome)) (sym J) e.leaves;
      }

  -- others acted, and then the caller
  alone-event : Between sealed old mid → MineTo → EventOf mid new call outcome → EventOf (alone_view old own last sealed) (alone_view new own' last' sealed') call outcome
  alone-event between mine event = go old.state between.events
    where
      go : (o : Option State) → IfSome o (λ s. (es : List Event) × AllFit es s × (mid.state ≡ Some (after es s))) → IfSome o (λ s. EventFrom s (alone_view old own last sealed) (alone_view new own' last' sealed') call outcome)
      go None h = tt
      go (Some s) h = event-after s h.0 h.1 between.entries mine (subst (λ (o : Option State). IfSome o (λ s. EventFrom s mid new call outcome)) h.2 event)

none-acknowledged : (outcome : Outcome) (made : Option EntryKind) → made ≡ None → is_some (acknowledged outcome made) ≡ false
none-acknowledged (Ok gave) made is = ap (λ (k : Option EntryKind). is_some k) is
none-acknowledged (Err refusal) made is = refl

-- a call that is no ask makes no entry
pub alone-quiet : (own : List ℕ) (old mid new : View) (last : ℕ) (sealed sealed' : List Sealed) (call : Call) (outcome : Outcome) → is_ask call ≡ false → Between sealed old mid → EventOf mid new call outcome → EventOf (alone_view old own last sealed) (alone_view new own last sealed') call outcome
unfolding MineTo
alone-quiet own old mid new last sealed sealed' call outcome other between event =
    alone-event own own old mid new last last sealed sealed' call outcome between
    (λ x le grows. subst (Mine old own own last last sealed sealed' new (length x.audit)) (sym (none-acknowledged outcome (reply call x new.moment).entry (no-entry call other x new.moment))) (mine-none own old new last sealed sealed' (length x.audit)))
    event

-- an ask, with the slot that was taken before it
pub alone-ask : (own own' : List ℕ) (old mid new : View) (last last' : ℕ) (sealed sealed' : List Sealed) (ask : Ask) (outcome : Outcome) → Stored own own' last last' mid new → mid.last ≤ mid.entries → Between sealed old mid → EventOf mid new (Asked ask) outcome → EventOf (alone_view old own last sealed) (alone_view new own' last' sealed') (Asked ask) outcome
unfolding MineTo
alone-ask own own' old mid new last last' sealed sealed' ask outcome stored low between event =
    alone-event own own' old mid new last last' sealed sealed' (Asked ask) outcome between
    (λ x le grows. mine-stored own own' old mid new last last' sealed sealed' (length x.audit) (commits_at new (Asked ask) outcome x) stored (omega (arith, low, le)) grows) event

-- an event that stayed out for want of memory, after others acted
pub alone-memory : (own : List ℕ) (old mid : View) (last : ℕ) (sealed : List Sealed) (ask : Ask) → Between sealed old mid → IfSome mid.state (λ s. Known mid s) → EventOf (alone_view old own last sealed) (alone_view mid own last sealed) (Asked ask) (Err Memory)
alone-memory own old mid last sealed ask between known = go old.state between.events
  where
    unmade : (s : State) (es : List Event) → AllFit es s → mid.state ≡ Some (after es s) → Known mid (after es s) → EventFrom s (alone_view old own last sealed) (alone_view mid own last sealed) (Asked ask) (Err Memory)
    unmade s es fits is h = record {
      others = es;
      fits = fits;
      alone = λ e. cc e;
      history = h.history;
      later = h.later;
      answered = λ whole. cc whole;
      mine = mine-none own old mid last sealed sealed (length (after es s).audit);
      count = omega (arith, between.entries, h.count);
      leaves = inr (refl, is);
    }

    go : (o : Option State) → IfSome o (λ s. (es : List Event) × AllFit es s × (mid.state ≡ Some (after es s))) → IfSome o (λ s. EventFrom s (alone_view old own last sealed) (alone_view mid own last sealed) (Asked ask) (Err Memory))
    go None h = tt
    go (Some s) h = unmade s h.0 h.1 h.2 (subst (λ (o : Option State). IfSome o (λ x. Known mid x)) h.2 known)

-- ---- what the caller sealed
sealed-other : (u upload : ℕ) (sealed : List Sealed) → nat_eq u upload ≡ false → sealed_at u (without_sealed upload sealed) ≡ sealed_at u sealed
sealed-other u upload [] apart = refl
sealed-other u upload (x ∷ sealed) apart = go (nat_eq upload x.upload) refl (sealed-other u upload sealed apart)
  where
    go : (b : Bool) → nat_eq upload x.upload ≡ b → sealed_at u (without_sealed upload sealed) ≡ sealed_at u sealed → sealed_at u (cond (not b) (x ∷ without_sealed upload sealed) (without_sealed upload sealed)) ≡ cond (nat_eq u x.upload) (Some x) (sealed_at u sealed)
    go true is rest = let skip : nat_eq u x.upload ≡ false = grind (arith, nat_tests) in rest ∙ ap (λ b. cond b (Some x) (sealed_at u sealed)) (sym skip)
    go false is rest = ap (λ o. cond (nat_eq u x.upload) (Some x) o) rest

sealed-gone : (u upload : ℕ) (sealed : List Sealed) → nat_eq u upload ≡ true → sealed_at u (without_sealed upload sealed) ≡ None
sealed-gone u upload [] tied = refl
sealed-gone u upload (x ∷ sealed) tied = go (nat_eq upload x.upload) refl (sealed-gone u upload sealed tied)
  where
    go : (b : Bool) → nat_eq upload x.upload ≡ b → sealed_at u (without_sealed upload sealed) ≡ None → sealed_at u (cond (not b) (x ∷ without_sealed upload sealed) (without_sealed upload sealed)) ≡ None
    go true is rest = rest
    go false is rest = let skip : nat_eq u x.upload ≡ false = grind (arith, nat_tests) in ap (λ b. cond b (Some x) (sealed_at u (without_sealed upload sealed))) skip ∙ rest

-- what the caller sealed of other uploads, it had sealed before
still-sealed : (u upload : ℕ) (x : Sealed) (sealed : List Sealed) → sealed_at u (without_sealed upload sealed) ≡ Some x → (nat_eq u upload ≡ false) × (sealed_at u sealed ≡ Some x)
still-sealed u upload x sealed h = go (nat_eq u upload) refl
  where
    go : (b : Bool) → nat_eq u upload ≡ b → (nat_eq u upload ≡ false) × (sealed_at u sealed ≡ Some x)
    go true is = let none : None ≡ Some x = sym (sealed-gone u upload sealed is) ∙ h in cc none
    go false is = (is, sym (sealed-other u upload sealed is) ∙ h)

-- after a placing, whatever was answered
pub knows-placed : (old mid new : View) (now last upload : ℕ) (d : Digest) (sealed : List Sealed) (outcome : Outcome) → AloneKnows old last sealed → Between sealed old mid → Causes mid new now (StagePlaced upload d) outcome → AloneKnows new last (without_sealed upload sealed)
knows-placed old mid new now last upload d sealed outcome knows between causes = record {
  low = omega (arith, knows.low, between.entries, causes.entries);
  own = λ u x h. let still = still-sealed u upload x sealed h in causes.sealed u x still.0 (between.sealed u x still.1 (knows.own u x still.1));
}

-- the causes of a caller that isn't alone, where it keeps what it sealed of the uploads that the call lets be
pub causes-after : (own own' : List ℕ) (old mid new : View) (now last last' : ℕ) (sealed sealed' : List Sealed) (call : Call) (outcome : Outcome) → ((u : ℕ) (x : Sealed) → moves_seal u call outcome ≡ false → sealed_at u sealed ≡ Some x → sealed_at u sealed' ≡ Some x) → Between sealed old mid → Causes mid new now call outcome → Causes (alone_view old own last sealed) (alone_view new own' last' sealed') now call outcome
causes-after own own' old mid new now last last' sealed sealed' call outcome keeps between causes = record {
  keeper_later = omega (arith, between.keeper_later, causes.keeper_later);
  store_later = omega (arith, between.store_later, causes.store_later);
  keeper = λ e. rose old.keeper_faults mid.keeper_faults new.keeper_faults between.keeper_later (causes.keeper e);
  storage = λ e. rose old.store_faults mid.store_faults new.store_faults between.store_later (causes.storage e);
  spent = causes.spent;
  seat = λ h. causes.seat (between.spent ∙ h);
  entries = omega (arith, between.entries, causes.entries);
  room = causes.room;
  rises = omega (arith, between.moment, causes.rises);
  sealed = keeps;
  moment = causes.moment;
  clock = λ alone. cc alone;
  told = refl;
  sole = refl;
  told_bytes = causes.told_bytes ∙ between.told_bytes;
}
  where
    rose : (a b c : ℕ) → a ≤ b → Rose b c → Rose a c
    rose a b c later h = omega (arith, later, h)

pub keeps-placed : (u upload : ℕ) (x : Sealed) (sealed : List Sealed) → nat_eq u upload ≡ false → sealed_at u sealed ≡ Some x → sealed_at u (without_sealed upload sealed) ≡ Some x
keeps-placed u upload x sealed apart h = sealed-other u upload sealed apart ∙ h

-- ---- after an ask
-- what was sealed, with the seal of an ask that is Ok
abbrev pub sealed_after : {T : Type 0} → Ask → Result T Refusal → List Sealed → List Sealed
sealed_after ask (Ok x) sealed = with_seal (seal_of ask) sealed
sealed_after ask (Err refusal) sealed = sealed

first-sealed : (u upload : ℕ) (x y : Sealed) (sealed : List Sealed) → y.upload ≡ upload → nat_eq u upload ≡ false → sealed_at u sealed ≡ Some x → sealed_at u (y ∷ sealed) ≡ Some x
first-sealed u upload x y sealed is apart h = let skip : nat_eq u y.upload ≡ false = grind (arith, nat_tests) in ap (λ b. cond b (Some y) (sealed_at u sealed)) skip ∙ h

pub keeps-asked : (ask : Ask) (result : Result Told Refusal) (u : ℕ) (x : Sealed) (sealed : List Sealed) → moves_seal u (Asked ask) (plain Tells result) ≡ false → sealed_at u sealed ≡ Some x → sealed_at u (sealed_after ask result sealed) ≡ Some x
keeps-asked (Seal upload d size) (Ok told) u x sealed apart h = first-sealed u upload x (record { upload = upload; digest = d; size = size }) sealed refl apart h
keeps-asked (SealManifest upload put) (Ok told) u x sealed apart h = first-sealed u upload x (record { upload = upload; digest = put.digest; size = put.size }) sealed refl apart h
keeps-asked (ShowProject name) (Ok told) u x sealed apart h = h
keeps-asked (BeginUpload name) (Ok told) u x sealed apart h = h
keeps-asked (EndUpload job upload) (Ok told) u x sealed apart h = h
keeps-asked (Settle name upload d) (Ok told) u x sealed apart h = h
keeps-asked (PutArtifact upload put) (Ok told) u x sealed apart h = h
keeps-asked (TouchBlob name d) (Ok told) u x sealed apart h = h
keeps-asked (Look name ref) (Ok told) u x sealed apart h = h
keeps-asked (NotePull name d) (Ok told) u x sealed apart h = h
keeps-asked ask (Err refusal) u x sealed apart h = h

itself : (n : ℕ) → nat_eq n n ≡ true
itself n = grind (arith, nat_tests)

first-is : (y : Sealed) (sealed : List Sealed) → sealed_at y.upload (y ∷ sealed) ≡ Some y
first-is y sealed = ap (λ b. cond b (Some y) (sealed_at y.upload sealed)) (itself y.upload)

pub seals-asked : (ask : Ask) (result : Result Told Refusal) (sealed : List Sealed) → Seals ask result (sealed_after ask result sealed)
seals-asked (Seal upload d size) (Ok told) sealed = first-is (record { upload = upload; digest = d; size = size }) sealed
seals-asked (SealManifest upload put) (Ok told) sealed = first-is (record { upload = upload; digest = put.digest; size = put.size }) sealed
seals-asked (ShowProject name) (Ok told) sealed = tt
seals-asked (BeginUpload name) (Ok told) sealed = tt
seals-asked (EndUpload job upload) (Ok told) sealed = tt
seals-asked (Settle name upload d) (Ok told) sealed = tt
seals-asked (PutArtifact upload put) (Ok told) sealed = tt
seals-asked (TouchBlob name d) (Ok told) sealed = tt
seals-asked (Look name ref) (Ok told) sealed = tt
seals-asked (NotePull name d) (Ok told) sealed = tt
seals-asked (ShowProject name) (Err refusal) sealed = tt
seals-asked (BeginUpload name) (Err refusal) sealed = tt
seals-asked (EndUpload job upload) (Err refusal) sealed = tt
seals-asked (Seal upload d size) (Err refusal) sealed = tt
seals-asked (SealManifest upload put) (Err refusal) sealed = tt
seals-asked (Settle name upload d) (Err refusal) sealed = tt
seals-asked (PutArtifact upload put) (Err refusal) sealed = tt
seals-asked (TouchBlob name d) (Err refusal) sealed = tt
seals-asked (Look name ref) (Err refusal) sealed = tt
seals-asked (NotePull name d) (Err refusal) sealed = tt

-- the desk has sealed what the caller sealed before, and what it seals now
own-sealed : (u : ℕ) (x y : Sealed) (sealed desk_sealed : List Sealed) → (nat_eq u y.upload ≡ false → sealed_at u sealed ≡ Some x → sealed_at u desk_sealed ≡ Some x) → sealed_at y.upload desk_sealed ≡ Some y → sealed_at u (y ∷ sealed) ≡ Some x → sealed_at u desk_sealed ≡ Some x
own-sealed u x y sealed desk_sealed others new h = go (nat_eq u y.upload) refl
  where
    go : (b : Bool) → nat_eq u y.upload ≡ b → sealed_at u desk_sealed ≡ Some x
    go true is =
        let same : u ≡ y.upload = grind (arith, nat_tests) in
        let first : Some y ≡ Some x = ap (λ b. cond b (Some y) (sealed_at u sealed)) (sym is) ∙ h in
        ap (λ n. sealed_at n desk_sealed) same ∙ new ∙ first
    go false is = others is (ap (λ b. cond b (Some y) (sealed_at u sealed)) (sym is) ∙ h)

still-err : (u : ℕ) (ask : Ask) (refusal : Refusal) → moves_seal u (Asked ask) (Err refusal) ≡ false
still-err u (ShowProject name) refusal = refl
still-err u (BeginUpload name) refusal = refl
still-err u (EndUpload job upload) refusal = refl
still-err u (Seal upload d size) refusal = refl
still-err u (SealManifest upload put) refusal = refl
still-err u (Settle name upload d) refusal = refl
still-err u (PutArtifact upload put) refusal = refl
still-err u (TouchBlob name d) refusal = refl
still-err u (Look name ref) refusal = refl
still-err u (NotePull name d) refusal = refl

own-asked : (ask : Ask) (result : Result Told Refusal) (sealed desk_sealed : List Sealed) → ((u : ℕ) (x : Sealed) → moves_seal u (Asked ask) (plain Tells result) ≡ false → sealed_at u sealed ≡ Some x → sealed_at u desk_sealed ≡ Some x) → Seals ask result desk_sealed → (u : ℕ) (x : Sealed) → sealed_at u (sealed_after ask result sealed) ≡ Some x → sealed_at u desk_sealed ≡ Some x
own-asked (Seal upload d size) (Ok told) sealed desk_sealed others seals u x h = own-sealed u x (record { upload = upload; digest = d; size = size }) sealed desk_sealed (others u x) seals h
own-asked (SealManifest upload put) (Ok told) sealed desk_sealed others seals u x h = own-sealed u x (record { upload = upload; digest = put.digest; size = put.size }) sealed desk_sealed (others u x) seals h
own-asked (ShowProject name) (Ok told) sealed desk_sealed others seals u x h = others u x refl h
own-asked (BeginUpload name) (Ok told) sealed desk_sealed others seals u x h = others u x refl h
own-asked (EndUpload job upload) (Ok told) sealed desk_sealed others seals u x h = others u x refl h
own-asked (Settle name upload d) (Ok told) sealed desk_sealed others seals u x h = others u x refl h
own-asked (PutArtifact upload put) (Ok told) sealed desk_sealed others seals u x h = others u x refl h
own-asked (TouchBlob name d) (Ok told) sealed desk_sealed others seals u x h = others u x refl h
own-asked (Look name ref) (Ok told) sealed desk_sealed others seals u x h = others u x refl h
own-asked (NotePull name d) (Ok told) sealed desk_sealed others seals u x h = others u x refl h
own-asked ask (Err refusal) sealed desk_sealed others seals u x h = others u x (still-err u ask refusal) h

pub knows-asked : (old mid new : View) (now last last' : ℕ) (ask : Ask) (result : Result Told Refusal) (sealed : List Sealed) → AloneKnows old last sealed → Between sealed old mid → Causes mid new now (Asked ask) (plain Tells result) → Seals ask result new.sealed → last' ≤ new.entries → AloneKnows new last' (sealed_after ask result sealed)
knows-asked old mid new now last last' ask result sealed knows between causes seals low = record {
  low = low;
  own = own-asked ask result sealed new.sealed (λ u x still h. causes.sealed u x still (between.sealed u x h (knows.own u x h))) seals;
}

-- the seal that was noted before an ask, and taken back where it was refused
pub sealed-kept : (ask : Ask) (result : Result Told Refusal) (seal : Option Sealed) (slot new sealed : List Sealed) (refused : Bool) → seal ≡ seal_of ask → slot ≡ with_seal seal sealed → refused ≡ is_err result → (refused ≡ false → new ≡ slot) → (refused ≡ true → (older : List Sealed) → slot ≡ with_seal seal older → new ≡ older) → new ≡ sealed_after ask result sealed
sealed-kept ask (Ok told) seal slot new sealed refused is slot_is refused_is kept undone = kept refused_is ∙ slot_is ∙ ap (λ x. with_seal x sealed) is
sealed-kept ask (Err refusal) seal slot new sealed refused is slot_is refused_is kept undone = undone refused_is sealed slot_is

-- ---- what others do
pub none-between : (own : List Sealed) (v : View) → v.entries ≤ 2 ^ 62 → Between own v v
none-between own v room = record {
  events = go v.state refl;
  keeper_later = omega (arith);
  store_later = omega (arith);
  entries = omega (arith);
  room = room;
  moment = omega (arith);
  sole = refl;
  told_bytes = refl;
  spent = refl;
  sealed = λ u x mine h. h;
}
  where
    go : (state : Option State) → v.state ≡ state → IfSome state (λ s. (es : List Event) × AllFit es s × (v.state ≡ Some (after es s)))
    go None is = tt
    go (Some s) is = ([], tt, is)

-- one event of theirs that moves no seal of the caller's
pub one-between : (own : List Sealed) (old new : View) (now : ℕ) (call : Call) (outcome : Outcome) → ((u : ℕ) (x : Sealed) → sealed_at u own ≡ Some x → moves_seal u call outcome ≡ false) → old.spent ≡ false → new.spent ≡ false → EventOf old new call outcome → Causes old new now call outcome → Between own old new
one-between own old new now call outcome unmoved before seat event causes = record {
  events = go old.state event;
  keeper_later = causes.keeper_later;
  store_later = causes.store_later;
  entries = causes.entries;
  room = causes.room;
  moment = causes.rises;
  sole = causes.sole;
  told_bytes = causes.told_bytes;
  spent = seat ∙ sym before;
  sealed = λ u x mine h. causes.sealed u x (unmoved u x mine) h;
}
  where
    here : Event
    here = record { call = call; moment = new.moment; outcome = outcome }

    go : (state : Option State) → IfSome state (λ s. EventFrom s old new call outcome) → IfSome state (λ s. (es : List Event) × AllFit es s × (new.state ≡ Some (after es s)))
    go None e = tt
    go (Some s) e = elim e.leaves [
      | inl made ↦ (here ∷ e.others, (record { answered = subst (λ seat. Fits seat here (after e.others s)) seat e.answered; later = e.later }, e.fits), made)
      | inr unmade ↦ (e.others, e.fits, unmade.1)
    ]

-- and more of them
pub between-more : (own : List Sealed) (old mid new : View) → Between own old mid → Between own mid new → Between own old new
between-more own old mid new one two = record {
  events = go old.state one.events;
  keeper_later = omega (arith, one.keeper_later, two.keeper_later);
  store_later = omega (arith, one.store_later, two.store_later);
  entries = omega (arith, one.entries, two.entries);
  room = two.room;
  moment = omega (arith, one.moment, two.moment);
  sole = two.sole ∙ one.sole;
  told_bytes = two.told_bytes ∙ one.told_bytes;
  spent = two.spent ∙ one.spent;
  sealed = λ u x mine h. two.sealed u x mine (one.sealed u x mine h);
}
  where
    go : (state : Option State) → IfSome state (λ s. (es : List Event) × AllFit es s × (mid.state ≡ Some (after es s))) → IfSome state (λ s. (es : List Event) × AllFit es s × (new.state ≡ Some (after es s)))
    go None h = tt
    go (Some s) h =
        let later = subst (λ (o : Option State). IfSome o (λ x. (es : List Event) × AllFit es x × (new.state ≡ Some (after es x)))) h.2 two.events in
        (later.0 ++ h.0, fits-more later.0 h.0 s later.1 h.1, later.2 ∙ ap (λ x. Some x) (sym (after-more later.0 h.0 s)))
