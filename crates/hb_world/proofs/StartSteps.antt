-- What a start makes of rows that fit: they are whole with the store, at the moment at which the world starts.
use Rattle.std.proofs.Common.{◌≡◌, ◌≤◌, ◌+◌, ◌^◌, ℕ, suc, Bool, true, false, not, cond, List, [], ◌∷◌, ◌++◌, reverse, length, Option, Some, None, Result, Ok, Err, IfOk, IfSome, IsTrue, nat_lt, inl, inr, refl, sym, ap, subst, ◌∙◌, negsuc, arith}
use Rattle.std.proofs.lemmas.Bool.Decides.{nat_tests}
use Rattle.std.proofs.lemmas.Grind.{reverse_onto}
use Rattle.std.specs.List.{AllByRecursion, position_or_len}
use Rattle.std.specs.Ordering.{nat_cmp}
use Rattle.hb_base.specs.Tables.{with_row}
use Rattle.hb_text.specs.Digests.{digest_of}
use Rattle.hb_records.specs.Entries.{AuditEntry, LAST_MOMENT}
use Rattle.hb_records.specs.Orders.{entry_key}
use Rattle.hb_records.specs.declared.batches.Batch.{Batch}
use Rattle.hb_records.specs.declared.notes.Notes.{Notes}
use Rattle.hb_records.specs.declared.batches.Row.TheVariants as row
use Rattle.hb_rows.specs.Batches.{after_changes, from_oldest, set_row}
use Rattle.hb_rows.specs.Tables.{Tables}
use Rattle.hb_store.specs.Contents.{Contents, bytes_of}
use Rattle.hb_keeper.specs.Keeps.{after_commit}
use Rattle.hb_keeper.specs.declared.keeper.KeepFault.{KeepFault}
use Rattle.hb_model.specs.Built.{is_built}
use Rattle.hb_model.specs.Changes.{changes_of}
use Rattle.hb_model.specs.Effects.{after_entry}
use Rattle.hb_model.specs.Fit.{Tells, unbuilt_at}
use Rattle.hb_model.specs.History.{Legal, Stands, latest}
use Rattle.hb_model.specs.LegalProjects.{library}
use Rattle.hb_model.specs.ProjectEffects.{make_project}
use Rattle.hb_model.specs.Whole.{IsWhole, no_notes}
use Rattle.hb_model.specs.declared.misfits.Misfit.{Misfit}
use Rattle.hb_model.proofs.WholeSteps.{quiet-whole, whole-without_notes}
use Rattle.hb_plan.specs.BuiltAudits.{AllBuilt}
use Rattle.hb_world.specs.Pullable.{IsPullable}
use Rattle.hb_world.specs.Starting.{CanStart, IsAtRest, Started, first_entry, opened_by}
use Rattle.hb_world.specs.Worlds.{IsTrueStore, IsWorld, RowsStand, Shown}
use Rattle.hb_world.proofs.StoreSteps.{found_bytes}
use Rattle.hb_model.proofs.FitLaws.{fit-or-not, fits-apart}
use Rattle.hb_history.proofs.NamedArtifacts.{children-there, tags-there}
use Rattle.hb_history.proofs.WholeSound.{sound-whole}

-- ---- the first entry
-- its batch makes what it does
first-made : (t : Tables) (moment : ℕ) → t.audit ≡ [] → set_row (after_changes t (changes_of t (first_entry moment))) (row.Entry (first_entry moment)) ≡ after_entry t (first_entry moment)
first-made t moment none =
    let e = first_entry moment in
    ap (λ j. record (make_project 1 library (negsuc 0) t) { audit = j }) (subst (λ j. from_oldest (with_row nat_cmp entry_key e) j ≡ e ∷ j) (sym none) refl)

pub first-committed : {T : Type 0} (rows after : Option Tables) (batch : Batch) (moment : ℕ) (result : Result T KeepFault) → batch.entry ≡ first_entry moment → ((t : Tables) → batch.changes ≡ changes_of t (first_entry moment)) → after ≡ after_commit rows batch result → IfSome rows (λ t. t.audit ≡ [] → IfOk result (λ _. after ≡ Some (after_entry t (first_entry moment))))
first-committed None after batch moment result entry changes is = tt
first-committed (Some t) after batch moment (Ok x) entry changes is = λ none. is ∙ ap Some ((λ i. set_row (after_changes t (changes t i)) (row.Entry (entry i))) ∙ first-made t moment none)
first-committed (Some t) after batch moment (Err fault) entry changes is = λ none. tt

first-legal : (moment : ℕ) → Legal [] (first_entry moment)
first-legal moment = record { numbered = refl; later = omega arith; opens = λ none. (refl, refl); kind = record { new = refl } }

-- ---- the invariant
-- a registry that is whole is so at each moment that isn't before its last entry
at-moment : (t : Tables) (c : Contents) (now other : ℕ) → latest t.audit ≤ other → IsWhole t no_notes c now → IsWhole t no_notes c other
at-moment t c now other after h = record {
  stands = h.stands;
  now = after;
  pairs_present = h.pairs_present;
  complete = h.complete;
  present_kept = h.present_kept;
  may_lapse = h.may_lapse;
  one_spell = h.one_spell;
  acknowledged = h.acknowledged;
  placed = h.placed;
  sighted = h.sighted;
  sealed = h.sealed;
  true_digests = h.true_digests;
  counted = h.counted;
  lengths = h.lengths;
}

opened-whole : (t : Tables) (c : Contents) (moment : ℕ) (j : List AuditEntry) → t.audit ≡ j → latest t.audit ≤ moment → IsWhole t no_notes c (latest t.audit) → IsWhole (opened_by j moment t) no_notes c moment
opened-whole t c moment [] none after h =
    quiet-whole t no_notes no_notes c (latest t.audit) (first_entry moment) h (subst (λ j. Legal j (first_entry moment)) (sym none) (first-legal moment)) refl
    (record { sealed = refl; placements = refl; spells = refl; sightings = refl })
opened-whole t c moment (e ∷ j) some after h = at-moment t c (latest t.audit) moment after h

-- ---- kinds
abbrev is_unbuilt : AuditEntry → Bool
is_unbuilt e = not (is_built e.kind)

-- no entry of the list is of a kind that isn't built
abbrev NoneUnbuilt : List AuditEntry → Type 0
NoneUnbuilt = AllByRecursion (λ e. IsTrue (is_built e.kind))

none-unbuilt : (es : List AuditEntry) → nat_lt (position_or_len is_unbuilt es) (length es) ≡ false → NoneUnbuilt es
none-unbuilt [] h = tt
none-unbuilt (e ∷ es) h =
    elim (is_built e.kind) as (λ b. nat_lt (cond (not (not b)) (1 + position_or_len is_unbuilt es) 0) (suc (length es)) ≡ false → IsTrue b × NoneUnbuilt es) [
      | true ↦ λ f. (refl, none-unbuilt es (grind (arith, nat_tests, f)))
      | false ↦ λ f. absurd (let some : nat_lt 0 (suc (length es)) ≡ true = grind (arith, nat_tests) in cc)
    ] h

nowhere : (n length : ℕ) → cond (nat_lt n length) (Some n) None ≡ None → nat_lt n length ≡ false
nowhere n length h = elim (nat_lt n length) as (λ b. cond b (Some n) None ≡ None → b ≡ false) [ true ↦ λ e. cc e | false ↦ λ e. refl ] h

unbuilt-front : (xs ys : List AuditEntry) → NoneUnbuilt (xs ++ ys) → NoneUnbuilt xs
unbuilt-front [] ys h = tt
unbuilt-front (x ∷ xs) ys h = (h.0, unbuilt-front xs ys h.1)

unbuilt-back : (xs ys : List AuditEntry) → NoneUnbuilt (xs ++ ys) → NoneUnbuilt ys
unbuilt-back [] ys h = h
unbuilt-back (x ∷ xs) ys h = unbuilt-back xs ys h.1

newest-first : (j : List AuditEntry) → NoneUnbuilt (reverse j) → AllBuilt j
newest-first [] h = tt
newest-first (e ∷ j) h = let parts = subst NoneUnbuilt (reverse_onto j e []) h in ((unbuilt-back (reverse j) (e ∷ []) parts).0, newest-first j (unbuilt-front (reverse j) (e ∷ []) parts))

all-built : (t : Tables) → unbuilt_at t ≡ None → AllBuilt t.audit
all-built t h = newest-first t.audit (none-unbuilt (reverse t.audit) (nowhere (position_or_len is_unbuilt (reverse t.audit)) (length (reverse t.audit)) h))

-- ---- the world
opened-built : (t : Tables) (moment : ℕ) (j : List AuditEntry) → AllBuilt t.audit → AllBuilt (opened_by j moment t).audit
opened-built t moment [] h = (refl, h)
opened-built t moment (e ∷ j) h = h

opened-stands : (t : Tables) (moment : ℕ) (j : List AuditEntry) → t.audit ≡ j → Stands t → Stands (opened_by j moment t)
opened-stands t moment [] none h = record { history = (subst (λ j. Legal j (first_entry moment)) (sym none) (first-legal moment), h.history); made = ap (λ t. after_entry t (first_entry moment)) h.made }
opened-stands t moment (e ∷ j) some h = h

opened-latest : (t : Tables) (moment : ℕ) (j : List AuditEntry) → latest t.audit ≤ moment → latest (opened_by j moment t).audit ≤ moment
opened-latest t moment [] h = omega arith
opened-latest t moment (e ∷ j) h = h

true-held : (t : Tables) (n : Notes) (c : Contents) (now : ℕ) → IsWhole t n c now → IsTrueStore c
true-held t n c now h d = go (bytes_of c d) refl
  where
    go : (held : Option (List ℕ)) → bytes_of c d ≡ held → IfSome held (λ bytes. digest_of bytes ≡ d)
    go None is = tt
    go (Some bytes) is = found_bytes (λ d bytes. digest_of bytes ≡ d) d c.held bytes h.true_digests is

-- what devices at rest are to a world that starts on them
record AtRest (t : Tables) (contents : Option Contents) : Type 0 where
  stands : Stands t
  bytes : IfSome contents IsTrueStore
  whole : IfSome contents (λ c. IsWhole t no_notes c (latest t.audit))

at-rest : (t : Tables) (contents : Option Contents) → Tells t None → CanStart (Some t) contents → AtRest t contents
at-rest t contents fits (inl misfit) = absurd (fits-apart t misfit.0 fits misfit.1)
at-rest t None fits (inr rest) = record { stands = rest; bytes = tt; whole = tt }
at-rest t (Some c) fits (inr rest) = record { stands = rest.stands; bytes = true-held t no_notes c (latest t.audit) rest; whole = rest }

-- a world as it starts
abbrev begins : Option Tables → Option Contents → ℕ → ℕ → Notes → ℕ → ℕ → Shown
begins rows contents keeper_faults store_faults notes entries moment = record { rows = rows; contents = contents; keeper_faults = keeper_faults; store_faults = store_faults; notes = notes; entries = entries; moment = moment; start = entries; last = 0 }

pub started-world : (rows : Option Tables) (contents : Option Contents) (now : ℕ) (after : Option Tables) (keeper_faults store_faults : ℕ) (notes : Notes) (entries moment : ℕ) → notes ≡ no_notes → CanStart rows contents → Started rows now after moment → IfSome after (λ t. entries ≡ length t.audit) → entries ≤ 2 ^ 62 → moment ≤ LAST_MOMENT → IsWorld (begins after contents keeper_faults store_faults notes entries moment)
started-world rows contents now after keeper_faults store_faults notes entries moment fresh can started count room past =
    subst (λ n. IsWorld (begins after contents keeper_faults store_faults n entries moment)) (sym fresh) (record { rows = stand.0; whole = stand.1; bytes = stand.2; room = room; since = omega arith; low = omega arith; past = past })
  where
    w : Option Tables → Shown
    w rows = begins rows contents keeper_faults store_faults no_notes entries moment

    Holds : Option Tables → Type 0
    Holds rows = IfSome rows (λ r. RowsStand r (w after)) × IfSome rows (λ r. IfSome contents (λ c. IsWhole r no_notes c moment)) × IfSome contents IsTrueStore

    untold : (contents : Option Contents) → CanStart None contents → IfSome contents IsTrueStore
    untold None can = tt
    untold (Some c) (inl misfit) = absurd misfit
    untold (Some c) (inr rest) = rest

    told-whole : (t : Tables) (contents : Option Contents) → latest t.audit ≤ moment → IfSome contents (λ c. IsWhole t no_notes c (latest t.audit)) → IfSome contents (λ c. IsWhole (opened_by t.audit moment t) no_notes c moment)
    told-whole t None from h = tt
    told-whole t (Some c) from h = opened-whole t c moment t.audit refl from h

    go : (rows : Option Tables) → CanStart rows contents → Started rows now after moment → Holds after
    go None can started = subst Holds (sym started) (tt, tt, untold contents can)
    go (Some t) can started =
        let rest = at-rest t contents started.0 can in
        let opened : after ≡ Some (opened_by t.audit moment t) = started.1 ∙ ap (λ m. Some (opened_by t.audit m t)) (sym started.2) in
        let from : latest t.audit ≤ moment = subst (λ m. latest t.audit ≤ m) (sym started.2) (omega arith) in
        subst Holds (sym opened) (
          record {
            stands = opened-stands t moment t.audit refl rest.stands;
            built = opened-built t moment t.audit (all-built t ((fit-or-not t).fits started.0).built);
            here = tt;
            later = opened-latest t moment t.audit from;
            count = subst (λ after. IfSome after (λ t. entries ≡ length t.audit)) opened count;
          },
          told-whole t contents from rest.whole,
          rest.bytes,
        )

    stand : Holds after
    stand = go rows can started

-- the devices of a world that is closed
pub closed-rest : (w : Shown) → IsWorld w → IsAtRest w.rows w.contents
closed-rest w h = go w.rows w.contents h.rows h.whole h.bytes
  where
    go : (rows : Option Tables) (contents : Option Contents) → IfSome rows (λ r. RowsStand r w) → IfSome rows (λ r. IfSome contents (λ c. IsWhole r w.notes c w.moment)) → IfSome contents IsTrueStore → IsAtRest rows contents
    go None None rows whole bytes = tt
    go None (Some c) rows whole bytes = bytes
    go (Some r) None rows whole bytes = rows.stands
    go (Some r) (Some c) rows whole bytes = at-moment r c w.moment (latest r.audit) (omega arith) (whole-without_notes r w.notes c w.moment whole)

-- devices at rest
pub rest-pullable : (rows : Option Tables) (contents : Option Contents) → IsAtRest rows contents → IfSome rows (λ r. IsPullable r contents)
rest-pullable None contents rest = tt
rest-pullable (Some r) None stand = record { children = children-there r.audit stand.history; tags = tags-there r.audit; sound = tt }
rest-pullable (Some r) (Some c) whole = record { children = children-there r.audit whole.stands.history; tags = tags-there r.audit; sound = sound-whole r no_notes c (latest r.audit) whole }

-- ---- refusals
pub told-misfit : (before : Option Tables) (rows : Tables) (m n : Misfit) → Tells rows (Some m) → IfSome before (λ t. rows ≡ t) → m ≡ n → IfSome before (λ t. Tells t (Some n))
told-misfit None rows m n told is same = tt
told-misfit (Some t) rows m n told is same = subst (λ t. Tells t (Some n)) is (subst (λ m. Tells rows (Some m)) same told)
