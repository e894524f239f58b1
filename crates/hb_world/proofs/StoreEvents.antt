-- The events of a world that make no entry: stages that go out and come back, what is placed, and what is opened.
use Rattle.std.proofs.Common.{◌≡◌, ◌≤◌, ◌+◌, ℕ, suc, true, false, not, cond, List, [], ◌∷◌, length, Option, Some, None, Result, Ok, Err, IfErr, IfOk, IfSome, IsSomeAnd, OnOk, is_some, nat_le, option_map, refl, sym, ap, subst, ◌∙◌, inl, arith}
use Rattle.std.specs.List.{AllByRecursion}
use Rattle.hb_text.specs.Digests.{digest_of}
use Rattle.hb_text.specs.declared.digests.Digest.{Digest}
use Rattle.hb_records.specs.Entries.{AuditEntry, LAST_MOMENT}
use Rattle.hb_records.specs.declared.entries.EntryKind.{EntryKind}
use Rattle.hb_records.specs.declared.notes.Notes.{Notes}
use Rattle.hb_records.specs.declared.notes.Placement.{Placement}
use Rattle.hb_records.specs.declared.notes.Sealed.{Sealed}
use Rattle.hb_rows.specs.Tables.{Tables}
use Rattle.hb_store.specs.Contents.{Contents, IsLapsing, bytes_of}
use Rattle.hb_model.specs.Moves.{takes_digest}
use Rattle.hb_model.specs.Registry.{upload_in}
use Rattle.hb_model.specs.Replay.{replay}
use Rattle.hb_model.specs.Sound.{HasLength, OneLength}
use Rattle.hb_model.specs.Whole.{IsKept, IsWhole}
use Rattle.hb_model.specs.Words.{WINDOW, last_kind, some_and}
use Rattle.hb_desk.specs.Calls.{Call, Dropped, Gave, Number, Outcome, StageDropped, StagePlaced, StageTaken, plain}
use Rattle.hb_desk.specs.Clause.{EventFrom, EventOf}
use Rattle.hb_desk.specs.Events.{Event, acknowledged, entered, entry_of, happens}
use Rattle.hb_desk.specs.Keeping.{state_of}
use Rattle.hb_desk.specs.Notes.{is_sealed, sealed_at, without_sealed}
use Rattle.hb_desk.specs.Noting.{gone_by, handed_back, noted, placed_with, placing, taking_out}
use Rattle.hb_desk.specs.Reply.{Reply, reply}
use Rattle.hb_desk.specs.State.{State}
use Rattle.hb_desk.specs.declared.refusals.Refusal.{Refusal}
use Rattle.hb_desk.specs.declared.refusals.Refusal.TheVariants.{Storage}
use Rattle.hb_desk.proofs.AskedWhole.{later-whole}
use Rattle.hb_desk.proofs.LegalReplies.{is_ask, no-entry}
use Rattle.hb_plan.specs.BuiltAudits.{AllBuilt, NoneGone}
use Rattle.hb_plan.proofs.BuiltAudits.{untaken}
use Rattle.hb_plan.proofs.RowAnswers.{rows-answer}
use Rattle.hb_world.specs.StoreStands.{Stands}
use Rattle.hb_world.specs.Storing.{IsStoreFault, RowsReply}
use Rattle.hb_world.specs.Worlds.{IsTrueStore, IsWorld, RowsStand, Shown, view_of}
use Rattle.hb_world.proofs.AskEvents.{mine-grows}
use Rattle.hb_world.proofs.Faults.{no-answer}
use Rattle.hb_world.proofs.StoreSteps.{All-passed}

-- what each such event leaves of a world
pub record Stays (w w' : Shown) : Type 0 where
  pub rows : w'.rows ≡ w.rows
  pub stands : Stands w.contents w'.contents
  pub entries : w'.entries ≡ w.entries
  pub start : w'.start ≡ w.start
  pub last : w'.last ≡ w.last
  pub later : w.moment ≤ w'.moment
  pub past : w'.moment ≤ LAST_MOMENT

-- what such an event makes of a world
pub record StoreDone (w w' : Shown) (call : Call) (outcome : Outcome) : Type 0 where
  pub stays : Stays w w'
  pub noted : (audit : List AuditEntry) → w.entries ≡ length audit → noted call (record { audit = audit; notes = w.notes }) outcome ≡ w'.notes
  pub answers : RowsReply w.rows w.notes call outcome
  pub here : NoneGone w.notes → NoneGone w'.notes
  pub kept : (r : Tables) (c : Contents) → AllBuilt r.audit → w'.contents ≡ Some c → IsWhole r w.notes c w.moment → IsWhole r w'.notes c w'.moment

-- ---- contents
-- what each event may need of the contents stays
true-still : (old new : Option Contents) → Stands old new → IfSome old IsTrueStore → IfSome new IsTrueStore
true-still None new stands h = subst (λ new. IfSome new IsTrueStore) (sym stands) tt
true-still (Some c) None stands h = absurd stands
true-still (Some c) (Some c') stands h = λ d. stands.true_still d (h d)

pub still-whole : (r : Tables) (n : Notes) (t : ℕ) (old : Option Contents) (c : Contents) → Stands old (Some c) → IfSome old (λ c. IsWhole r n c t) → IsWhole r n c t
still-whole r n t None c stands h = cc
still-whole r n t (Some old) c stands h = stands.whole_still r n t h

-- ---- the event
unmade : (outcome : Outcome) (made : Option EntryKind) → made ≡ None → acknowledged outcome made ≡ None
unmade (Ok x) made none = none
unmade (Err x) made none = refl

module _ (w w' : Shown) (call : Call) (outcome : Outcome) (quiet : is_ask call ≡ false) (done : StoreDone w w' call outcome) where
  abbrev here : Event
  here = record { call = call; moment = w'.moment; outcome = outcome }

  no-own : (s : State) → entry_of here s ≡ None
  no-own s = unmade outcome (reply call s w'.moment).entry (no-entry call quiet s w'.moment)

  happens-here : (r : Tables) → w.entries ≡ length r.audit → happens here (state_of r w.notes) ≡ state_of r w'.notes
  happens-here r count =
      (λ i. record { audit = entered w'.moment (no-own (state_of r w.notes) i) r.audit; notes = gone_by (suc (length r.audit)) (no-own (state_of r w.notes) i) (noted call (state_of r w.notes) outcome) })
      ∙ ap (λ n. record { audit = r.audit; notes = n }) (done.noted r.audit count)

  pub event-store : IsWorld w → EventOf (view_of w) (view_of w') call outcome
  event-store h = go w.rows refl h.rows done.answers
    where
      go : (rows : Option Tables) → w.rows ≡ rows → IfSome rows (λ r. RowsStand r w) → RowsReply rows w.notes call outcome → IfSome (option_map (λ r. state_of r w.notes) rows) (λ s. EventFrom s (view_of w) (view_of w') call outcome)
      go None is stand answers = tt
      go (Some r) is stand answers = record {
        others = [];
        fits = tt;
        alone = λ x. refl;
        history = stand.stands.history;
        later = omega (arith, stand.later, done.stays.later);
        answered = λ made. answers made ∙ ap (λ (x : Reply). x.outcome) (sym (rows-answer r w.notes call w'.moment stand.stands stand.built stand.here));
        mine = mine-grows w w' (length r.audit) (is_some (entry_of here (state_of r w.notes))) done.stays.start (omega (arith, h.since, stand.count)) (λ own. let none = ap is_some (no-own (state_of r w.notes)) in cc) (λ none. done.stays.last);
        count = omega (arith, stand.count);
        leaves = inl (ap (option_map (λ r. state_of r w'.notes)) (done.stays.rows ∙ is) ∙ ap Some (sym (happens-here r stand.count)));
      }

  pub whole-store : IsWorld w → IsWorld w'
  whole-store h =
      let rows = subst Stand (sym done.stays.rows) (go w.rows h.rows h.whole) in
      record {
        rows = rows.0;
        whole = rows.1;
        bytes = true-still w.contents w'.contents done.stays.stands h.bytes;
        room = omega (arith, h.room, done.stays.entries);
        since = omega (arith, h.since, done.stays.entries, done.stays.start);
        low = omega (arith, h.low, done.stays.entries, done.stays.last);
        past = done.stays.past;
      }
    where
      Stand : Option Tables → Type 0
      Stand rows = IfSome rows (λ r. RowsStand r w') × IfSome rows (λ r. IfSome w'.contents (λ c. IsWhole r w'.notes c w'.moment))

      whole-after : (r : Tables) → AllBuilt r.audit → IfSome w.contents (λ c. IsWhole r w.notes c w.moment) → (contents : Option Contents) → w'.contents ≡ contents → IfSome contents (λ c. IsWhole r w'.notes c w'.moment)
      whole-after r built whole None is = tt
      whole-after r built whole (Some c) is = done.kept r c built is (still-whole r w.notes w.moment w.contents c (subst (Stands w.contents) is done.stays.stands) whole)

      go : (rows : Option Tables) → IfSome rows (λ r. RowsStand r w) → IfSome rows (λ r. IfSome w.contents (λ c. IsWhole r w.notes c w.moment)) → Stand rows
      go None stand whole = (tt, tt)
      go (Some r) stand whole = (
        record { stands = stand.stands; built = stand.built; here = done.here stand.here; later = omega (arith, stand.later, done.stays.later); count = done.stays.entries ∙ stand.count },
        whole-after r stand.built whole w'.contents refl,
      )

-- ---- notes
-- the same registry with notes that have the same removals and sightings
abbrev Placed : Contents → Placement → Type 0
Placed c x = x.gone ≡ 0 → IsKept c x.digest

abbrev Long : Contents → Placement → Type 0
Long c x = x.gone ≡ 0 → HasLength c x.digest x.size

abbrev Ended : Tables → Sealed → Type 0
Ended r x = (upload_in (replay r.audit) x.upload ≡ None) × (x.upload ≤ length r.audit)

renoted : (r : Tables) (n : Notes) (out : List ℕ) (sealed : List Sealed) (placements : List Placement) (c : Contents) (t : ℕ) → IsWhole r n c t → AllByRecursion (Ended r) sealed → AllByRecursion (Placed c) placements → (OneLength c → AllByRecursion (Long c) placements) → IsWhole r (record n { out = out; sealed = sealed; placements = placements }) c t
renoted r n out sealed placements c t h ended placed long = record {
  stands = h.stands;
  now = h.now;
  pairs_present = h.pairs_present;
  complete = h.complete;
  present_kept = h.present_kept;
  may_lapse = h.may_lapse;
  one_spell = h.one_spell;
  acknowledged = h.acknowledged;
  placed = placed;
  sighted = h.sighted;
  sealed = ended;
  true_digests = h.true_digests;
  counted = h.counted;
  lengths = λ one. let before = h.lengths one in record { present = before.present; placed = long one; sighted = before.sighted };
}

-- which stages are out is free
out-kept : (r : Tables) (n : Notes) (out : List ℕ) (c : Contents) (t : ℕ) → IsWhole r n c t → IsWhole r (record n { out = out }) c t
out-kept r n out c t h = renoted r n out n.sealed n.placements c t h h.sealed h.placed (λ one. (h.lengths one).placed)

taken-kept : (upload : ℕ) (outcome : Outcome) (r : Tables) (n : Notes) (c : Contents) (t later : ℕ) → t ≤ later → IsWhole r n c t → IsWhole r (taking_out upload outcome n) c later
taken-kept upload (Ok gave) r n c t later after h = later-whole r _ c t later (out-kept r n (upload ∷ n.out) c t h) after
taken-kept upload (Err refusal) r n c t later after h = later-whole r n c t later h after

handed-kept : (upload : ℕ) (r : Tables) (n : Notes) (c : Contents) (t later : ℕ) → t ≤ later → IsWhole r n c t → IsWhole r (handed_back upload true n) c later
handed-kept upload r n c t later after h = later-whole r _ c t later (out-kept r n (handed_back upload true n).out c t h) after

taken-here : (upload : ℕ) (outcome : Outcome) (n : Notes) → NoneGone n → NoneGone (taking_out upload outcome n)
taken-here upload (Ok gave) n h = h
taken-here upload (Err refusal) n h = h

-- ---- what is placed
never-taken : (d : Digest) (j : List AuditEntry) → AllBuilt j → last_kind (takes_digest d) j ≡ None
never-taken d [] h = refl
never-taken d (e ∷ j) h = ap (λ b. cond b (Some e) (last_kind (takes_digest d) j)) (untaken d e.kind h.0) ∙ never-taken d j h.1

-- no removal may take effect
unlapsed : (r : Tables) (n : Notes) (c : Contents) (t : ℕ) (d : Digest) → AllBuilt r.audit → IsWhole r n c t → ¬ (IsLapsing c d)
unlapsed r n c t d built h l =
    let may = h.may_lapse (record { digest = d; until = l.0 }) l.1 l.2 in
    let barred = may.barred in
    let never = ap (some_and (λ (taking : AuditEntry). nat_le l.0 (taking.moment + WINDOW))) (never-taken d r.audit built) in
    cc

some-if : {A : Type 0} (P Q : A → Type 0) (x : Option A) → ((a : A) → P a → Q a) → IsSomeAnd x P → IsSomeAnd x Q
some-if P Q None f h = absurd h
some-if P Q (Some a) f h = f a h

if-some : {A : Type 0} (P Q : A → Type 0) (x : Option A) → ((a : A) → P a → Q a) → IsSomeAnd x P → IfSome x Q
if-some P Q None f h = tt
if-some P Q (Some a) f h = f a h

-- the digest's content has it, and this size
abbrev pub HoldsSized : Contents → Digest → ℕ → Type 0
HoldsSized c d size = IsSomeAnd (bytes_of c d) (λ b. (digest_of b ≡ d) × (length b ≡ size))

placing-ok : (upload entries : ℕ) (gave : Gave) (x : Sealed) (r : Tables) (n : Notes) (c : Contents) (t : ℕ) (found : Option Sealed) → found ≡ Some x → AllBuilt r.audit → HoldsSized c x.digest x.size → IsWhole r n c t → IsWhole r (record n { out = (placing upload entries (Ok gave) n).out; sealed = without_sealed upload n.sealed; placements = placed_with entries found (Ok gave) n.placements }) c t
placing-ok upload entries gave x r n c t None is built holds h = cc
placing-ok upload entries gave x r n c t (Some y) is built holds h =
    let same : y ≡ x = cc in
    let holds' = subst (λ x. HoldsSized c x.digest x.size) (sym same) holds in
    renoted r n _ (without_sealed upload n.sealed) (placed_with entries (Some y) (Ok gave) n.placements) c t h
    (All-passed (Ended r) (λ z. not (is_sealed upload z)) n.sealed h.sealed)
    (λ here. record { held = some-if _ _ (bytes_of c y.digest) (λ b k. k.0) holds'; safe = unlapsed r n c t y.digest built h }, h.placed)
    (λ one. (λ here. if-some _ _ (bytes_of c y.digest) (λ b k. k.1) holds', (h.lengths one).placed))

placing-err : (upload entries : ℕ) (outcome : Outcome) (r : Tables) (n : Notes) (c : Contents) (t : ℕ) → placed_with entries (sealed_at upload n.sealed) outcome n.placements ≡ n.placements → IsWhole r n c t → IsWhole r (placing upload entries outcome n) c t
placing-err upload entries outcome r n c t same h =
    let P = λ (placements : List Placement). AllByRecursion (Placed c) placements in
    let L = λ (placements : List Placement). OneLength c → AllByRecursion (Long c) placements in
    renoted r n _ (without_sealed upload n.sealed) _ c t h
    (All-passed (Ended r) (λ z. not (is_sealed upload z)) n.sealed h.sealed)
    (subst P (sym same) h.placed)
    (subst L (sym same) (λ one. (h.lengths one).placed))

unplaced : (entries : ℕ) (found : Option Sealed) (outcome : Outcome) (placements : List Placement) → ((gave : Gave) → outcome ≡ Ok gave → ⊥) → placed_with entries found outcome placements ≡ placements
unplaced entries (Some x) (Ok gave) placements none = absurd (none gave refl)
unplaced entries (Some x) (Err refusal) placements none = refl
unplaced entries None outcome placements none = refl

placed-kept : (upload entries : ℕ) (outcome : Outcome) (x : Sealed) (r : Tables) (n : Notes) (c : Contents) (t later : ℕ) → sealed_at upload n.sealed ≡ Some x → ((gave : Gave) → outcome ≡ Ok gave → HoldsSized c x.digest x.size) → AllBuilt r.audit → t ≤ later → IsWhole r n c t → IsWhole r (placing upload entries outcome n) c later
placed-kept upload entries (Ok gave) x r n c t later own holds built after h = later-whole r _ c t later (placing-ok upload entries gave x r n c t (sealed_at upload n.sealed) own built (holds gave refl) h) after
placed-kept upload entries (Err refusal) x r n c t later own holds built after h = later-whole r _ c t later (placing-err upload entries (Err refusal) r n c t (unplaced entries (sealed_at upload n.sealed) (Err refusal) n.placements (λ gave e. cc e)) h) after

placed-here : (upload entries : ℕ) (outcome : Outcome) (n : Notes) → NoneGone n → NoneGone (placing upload entries outcome n)
placed-here upload entries outcome n h = go (sealed_at upload n.sealed) outcome
  where
    go : (found : Option Sealed) (outcome : Outcome) → AllByRecursion (λ (x : Placement). x.gone ≡ 0) (placed_with entries found outcome n.placements)
    go (Some x) (Ok gave) = (refl, h)
    go (Some x) (Err refusal) = h
    go None outcome = h

-- ---- by call
pub taken-done : (w w' : Shown) (name : List ℕ) (upload : ℕ) (start : Option ℕ) (outcome : Outcome) → Stays w w' → w'.notes ≡ taking_out upload outcome w.notes → RowsReply w.rows w.notes (StageTaken name upload start) outcome → StoreDone w w' (StageTaken name upload start) outcome
taken-done w w' name upload start outcome stays noted answers = record {
  stays = stays;
  noted = λ audit count. sym noted;
  answers = answers;
  here = λ h. subst NoneGone (sym noted) (taken-here upload outcome w.notes h);
  kept = λ r c built is h. subst (λ n. IsWhole r n c w'.moment) (sym noted) (taken-kept upload outcome r w.notes c w.moment w'.moment stays.later h);
}

pub placed-done : (w w' : Shown) (upload : ℕ) (d : Digest) (size : ℕ) (outcome : Outcome) → Stays w w' → sealed_at upload w.notes.sealed ≡ Some (record { upload = upload; digest = d; size = size }) → w'.notes ≡ placing upload w.entries outcome w.notes → ((gave : Gave) → outcome ≡ Ok gave → IfSome w'.contents (λ c. HoldsSized c d size)) → RowsReply w.rows w.notes (StagePlaced upload d) outcome → StoreDone w w' (StagePlaced upload d) outcome
placed-done w w' upload d size outcome stays own noted holds answers = record {
  stays = stays;
  noted = λ audit count. ap (λ n. placing upload n outcome w.notes) (sym count) ∙ sym noted;
  answers = answers;
  here = λ h. subst NoneGone (sym noted) (placed-here upload w.entries outcome w.notes h);
  kept = λ r c built is h. subst (λ n. IsWhole r n c w'.moment) (sym noted) (placed-kept upload w.entries outcome (record { upload = upload; digest = d; size = size }) r w.notes c w.moment w'.moment own (λ gave ok. subst (λ contents. IfSome contents (λ c. HoldsSized c d size)) is (holds gave ok)) built stays.later h);
}

pub handed-done : (w w' : Shown) (upload : ℕ) (outcome : Outcome) → Stays w w' → w'.notes ≡ handed_back upload true w.notes → RowsReply w.rows w.notes (StageDropped upload true) outcome → StoreDone w w' (StageDropped upload true) outcome
handed-done w w' upload outcome stays noted answers = record {
  stays = stays;
  noted = λ audit count. sym noted;
  answers = answers;
  here = λ h. subst NoneGone (sym noted) h;
  kept = λ r c built is h. subst (λ n. IsWhole r n c w'.moment) (sym noted) (handed-kept upload r w.notes c w.moment w'.moment stays.later h);
}

-- an event that changes no note
pub same-done : (w w' : Shown) (call : Call) (outcome : Outcome) → Stays w w' → ((s : State) → noted call s outcome ≡ s.notes) → w'.notes ≡ w.notes → RowsReply w.rows w.notes call outcome → StoreDone w w' call outcome
same-done w w' call outcome stays unnoted same answers = record {
  stays = stays;
  noted = λ audit count. unnoted (record { audit = audit; notes = w.notes }) ∙ sym same;
  answers = answers;
  here = λ h. subst NoneGone (sym same) h;
  kept = λ r c built is h. subst (λ n. IsWhole r n c w'.moment) (sym same) (later-whole r w.notes c w.moment w'.moment h stays.later);
}

-- a stage that is handed back is dropped, or a fault is told
pub handed-answers : {T : Type 0} (rows : Option Tables) (n : Notes) (upload : ℕ) (result : Result T Refusal) → IfErr result IsStoreFault → RowsReply rows n (StageDropped upload true) (plain (λ x. Dropped) result)
handed-answers None n upload result fault = tt
handed-answers (Some r) n upload (Ok x) fault = λ h. refl
handed-answers (Some r) n upload (Err refusal) fault = λ h. no-answer Storage refusal refl fault h

-- what is placed has the number of entries as its number, or a fault is told
pub placed-answers : (w : Shown) (upload : ℕ) (d : Digest) (result : Result ℕ Refusal) → IsWorld w → IfOk result (λ x. x ≡ w.entries) → IfErr result IsStoreFault → RowsReply w.rows w.notes (StagePlaced upload d) (plain Number result)
placed-answers w upload d result h number fault = go w.rows h.rows result number fault
  where
    go : (rows : Option Tables) → IfSome rows (λ r. RowsStand r w) → (result : Result ℕ Refusal) → IfOk result (λ x. x ≡ w.entries) → IfErr result IsStoreFault → RowsReply rows w.notes (StagePlaced upload d) (plain Number result)
    go None stand result number fault = tt
    go (Some r) stand (Ok x) number fault = λ h. ap (λ m. Ok (Number m)) (number ∙ stand.count)
    go (Some r) stand (Err refusal) number fault = λ h. no-answer Storage refusal refl fault h

pub placed-held : (P : Type 0) (result : Result ℕ Refusal) → OnOk result P → (gave : Gave) → plain Number result ≡ Ok gave → P
placed-held P (Ok x) h gave ok = h
placed-held P (Err refusal) h gave ok = cc ok
