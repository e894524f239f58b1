-- An ask of a world: the rows that its commit leaves are those that the event makes, and the world stays whole.
use Rattle.std.proofs.Common.{◌≡◌, ◌≤◌, ◌^◌, ℕ, suc, Bool, true, false, not, [], length, Option, Some, None, Ok, Err, IfSome, is_some, nat_eq, nat_lt, option_map, refl, sym, ap, subst, ◌∙◌, inl, arith}
use Rattle.std.proofs.lemmas.Bool.Decides.{nat_tests}
use Rattle.hb_records.specs.Entries.{AuditEntry, LAST_MOMENT}
use Rattle.hb_records.specs.declared.entries.EntryKind.{EntryKind}
use Rattle.hb_records.specs.declared.notes.Notes.{Notes}
use Rattle.hb_records.specs.declared.notes.Placement.{Placement}
use Rattle.hb_rows.specs.Batches.{after_batch}
use Rattle.hb_rows.specs.Tables.{Tables}
use Rattle.hb_store.specs.Contents.{Contents}
use Rattle.hb_model.specs.Built.{is_built}
use Rattle.hb_model.specs.Effects.{after_entry, rows_of}
use Rattle.hb_model.specs.History.{Legal, Stands, latest}
use Rattle.hb_model.specs.Whole.{IsWhole}
use Rattle.hb_model.proofs.Batches.{batch-rows, history-numbered}
use Rattle.hb_desk.specs.Calls.{Asked, Outcome}
use Rattle.hb_desk.specs.Clause.{EventFrom, EventOf, Fits, MineGrows}
use Rattle.hb_desk.specs.Events.{acknowledged, entered, happens}
use Rattle.hb_desk.specs.Keeping.{asked_at, rows_with, state_of}
use Rattle.hb_desk.specs.Noting.{gone_by, noted_ask}
use Rattle.hb_desk.specs.Reply.{Reply, reply}
use Rattle.hb_desk.specs.State.{State}
use Rattle.hb_desk.specs.declared.asks.Ask.{Ask}
use Rattle.hb_desk.specs.declared.asks.Ask.TheVariants.{Seal, SealManifest, Settle, PutArtifact}
use Rattle.hb_desk.proofs.AskedWhole.{asked-whole, gone-same}
use Rattle.hb_desk.proofs.LegalReplies.{reply-legal}
use Rattle.hb_plan.specs.BuiltAudits.{AllBuilt, NoneGone}
use Rattle.hb_plan.specs.RowReplies.{row_reply}
use Rattle.hb_plan.proofs.BuiltAudits.{uncollected, untaken}
use Rattle.hb_plan.proofs.BuiltEntries.{entry-built}
use Rattle.hb_plan.proofs.RowAnswers.{rows-answer}
use Rattle.hb_world.specs.Asking.{AskFits, batch_of, count_after, last_after, with_entry}
use Rattle.hb_world.specs.Worlds.{IsTrueStore, IsWorld, RowsStand, Shown, view_of}
use Rattle.hb_world.proofs.StoreSteps.{All-passed}

-- what an ask makes of a world
pub record AskDone (w w' : Shown) (ask : Ask) (outcome : Outcome) : Type 0 where
  pub told : IfSome w.rows (λ r. w.entries ≡ length r.audit → AskFits r (row_reply (Asked ask) r w.notes) w'.moment w'.rows w'.entries w.last w'.last outcome)
  pub noted : w'.notes ≡ noted_ask ask w.notes outcome
  pub untold : w.rows ≡ None → w'.rows ≡ None
  pub contents : w'.contents ≡ w.contents
  pub later : w.moment ≤ w'.moment
  pub past : w'.moment ≤ LAST_MOMENT
  pub room : w'.entries ≤ 2 ^ 62
  pub grows : w.entries ≤ w'.entries
  pub low : w.last ≤ w.entries → w'.last ≤ w'.entries
  pub start : w'.start ≡ w.start

-- ---- the caller's numbers
-- an event at an audit of n entries
pub mine-grows : (w w' : Shown) (n : ℕ) (committed : Bool) → w'.start ≡ w.start → w.start ≤ n → (committed ≡ true → w'.last ≡ suc n) → (committed ≡ false → w'.last ≡ w.last) → MineGrows (view_of w) (view_of w') n committed
mine-grows w w' n committed start since own none = record {
  kept = λ k h. subst (λ s. nat_lt s k ≡ true) (sym start) h;
  own = λ h. (grind (arith, nat_tests, start, since), own h);
  only = λ k some before h. subst (λ s. nat_lt s k ≡ true) start h;
  none = none;
}

own-last : (n last last' : ℕ) (made : Option EntryKind) → last' ≡ last_after made n last → is_some made ≡ true → last' ≡ suc n
own-last n last last' (Some kind) is h = is
own-last n last last' None is h = cc h

other-last : (n last last' : ℕ) (made : Option EntryKind) → last' ≡ last_after made n last → is_some made ≡ false → last' ≡ last
other-last n last last' None is h = is
other-last n last last' (Some kind) is h = cc h

-- ---- notes
asked-none-gone : (ask : Ask) (n : Notes) (outcome : Outcome) → NoneGone n → NoneGone (noted_ask ask n outcome)
asked-none-gone (Seal upload d size) n (Ok x) h = h
asked-none-gone (Seal upload d size) n (Err x) h = h
asked-none-gone (SealManifest upload put) n (Ok x) h = h
asked-none-gone (SealManifest upload put) n (Err x) h = h
asked-none-gone (Settle name upload d) n outcome h = All-passed (λ (x : Placement). x.gone ≡ 0) (λ (x : Placement). not (nat_eq upload x.upload)) n.placements h
asked-none-gone (PutArtifact upload put) n outcome h = All-passed (λ (x : Placement). x.gone ≡ 0) (λ (x : Placement). not (nat_eq upload x.upload)) n.placements h
asked-none-gone _ n outcome h = h

-- no entry of a built kind takes or collects what was placed
still-here : (n : ℕ) (made : Option EntryKind) (notes : Notes) → ((kind : EntryKind) → made ≡ Some kind → is_built kind ≡ true) → gone_by n made notes ≡ notes
still-here n None notes built = refl
still-here n (Some kind) notes built = gone-same n kind notes (λ d. untaken d kind (built kind refl)) (λ d. uncollected d kind (built kind refl))

-- ---- rows
-- the batch of an entry makes the rows of the longer audit
batch-entered : (r : Tables) (e : AuditEntry) → Stands r → e.number ≡ suc (length r.audit) → after_batch r (batch_of r e) ≡ after_entry r e
batch-entered r e stands next =
    ap (λ t. after_batch t (batch_of t e)) stands.made
    ∙ batch-rows r.audit (batch_of (rows_of r.audit) e) (next, history-numbered r.audit stands.history) refl
    ∙ ap (λ t. after_entry t e) (sym stands.made)

pub rows-entered : (t : ℕ) (made : Option EntryKind) (r : Tables) → Stands r → with_entry t made r ≡ rows_with t made r
rows-entered t None r stands = refl
rows-entered t (Some kind) r stands = batch-entered r (record { number = suc (length r.audit); moment = t; kind = kind }) stands refl

stands-entered : (r : Tables) (e : AuditEntry) → Stands r → Legal r.audit e → Stands (after_entry r e)
stands-entered r e stands legal = record { history = (legal, stands.history); made = ap (λ t. after_entry t e) stands.made }

entered-audit : (t : ℕ) (made : Option EntryKind) (r : Tables) → (rows_with t made r).audit ≡ entered t made r.audit
entered-audit t None r = refl
entered-audit t (Some kind) r = refl

-- what stands of the rows after an entry that may follow
record Entered (r : Tables) (t entries : ℕ) (made : Option EntryKind) : Type 0 where
  stands : Stands (rows_with t made r)
  built : AllBuilt (rows_with t made r).audit
  later : latest (rows_with t made r).audit ≤ t
  count : entries ≡ length (rows_with t made r).audit

entered-rows : (r : Tables) (t entries : ℕ) (made : Option EntryKind) → Stands r → AllBuilt r.audit → latest r.audit ≤ t → ((kind : EntryKind) → made ≡ Some kind → Legal r.audit (record { number = suc (length r.audit); moment = t; kind = kind })) → ((kind : EntryKind) → made ≡ Some kind → is_built kind ≡ true) → entries ≡ count_after made (length r.audit) → Entered r t entries made
entered-rows r t entries None stands built later legal kinds count = record { stands = stands; built = built; later = later; count = count }
entered-rows r t entries (Some kind) stands built later legal kinds count = record { stands = stands-entered r _ stands (legal kind refl); built = (kinds kind refl, built); later = omega arith; count = count }

-- the entry that an outcome acknowledges is the reply's
acknowledged-is : (outcome : Outcome) (made : Option EntryKind) (kind : EntryKind) → acknowledged outcome made ≡ Some kind → made ≡ Some kind
acknowledged-is (Ok x) made kind h = h
acknowledged-is (Err x) made kind h = cc h

-- ---- the event
module _ (w w' : Shown) (ask : Ask) (outcome : Outcome) (done : AskDone w w' ask outcome) where
  module _ (r : Tables) (rows : RowsStand r w) (fits : AskFits r (row_reply (Asked ask) r w.notes) w'.moment w'.rows w'.entries w.last w'.last outcome) where
    abbrev t : ℕ
    t = w'.moment

    abbrev s : State
    s = state_of r w.notes

    abbrev made : Option EntryKind
    made = acknowledged outcome (reply (Asked ask) s t).entry

    same-reply : reply (Asked ask) s t ≡ row_reply (Asked ask) r w.notes
    same-reply = rows-answer r w.notes (Asked ask) t rows.stands rows.built rows.here

    same-entry : acknowledged outcome (row_reply (Asked ask) r w.notes).entry ≡ made
    same-entry = ap (λ (x : Reply). acknowledged outcome x.entry) (sym same-reply)

    from : latest r.audit ≤ t
    from = omega (arith, rows.later, done.later)

    made-legal : (kind : EntryKind) → made ≡ Some kind → Legal r.audit (record { number = suc (length r.audit); moment = t; kind = kind })
    made-legal kind h = reply-legal s (Asked ask) t kind from (acknowledged-is outcome (reply (Asked ask) s t).entry kind h)

    made-built : (kind : EntryKind) → made ≡ Some kind → is_built kind ≡ true
    made-built kind h = entry-built (Asked ask) s t kind (acknowledged-is outcome (reply (Asked ask) s t).entry kind h)

    after-rows : w'.rows ≡ Some (rows_with t made r)
    after-rows = fits.rows ∙ ap (λ x. Some (with_entry t x r)) same-entry ∙ ap Some (rows-entered t made r rows.stands)

    after-notes : (happens (asked_at t ask outcome) s).notes ≡ w'.notes
    after-notes = still-here (suc (length r.audit)) made (noted_ask ask w.notes outcome) made-built ∙ sym done.noted

    answered : Fits false (asked_at t ask outcome) s
    answered = λ made. fits.answered made ∙ ap (λ (x : Reply). x.outcome) (sym same-reply)

    entered-here : Entered r t w'.entries made
    entered-here = entered-rows r t w'.entries made rows.stands rows.built from made-legal made-built (fits.count ∙ ap (λ x. count_after x (length r.audit)) same-entry)

    stand-after : RowsStand (rows_with t made r) w'
    stand-after = record {
      stands = entered-here.stands;
      built = entered-here.built;
      here = subst NoneGone (sym done.noted) (asked-none-gone ask w.notes outcome rows.here);
      later = entered-here.later;
      count = entered-here.count;
    }

    whole-after : (c : Contents) → IsWhole r w.notes c w.moment → IsWhole (rows_with t made r) w'.notes c t
    whole-after c whole = subst (λ n. IsWhole (rows_with t made r) n c t) after-notes (asked-whole r w.notes c w.moment t ask outcome whole done.later answered)

    last-is : w'.last ≡ last_after made (length r.audit) w.last
    last-is = fits.last ∙ ap (λ x. last_after x (length r.audit) w.last) same-entry

    event-from : w.start ≤ w.entries → EventFrom s (view_of w) (view_of w') (Asked ask) outcome
    event-from since = record {
      others = [];
      fits = tt;
      alone = λ x. refl;
      history = rows.stands.history;
      later = from;
      answered = answered;
      mine = mine-grows w w' (length r.audit) (is_some made) done.start (omega (arith, since, rows.count)) (own-last (length r.audit) w.last w'.last made last-is) (other-last (length r.audit) w.last w'.last made last-is);
      count = omega (arith, rows.count);
      leaves = inl (ap (option_map (λ r. state_of r w'.notes)) after-rows ∙ (λ i. Some (record { audit = entered-audit t made r i; notes = sym after-notes i })));
    }

  pub event-ask : IsWorld w → EventOf (view_of w) (view_of w') (Asked ask) outcome
  event-ask h = go w.rows h.rows done.told
    where
      go : (rows : Option Tables) → IfSome rows (λ r. RowsStand r w) → IfSome rows (λ r. w.entries ≡ length r.audit → AskFits r (row_reply (Asked ask) r w.notes) w'.moment w'.rows w'.entries w.last w'.last outcome) → IfSome (option_map (λ r. state_of r w.notes) rows) (λ s. EventFrom s (view_of w) (view_of w') (Asked ask) outcome)
      go None stand told = tt
      go (Some r) stand told = event-from r stand (told stand.count) h.since

  -- what stands of rows, whether the contents are told or not
  abbrev Stand : Option Tables → Type 0
  Stand rows = IfSome rows (λ r. RowsStand r w') × IfSome rows (λ r. IfSome w'.contents (λ c. IsWhole r w'.notes c w'.moment))

  pub whole-ask : IsWorld w → IsWorld w'
  whole-ask h =
      let rows = go w.rows refl h.rows h.whole done.told in
      record {
        rows = rows.0;
        whole = rows.1;
        bytes = subst (λ contents. IfSome contents IsTrueStore) (sym done.contents) h.bytes;
        room = done.room;
        since = omega (arith, h.since, done.grows, done.start);
        low = done.low h.low;
        past = done.past;
      }
    where
      kept : (r : Tables) (stand : RowsStand r w) (fits : AskFits r (row_reply (Asked ask) r w.notes) w'.moment w'.rows w'.entries w.last w'.last outcome) (contents : Option Contents) → IfSome contents (λ c. IsWhole r w.notes c w.moment) → IfSome contents (λ c. IsWhole (rows_with w'.moment (made r stand fits) r) w'.notes c w'.moment)
      kept r stand fits None whole = tt
      kept r stand fits (Some c) whole = whole-after r stand fits c whole

      go : (rows : Option Tables) → w.rows ≡ rows → IfSome rows (λ r. RowsStand r w) → IfSome rows (λ r. IfSome w.contents (λ c. IsWhole r w.notes c w.moment)) → IfSome rows (λ r. w.entries ≡ length r.audit → AskFits r (row_reply (Asked ask) r w.notes) w'.moment w'.rows w'.entries w.last w'.last outcome) → Stand w'.rows
      go None is stand whole told = subst Stand (sym (done.untold is)) (tt, tt)
      go (Some r) is stand whole told =
          let fits = told stand.count in
          subst Stand (sym (after-rows r stand fits)) (stand-after r stand fits, subst (λ contents. IfSome contents (λ c. IsWhole (rows_with w'.moment (made r stand fits) r) w'.notes c w'.moment)) (sym done.contents) (kept r stand fits w.contents whole))
