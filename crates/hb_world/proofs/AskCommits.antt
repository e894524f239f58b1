-- What is committed of a plan is what the reply over the rows makes.
use Rattle.std.proofs.Common.{◌≡◌, ◌+◌, ℕ, suc, false, List, length, Option, Some, None, Result, Ok, Err, IfOk, IfErr, IfSome, refl, sym, ap, ◌∙◌, inl, inr, arith}
use Rattle.hb_records.specs.declared.batches.Batch.{Batch}
use Rattle.hb_records.specs.declared.batches.Row.TheVariants as row
use Rattle.hb_records.specs.declared.entries.EntryKind.{EntryKind}
use Rattle.hb_records.specs.declared.notes.Notes.{Notes}
use Rattle.hb_records.specs.declared.notes.Placement.{Placement}
use Rattle.hb_rows.specs.Batches.{after_changes, set_row}
use Rattle.hb_rows.specs.Tables.{Tables}
use Rattle.hb_model.specs.Changes.{changes_of}
use Rattle.hb_desk.specs.Calls.{Asked, Tells, plain}
use Rattle.hb_desk.specs.Clause.{is_fault}
use Rattle.hb_desk.specs.Reply.{Reply}
use Rattle.hb_desk.specs.declared.asks.Ask.{Ask}
use Rattle.hb_desk.specs.declared.told.Told.{Told}
use Rattle.hb_desk.specs.declared.refusals.Refusal.{Refusal}
use Rattle.hb_desk.specs.declared.refusals.Refusal.TheVariants.{Keeper}
use Rattle.hb_plan.specs.Plans.{BatchOf, IsPlanFault, PlanFits, Plans}
use Rattle.hb_plan.specs.RowReplies.{row_reply}
use Rattle.hb_plan.specs.declared.planned.Planned.{Planned}
use Rattle.hb_world.proofs.Faults.{no-answer}
use Rattle.hb_world.specs.Asking.{AskFits, count_after, count_with, last_after, last_with, with_batch, with_entry}

-- a refusal, by which nothing is committed
refused-fits : (r : Tables) (reply : Reply) (t entries last : ℕ) (rows' : Option Tables) (entries' last' : ℕ) (refusal : Refusal) → (is_fault false (Err refusal) ≡ false → Err refusal ≡ reply.outcome) → rows' ≡ Some r → entries' ≡ entries → last' ≡ last → entries ≡ length r.audit → AskFits r reply t rows' entries' last last' (Err refusal)
refused-fits r reply t entries last rows' entries' last' refusal answered rows count own here = record { answered = answered; rows = rows; count = count ∙ here; last = own }

-- the batch of a reply's entry, committed
record CommittedBy (r : Tables) (t entries last : ℕ) (made : Option EntryKind) (batch : Option Batch) : Type 0 where
  rows : with_batch batch (Some r) ≡ Some (with_entry t made r)
  count : count_with batch entries ≡ count_after made (length r.audit)
  last_is : last_with batch entries last ≡ last_after made (length r.audit) last

committed-by : (r : Tables) (n t entries last : ℕ) (made : Option EntryKind) (batch : Option Batch) → n ≡ suc (length r.audit) → entries ≡ length r.audit → BatchOf made r n t batch → CommittedBy r t entries last made batch
committed-by r n t entries last None None next here h = record { rows = refl; count = here; last_is = refl }
committed-by r n t entries last None (Some b) next here h = absurd h
committed-by r n t entries last (Some kind) None next here h = absurd h
committed-by r n t entries last (Some kind) (Some b) next here h =
    let entry = h.0 ∙ (λ i. record { number = next i; moment = t; kind = kind }) in
    record {
      rows = (λ i. Some (set_row (after_changes r (h.1 i)) (row.Entry b.entry))) ∙ (λ i. Some (set_row (after_changes r (changes_of r (entry i))) (row.Entry (entry i))));
      count = ap suc here;
      last_is = ap suc here;
    }

planned-ok : (r : Tables) (reply : Reply) (n t entries last : ℕ) (planned : Planned) (x : Told) (rows' : Option Tables) (entries' last' : ℕ) → n ≡ suc (length r.audit) → entries ≡ length r.audit → PlanFits reply r n t (Ok planned) → x ≡ planned.told → rows' ≡ with_batch planned.batch (Some r) → entries' ≡ count_with planned.batch entries → last' ≡ last_with planned.batch entries last → AskFits r reply t rows' entries' last last' (Ok (Tells x))
planned-ok r reply n t entries last planned x rows' entries' last' next here fits told rows count own =
    let by = committed-by r n t entries last reply.entry planned.batch next here fits.1 in
    record { answered = λ e. ap (λ x. Ok (Tells x)) told ∙ sym fits.0; rows = rows ∙ by.rows; count = count ∙ by.count; last = own ∙ by.last_is }

-- ---- what a plan gives
pub commit-fits : (rows planned_rows : Option Tables) (placements : List Placement) (ask : Ask) (n t entries last : ℕ) (planned : Planned) (result : Result Told Refusal) (rows' : Option Tables) (entries' last' : ℕ) → planned_rows ≡ rows → n ≡ entries + 1 → Plans rows placements ask n t (Ok planned)
    → IfOk result (λ x. x ≡ planned.told) → IfOk result (λ x. rows' ≡ with_batch planned.batch planned_rows) → IfOk result (λ x. entries' ≡ count_with planned.batch entries) → IfOk result (λ x. last' ≡ last_with planned.batch entries last)
    → IfErr result (λ x. (rows' ≡ planned_rows) × (entries' ≡ entries) × (last' ≡ last)) → IfErr result IsPlanFault
    → IfSome rows (λ r. entries ≡ length r.audit → (notes : Notes) → notes.placements ≡ placements → AskFits r (row_reply (Asked ask) r notes) t rows' entries' last last' (plain Tells result))
commit-fits None planned_rows placements ask n t entries last planned result rows' entries' last' unread next plan told rows count own same fault = tt
commit-fits (Some r) planned_rows placements ask n t entries last planned (Ok x) rows' entries' last' unread next plan told rows count own same fault =
    λ here notes placed. let after : n ≡ suc (length r.audit) = omega (arith, next, here) in
    planned-ok r (row_reply (Asked ask) r notes) n t entries last planned x rows' entries' last' after here (plan after notes placed) told (rows ∙ ap (with_batch planned.batch) unread) count own
commit-fits (Some r) planned_rows placements ask n t entries last planned (Err refusal) rows' entries' last' unread next plan told rows count own same fault =
    λ here notes placed. refused-fits r (row_reply (Asked ask) r notes) t entries last rows' entries' last' refusal (no-answer Keeper refusal refl fault) (same.0 ∙ unread) same.1 same.2 here

pub refused-plan : (rows : Option Tables) (placements : List Placement) (ask : Ask) (n t entries last : ℕ) (refusal : Refusal) (rows' : Option Tables) → n ≡ entries + 1 → Plans rows placements ask n t (Err refusal) → rows' ≡ rows
    → IfSome rows (λ r. entries ≡ length r.audit → (notes : Notes) → notes.placements ≡ placements → AskFits r (row_reply (Asked ask) r notes) t rows' entries last last (Err refusal))
refused-plan None placements ask n t entries last refusal rows' next plan rows = tt
refused-plan (Some r) placements ask n t entries last refusal rows' next plan rows =
    λ here notes placed. refused-fits r (row_reply (Asked ask) r notes) t entries last rows' entries last refusal (answered (row_reply (Asked ask) r notes) (plan (omega (arith, next, here)) notes placed)) rows refl refl here
  where
    answered : (reply : Reply) → PlanFits reply r n t (Err refusal) → is_fault false (Err refusal) ≡ false → Err refusal ≡ reply.outcome
    answered reply (inl fault) h = no-answer Keeper refusal refl fault h
    answered reply (inr is) h = sym is
