-- What a plan says of the reply to its ask, and of the batch of its entry.
use Rattle.std.specs.Prelude.{◌≡◌, ◌≤◌, ◌⊎◌, ◌^◌, ℕ, suc, nat_lt, Bool, true, false, List, length, Option, Some, None, Result, Ok, Err, IsErrOf, IfErr, IfOk, IfSome, IsTrue}
use Rattle.hb_outside.specs.Causes.{Rose}
use Rattle.hb_records.specs.declared.batches.Batch.{Batch}
use Rattle.hb_records.specs.declared.entries.EntryKind.{EntryKind}
use Rattle.hb_records.specs.declared.notes.Notes.{Notes}
use Rattle.hb_records.specs.declared.notes.Placement.{Placement}
use Rattle.hb_rows.specs.Tables.{Tables}
use Rattle.hb_model.specs.Changes.{changes_of}
use Rattle.hb_desk.specs.Calls.{Asked, Tells}
use Rattle.hb_desk.specs.Reply.{Reply, commits}
use Rattle.hb_desk.specs.declared.asks.Ask.{Ask}
use Rattle.hb_desk.specs.declared.told.Told.{Told}
use Rattle.hb_desk.specs.declared.refusals.Refusal.{Refusal}
use Rattle.hb_desk.specs.declared.refusals.Refusal.TheVariants.{Memory, Keeper, Storage, Spent}
use Rattle.hb_plan.specs.RowReplies.{row_reply}
use Rattle.hb_plan.specs.declared.planned.Planned.{Planned}

abbrev pub IsPlanFault : Refusal → Type 0
IsPlanFault refusal = (refusal ≡ Memory) ⊎ (refusal ≡ Keeper)

-- The batch of a reply's entry: it has the entry, with this number and moment, and the entry's changes of the
-- rows.
abbrev pub BatchOf : Option EntryKind → Tables → ℕ → ℕ → Option Batch → Type 0
BatchOf None r n t None = Unit {0}
BatchOf None r n t (Some b) = ⊥
BatchOf (Some kind) r n t None = ⊥
BatchOf (Some kind) r n t (Some b) = (b.entry ≡ record { number = n; moment = t; kind = kind }) × (b.changes ≡ changes_of r b.entry)

-- The plan is the reply's, or a fault.
abbrev pub PlanFits : Reply → Tables → ℕ → ℕ → Result Planned Refusal → Type 0
PlanFits reply r n t (Ok p) = (reply.outcome ≡ Ok (Tells p.told)) × BatchOf reply.entry r n t p.batch
PlanFits reply r n t (Err refusal) = IsPlanFault refusal ⊎ (reply.outcome ≡ Err refusal)

-- of the rows, where they are told, for the next entry
abbrev pub Plans : Option Tables → List Placement → Ask → ℕ → ℕ → Result Planned Refusal → Type 0
Plans rows placements ask n t result = IfSome rows (λ r. n ≡ suc (length r.audit) → (notes : Notes) → notes.placements ≡ placements → PlanFits (row_reply (Asked ask) r notes) r n t result)

-- of rows and whatever notes
abbrev pub PlansAnyhow : Option Tables → Ask → ℕ → ℕ → Result Planned Refusal → Type 0
PlansAnyhow rows ask n t result = IfSome rows (λ r. n ≡ suc (length r.audit) → (notes : Notes) → PlanFits (row_reply (Asked ask) r notes) r n t result)

-- of all tables that have what was found
abbrev pub Answers : (Tables → Type 0) → (Tables → Reply) → ℕ → ℕ → Result Planned Refusal → Type 0
Answers found reply n t result = (r : Tables) → n ≡ suc (length r.audit) → found r → PlanFits (reply r) r n t result

-- the same of an entry of this kind
abbrev pub Commits : (Tables → Type 0) → Told → EntryKind → ℕ → ℕ → Result Planned Refusal → Type 0
Commits found x kind n t result = Answers found (λ r. commits r.audit x kind) n t result

-- A batch has its entry's number, which is at most that of the last entry an audit can have, and its moment, also
-- where no rows are told.
abbrev pub IsStamped : ℕ → ℕ → Result Planned Refusal → Type 0
IsStamped n t result = IfOk result (λ p. IfSome p.batch (λ b. (b.entry.number ≡ n) × (b.entry.moment ≡ t) × (n ≤ 2 ^ 62)))

-- what a plan refuses by itself: no device's fault, and Spent only where the number is past the most entries
abbrev pub is_own : ℕ → Refusal → Bool
is_own n Keeper = false
is_own n Storage = false
is_own n Spent = nat_lt (2 ^ 62) n
is_own n refusal = true

abbrev pub IsOwn : {T : Type 0} → ℕ → Result T Refusal → Type 0
IsOwn n result = IfErr result (λ refusal. IsTrue (is_own n refusal))

-- whatever the number
abbrev pub IsOwnAnyhow : {T : Type 0} → Result T Refusal → Type 0
IsOwnAnyhow result = IfErr result (λ refusal. (n : ℕ) → IsTrue (is_own n refusal))

-- The count of faults never falls. Keeper is answered only where it rose, Spent only where the number is past the
-- most entries, and Storage never.
pub record PlanCause {T : Type 0} (n before now : ℕ) (result : Result T Refusal) : Type 0 where
  pub later : before ≤ now
  pub keeper : IsErrOf result Keeper → Rose before now
  pub storage : ¬ (IsErrOf result Storage)
  pub spent : IsErrOf result Spent → IsTrue (nat_lt (2 ^ 62) n)
