-- What the calls of a keeper do to the rows that it tells, and when they fail.
use Rattle.std.specs.Prelude.{◌≡◌, ◌≤◌, ℕ, Result, Ok, Err, IsErrOf, IfOk, IfSome}
use Rattle.std.specs.declared.option.Option.{Option}
use Rattle.std.specs.Option.{option_map}
use Rattle.hb_outside.specs.Causes.{Rose}
use Rattle.hb_records.specs.declared.batches.Batch.{Batch}
use Rattle.hb_rows.specs.Batches.{after_batch}
use Rattle.hb_rows.specs.Tables.{Tables}
use Rattle.hb_keeper.specs.declared.keeper.KeepFault.{KeepFault}
use Rattle.hb_keeper.specs.declared.keeper.KeepFault.TheVariants.{Failed}

-- a commit that is Ok makes the batch, and a refused one leaves the rows; what isn't told stays untold
abbrev pub after_commit : {T : Type 0} → Option Tables → Batch → Result T KeepFault → Option Tables
after_commit rows batch (Ok _) = option_map (λ t. after_batch t batch) rows
after_commit rows batch (Err _) = rows

-- a read tells what the rows say
abbrev pub Reads : {A : Type 0} → Option Tables → Result A KeepFault → (Tables → A) → Type 0
Reads rows result told = IfSome rows (λ t. IfOk result (λ a. a ≡ told t))

-- the count of faults never falls, and Failed is answered only where it rose
pub record KeepCause {T : Type 0} (before now : ℕ) (result : Result T KeepFault) : Type 0 where
  pub later : before ≤ now
  pub failed : IsErrOf result Failed → Rose before now
