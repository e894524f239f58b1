-- Why a call of a storage device failed.
use Rattle.std.specs.Prelude.{◌≤◌, ℕ, Result, IsErrOf}
use Rattle.hb_outside.specs.Causes.{Rose}
use Rattle.hb_store.specs.declared.store.StoreFault.{StoreFault}
use Rattle.hb_store.specs.declared.store.StoreFault.TheVariants.{Failed}

-- the object's count of faults never falls, and Failed is answered only where it rose
pub record StoreCause {T : Type 0} (before now : ℕ) (result : Result T StoreFault) : Type 0 where
  pub later : before ≤ now
  pub failed : IsErrOf result Failed → Rose before now

-- the count of a stage or a reader rose, between two of its states
abbrev pub SomeRose : (A : Type 0) → (A → ℕ) → Type 0
SomeRose A faults = (before : A) × (now : A) × Rose (faults before) (faults now)
