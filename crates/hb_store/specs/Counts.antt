-- What a call of a store, a stage or a reader in memory makes of its script.
use Rattle.std.specs.Prelude.{◌≡◌, Result, Ok, Err}
use Rattle.hb_outside.specs.Scripts.{Scripted, called, faulted}
use Rattle.hb_store.specs.declared.store.StoreFault.{StoreFault}
use Rattle.hb_store.specs.declared.store.StoreFault.TheVariants.{Failed, Memory}

-- one more call, and one more fault where it failed
abbrev pub Counted : {T : Type 0} → Scripted → Scripted → Result T StoreFault → Type 0
Counted old new (Ok _) = new ≡ called old
Counted old new (Err Failed) = new ≡ faulted (called old)
Counted old new (Err Memory) = new ≡ called old
