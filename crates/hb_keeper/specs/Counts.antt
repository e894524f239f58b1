-- When a call of a keeper in memory fails, and what it makes of the script.
use Rattle.std.specs.Prelude.{◌≡◌, ◌↔◌, Result, Ok, Err, IsErrOf}
use Rattle.hb_outside.specs.Scripts.{Scripted, IsNext, called, faulted}
use Rattle.hb_keeper.specs.declared.keeper.KeepFault.{KeepFault}
use Rattle.hb_keeper.specs.declared.keeper.KeepFault.TheVariants.{Failed, Memory}
use Rattle.hb_keeper.specs.declared.mem_keeper.MemKeeper.{MemKeeper}

-- one more call, and one more fault where it failed
abbrev pub Counted : {T : Type 0} → Scripted → Scripted → Result T KeepFault → Type 0
Counted old new (Ok _) = new ≡ called old
Counted old new (Err Failed) = new ≡ faulted (called old)
Counted old new (Err Memory) = new ≡ called old

-- A read of the rows: it fails exactly where the script says, is counted, and leaves whether the next commit
-- is to fail.
pub record IsScripted {T : Type 0} (old new : MemKeeper) (result : Result T KeepFault) : Type 0 where
  pub failed : IsErrOf result Failed ↔ IsNext old.script
  pub counted : Counted old.script new.script result
  pub next : new.fails_next_commit ≡ old.fails_next_commit
