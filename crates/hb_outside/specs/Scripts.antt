-- The calls of a device in memory, counted from 1, some of which are to fail.
use Rattle.std.specs.Prelude.{◌≡◌, ℕ, ◌+◌, ◌-◌, ◌^◌, List, min, Contains, Result, MatchResult}

pub record Scripted : Type 0 where
  pub calls : ℕ
  pub faults : ℕ
  pub fails : List ℕ

-- one more, up to the end of a `u64`
abbrev pub one_more : ℕ → ℕ
one_more n = min (n + 1) (2 ^ 64 - 1)

-- the script after one more call
abbrev pub called : Scripted → Scripted
called s = record { calls = one_more s.calls; faults = s.faults; fails = s.fails }

-- the script with one more fault
abbrev pub faulted : Scripted → Scripted
faulted s = record { calls = s.calls; faults = one_more s.faults; fails = s.fails }

-- the next call is to fail
abbrev pub IsNext : Scripted → Type 0
IsNext s = Contains s.fails (one_more s.calls)

-- the script after the begin of a call, which counts a fault where the call is to fail
pub record Begun (old new : Scripted) : Type 0 where
  pub fails : IsNext old → new ≡ faulted (called old)
  pub goes_on : (IsNext old → ⊥) → new ≡ called old

-- the script after a call, which counts a fault where the call failed
abbrev pub Counts : {T E : Type 0} → Scripted → Scripted → Result T E → Type 0
Counts old new result = MatchResult result (λ _. new ≡ called old) (λ _. new ≡ faulted (called old))
