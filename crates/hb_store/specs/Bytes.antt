-- What appends and reads make of the bytes of a stage and of a reader.
use Rattle.std.specs.Prelude.{◌≡◌, ◌<◌, ◌≤◌, ◌+◌, ℕ, List, ◌++◌, take, drop, Some, None, Result, Ok, Err, IfOk, IfSome, MatchResult}
use Rattle.std.specs.declared.option.Option.{Option}
use Rattle.hb_outside.specs.Streams.{ReadGives}
use Rattle.hb_store.specs.declared.store.StoreFault.{StoreFault}
use Rattle.hb_store.specs.declared.store.StoreFault.TheVariants.{Failed, Memory}

-- the piece at the end; a part of it after Failed, nothing after Memory; what isn't told stays untold
abbrev pub Appends : {T : Type 0} → Option (List ℕ) → Option (List ℕ) → List ℕ → Result T StoreFault → Type 0
Appends None new piece result = new ≡ None
Appends (Some old) new piece (Ok _) = new ≡ Some (old ++ piece)
Appends (Some old) new piece (Err Failed) = (n : ℕ) × (new ≡ Some (old ++ take n piece))
Appends (Some old) new piece (Err Memory) = new ≡ Some old

-- the bytes from the place on
abbrev pub StageReads : Option (List ℕ) → ℕ → List ℕ → Result ℕ StoreFault → Type 0
StageReads told place into result = IfSome told (λ bytes. IfOk result (λ n. take n into ≡ take n (drop place bytes)))

-- how many bytes a read of a stage gives
pub record CountsFrom (size place room n : ℕ) : Type 0 where
  pub fits : n ≤ room
  pub some : place < size → 0 < room → 0 < n
  pub within : 0 < n → place + n ≤ size

abbrev pub StageCount : ℕ → ℕ → ℕ → Result ℕ StoreFault → Type 0
StageCount size place room result = IfOk result (λ n. CountsFrom size place room n)

-- the next bytes, or none where the read is refused
abbrev pub ReaderReads : Option (List ℕ) → Option (List ℕ) → List ℕ → Result ℕ StoreFault → Type 0
ReaderReads left rest into result = ReadGives left rest result into

-- how many bytes a read of a reader gives, and how many are left then
pub record CountsDown (left left' room n : ℕ) : Type 0 where
  pub fits : n ≤ room
  pub some : 0 < left → 0 < room → 0 < n
  pub rest : left' + n ≡ left

abbrev pub ReaderCount : ℕ → ℕ → ℕ → Result ℕ StoreFault → Type 0
ReaderCount left left' room result = MatchResult result (λ n. CountsDown left left' room n) (λ _. left' ≡ left)
