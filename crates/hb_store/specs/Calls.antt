-- What the calls of a store make of what it holds.
use Rattle.std.specs.Prelude.{◌≡◌, ◌≤◌, ℕ, Bool, List, fold, length, Some, None, Result, Ok, Err, IfSome, IsSomeAnd, if◌then◌else◌}
use Rattle.std.specs.List.{AllByRecursion}
use Rattle.std.specs.declared.option.Option.{Option}
use Rattle.hb_text.specs.declared.digests.Digest.{Digest}
use Rattle.hb_store.specs.Contents.{Contents, IsLapsing, lapsed, at_moment, staging, unstaged, holding, counting, staged_bytes, bytes_of}
use Rattle.hb_store.specs.declared.store.StoreFault.{StoreFault}
use Rattle.hb_store.specs.declared.store.StoreFault.TheVariants.{Failed, Memory}

-- What a call finds at a moment: some of the removals that were lapsing have taken effect, and the
-- clock has gone on.
pub record Finds (c : Contents) (now : ℕ) (found : Contents) : Type 0 where
  pub digests : List Digest
  pub live : AllByRecursion (IsLapsing c) digests
  pub is : found ≡ at_moment now (fold lapsed c digests)

-- a call has its effect on what it finds; what isn't told stays untold
abbrev pub Becomes : Option Contents → ℕ → (Contents → Contents → Type 0) → Option Contents → Type 0
Becomes None now Effect new = new ≡ None
Becomes (Some c) now Effect new = (found : Contents) × Finds c now found × IsSomeAnd new (Effect found)

abbrev pub Unchanged : Contents → Contents → Type 0
Unchanged found new = new ≡ found

-- the upload has a stage with the first `keep` bytes of its old one; where the call failed, that or nothing
abbrev pub Staging : {T : Type 0} → ℕ → ℕ → Result T StoreFault → Contents → Contents → Type 0
Staging id keep (Ok _) found new = (keep ≤ length (staged_bytes found id)) × (new ≡ staging id keep found)
Staging id keep (Err Failed) found new = (which : Bool) × (new ≡ (if which then staging id keep found else found))
Staging id keep (Err Memory) found new = new ≡ found

-- The digest has the bytes, and the upload no stage. Where the call failed, each of the two or neither.
abbrev pub Placing : {T : Type 0} → ℕ → Option (List ℕ) → Digest → Result T StoreFault → Contents → Contents → Type 0
-- a store that tells its contents has stages that tell their bytes
Placing id None d result found new = ⊥
Placing id (Some bytes) d (Ok _) found new = new ≡ unstaged id (holding d bytes (counting d bytes found))
Placing id (Some bytes) d (Err Failed) found new =
    (held : Bool) × (ended : Bool)
    × (new ≡ (if ended then unstaged id (if held then holding d bytes (counting d bytes found) else counting d bytes found)
    else (if held then holding d bytes (counting d bytes found) else counting d bytes found)))
Placing id (Some bytes) d (Err Memory) found new = new ≡ found

-- the upload has no stage; where the call failed, that or nothing
abbrev pub Dropping : {T : Type 0} → ℕ → Result T StoreFault → Contents → Contents → Type 0
Dropping id (Ok _) found new = new ≡ unstaged id found
Dropping id (Err Failed) found new = (which : Bool) × (new ≡ (if which then unstaged id found else found))
Dropping id (Err Memory) found new = new ≡ found

-- a stage has the bytes that the store has of its upload
abbrev pub Stages : Option Contents → ℕ → ℕ → Option (List ℕ) → Type 0
Stages contents id keep bytes = IfSome contents (λ c. (bytes ≡ Some (staged_bytes c id)) × (length (staged_bytes c id) ≡ keep))

-- a reader has all bytes of the digest's content
abbrev pub Fetches : Option Contents → Digest → Option (List ℕ) → ℕ → Type 0
Fetches contents d bytes left = IfSome contents (λ c. IsSomeAnd (bytes_of c d) (λ held. (bytes ≡ Some held) × (left ≡ length held)))
