-- The calls of a desk and what they answered, as plain data: a stage or a reader stands there as its size.
use Rattle.std.specs.Prelude.{ℕ, Bool, List, Result, Ok, Err}
use Rattle.std.specs.declared.option.Option.{Option}
use Rattle.hb_text.specs.declared.digests.Digest.{Digest}
use Rattle.hb_text.specs.declared.references.Reference.{Reference}
use Rattle.hb_desk.specs.declared.asks.Ask.{Ask}
use Rattle.hb_desk.specs.declared.told.Told.{Told}
use Rattle.hb_desk.specs.declared.refusals.Refusal.{Refusal}

pub data Call : Type 0 where
  Asked : (ask : Ask) → Call
  StageTaken : (name : List ℕ) → (upload : ℕ) → (start : Option ℕ) → Call
  StagePlaced : (upload : ℕ) → (digest : Digest) → Call
  StageDropped : (upload : ℕ) → (handed : Bool) → Call
  BlobOpened : (name : List ℕ) → (digest : Digest) → Call
  ManifestOpened : (name : List ℕ) → (reference : Reference) → Call

-- what a call that is Ok gives
pub data Gave : Type 0 where
  Tells : (told : Told) → Gave
  StageAt : (offset : ℕ) → Gave
  Number : (placed : ℕ) → Gave
  Dropped : Gave
  Content : (digest : Digest) → (size : ℕ) → (media : Option (List ℕ)) → Gave

abbrev pub Outcome : Type 0
Outcome = Result Gave Refusal

-- an answer as plain data
abbrev pub plain : {T : Type 0} → (T → Gave) → Result T Refusal → Outcome
plain gave (Ok x) = Ok (gave x)
plain gave (Err refusal) = Err refusal
