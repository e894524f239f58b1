-- What an event makes of what the store holds, where nobody else acts.
use Rattle.std.specs.Prelude.{◌≡◌, ◌⊎◌, ℕ, None, Result, Ok, Err, IfSome, IsErr, IsErrOf, IsOk}
use Rattle.std.specs.declared.option.Option.{Option}
use Rattle.std.specs.Ordering.{nat_cmp}
use Rattle.hb_base.specs.Tables.{row_at}
use Rattle.hb_store.specs.Calls.{Becomes}
use Rattle.hb_store.specs.Contents.{Contents, stage_key}
use Rattle.hb_store.specs.declared.store.StoreFault.{StoreFault}
use Rattle.hb_store.specs.declared.store.StoreFault.TheVariants as store
use Rattle.hb_model.specs.Registry.{upload_in}
use Rattle.hb_model.specs.Replay.{replay}
use Rattle.hb_desk.specs.State.{State}
use Rattle.hb_desk.specs.declared.refusals.Refusal.{Refusal}
use Rattle.hb_desk.specs.declared.refusals.Refusal.TheVariants.{Memory, Storage}

-- what the store's call answered, by what the event did
abbrev pub AnsweredAs : {T : Type 0} → Result (Unit {0}) StoreFault → Result T Refusal → Type 0
AnsweredAs (Ok x) result = IsOk result
AnsweredAs (Err store.Failed) result = IsErrOf result Storage
AnsweredAs (Err store.Memory) result = IsErrOf result Memory

-- The event was refused before the store was asked, and not as the storage's fault; or one call of the store had its effect, at
-- the moment of the event.
abbrev pub OneCall : {T : Type 0} → (Result (Unit {0}) StoreFault → Contents → Contents → Type 0) → Option Contents → ℕ → Result T Refusal → Option Contents → Type 0
OneCall Effect old t result new =
    (IsErr result × (¬ (IsErrOf result Storage)) × (new ≡ old))
    ⊎ ((answer : Result (Unit {0}) StoreFault) × AnsweredAs answer result × Becomes old t (Effect answer) new)

-- as many of the upload's bytes are acknowledged, where the registry is told and it has the upload
abbrev pub AreAcknowledged : Option State → ℕ → ℕ → Type 0
AreAcknowledged state upload keep = IfSome state (λ s. IfSome (upload_in (replay s.audit) upload) (λ x. x.offset ≡ keep))

-- the upload has no stage in what the store tells
abbrev pub HasNoStage : Option Contents → ℕ → Type 0
HasNoStage contents upload = IfSome contents (λ c. row_at nat_cmp stage_key upload c.stages ≡ None)
