-- A push as it goes: where its phase is, what it rests on at the desk, and what one event makes of it.
use Rattle.std.specs.Prelude.{◌≡◌, ◌⊎◌, ℕ, Bool, true, false, List, length, Option, Some, None, Ok, IfSome, IsSomeAnd}
use Rattle.hb_text.specs.declared.digests.Digest.{Digest}
use Rattle.hb_text.specs.Digests.{digest_of}
use Rattle.hb_store.specs.Causes.{SomeRose}
use Rattle.hb_desk.specs.Calls.{Call, StageAt}
use Rattle.hb_desk.specs.Clause.{View}
use Rattle.hb_desk.specs.Notes.{sealed_at}
use Rattle.hb_desk.specs.Points.{IsBetween, IsTimely, Point}
use Rattle.hb_desk.specs.declared.refusals.Refusal.{Refusal}
use Rattle.hb_desk.specs.declared.refusals.Refusal.TheVariants.{Memory, Storage}
use Rattle.hb_upload.specs.Places.{Parcel, CallAt, Place, Beginning, Staging, Sealing, Placing, Settling, Ending, Dropping, Stopped, next}
use Rattle.hb_upload.specs.declared.phase.Phase.{Phase}
use Rattle.hb_upload.specs.declared.phase.Phase.TheVariants as phase

abbrev pub place_at : {T : Type 0} → Phase T → Place
place_at phase.Begin = Beginning
place_at (phase.Stage u) = Staging u
place_at (phase.Seal u s) = Sealing u
place_at (phase.Place u s) = Placing u
place_at (phase.Settle u) = Settling u
place_at (phase.End u (Some s) stop) = Ending u true stop
place_at (phase.End u None stop) = Ending u false stop
place_at (phase.Drop u s stop) = Dropping u stop
place_at (phase.Ended stop) = Stopped stop

abbrev pub is_ended : {T : Type 0} → Phase T → Bool
is_ended (phase.Ended stop) = true
is_ended p = false

-- how many events are left at most
abbrev pub left_of : {T : Type 0} → Phase T → ℕ
left_of phase.Begin = 7
left_of (phase.Stage u) = 6
left_of (phase.Seal u s) = 5
left_of (phase.Place u s) = 4
left_of (phase.Settle u) = 3
left_of (phase.End u s stop) = 2
left_of (phase.Drop u s stop) = 1
left_of (phase.Ended stop) = 0

-- a stage of the upload that has these bytes, which have the digest
pub record HasBytes {T : Type 0} (upload_of size_of : T → ℕ) (bytes_of : T → Option (List ℕ)) (digest : Digest) (bytes : List ℕ) (u : ℕ) (stage : T) (v : View) : Type 0 where
  pub upload : upload_of stage ≡ u
  pub size_is : size_of stage ≡ length bytes
  pub told : v.told_bytes ≡ true → IsSomeAnd (bytes_of stage) (λ x. (digest_of x ≡ digest) × (length x ≡ length bytes))

-- what a push rests on at the desk
abbrev pub PhaseFits : {T : Type 0} → (T → ℕ) → (T → ℕ) → (T → Option (List ℕ)) → Digest → List ℕ → Phase T → View → Type 0
PhaseFits upload_of size_of bytes_of digest bytes (phase.Seal u s) v = HasBytes upload_of size_of bytes_of digest bytes u s v
PhaseFits upload_of size_of bytes_of digest bytes (phase.Place u s) v = HasBytes upload_of size_of bytes_of digest bytes u s v × (sealed_at u v.sealed ≡ Some (record { upload = u; digest = digest; size = length bytes }))
PhaseFits upload_of size_of bytes_of digest bytes (phase.End u (Some s) stop) v = upload_of s ≡ u
PhaseFits upload_of size_of bytes_of digest bytes (phase.Drop u s stop) v = upload_of s ≡ u
PhaseFits upload_of size_of bytes_of digest bytes p v = Unit {0}

-- What a call on a stage is refused for: want of memory, or the storage's fault, where the stage's count of faults rose.
abbrev pub IsStageFault : (Stage : Type 0) → (Stage → ℕ) → Option Refusal → Type 0
IsStageFault Stage faults fault = IfSome fault (λ refusal. (refusal ≡ Memory) ⊎ ((refusal ≡ Storage) × SomeRose Stage faults))

-- One event, handed this moment, from a place of a push to the next. Streams says what a call on the stage that it gave may be
-- refused for.
pub record OneEvent {T : Type 0} (Streams : Option Refusal → Type 0) (b : Parcel) (now : ℕ) (old new : View) (call : Call) (at : Place) (p : Phase T) : Type 0 where
  pub point : Point
  pub between : IsBetween point old new
  pub timely : IsTimely now old point
  pub calls : point.event.call ≡ call
  pub stream : Streams point.fault
  pub leads : place_at p ≡ next b at point.event.moment point.event.outcome point.fault

-- where a push goes on behind a stage that was taken at this moment: by what the calls on it were refused for, if they were
pub record GoesOn {T : Type 0} (Streams : Option Refusal → Type 0) (b : Parcel) (upload offset moment : ℕ) (p : Phase T) : Type 0 where
  pub fault : Option Refusal
  pub stream : Streams fault
  pub leads : place_at p ≡ next b (Staging upload) moment (Ok (StageAt offset)) fault

-- one event by the call that a push makes there
pub record CalledAt {T : Type 0} (Streams : Option Refusal → Type 0) (b : Parcel) (now : ℕ) (old new : View) (at : Place) (p : Phase T) : Type 0 where
  pub call : Call
  pub called : CallAt b at call
  pub one : OneEvent Streams b now old new call at p
