-- A get of a blob or of a manifest: which calls it makes, and how it ends, read from its points alone.
use Rattle.std.specs.Prelude.{◌≡◌, ◌⊎◌, ℕ, Bool, true, false, List, [], ◌∷◌, Option, Some, None, Ok, Err, IfSome}
use Rattle.hb_text.specs.Digests.{digest_of}
use Rattle.hb_text.specs.declared.digests.Digest.{Digest}
use Rattle.hb_store.specs.Causes.{SomeRose}
use Rattle.hb_desk.specs.Calls.{Asked, BlobOpened, Call, Content, ManifestOpened, Outcome}
use Rattle.hb_desk.specs.Clause.{View}
use Rattle.hb_desk.specs.Points.{Point}
use Rattle.hb_desk.specs.declared.asks.Ask.{Ask}
use Rattle.hb_desk.specs.declared.asks.Ask.TheVariants.{NotePull}
use Rattle.hb_desk.specs.declared.refusals.Refusal.{Refusal}
use Rattle.hb_desk.specs.declared.refusals.Refusal.TheVariants.{Memory, Storage}
use Rattle.hb_ops.specs.declared.gets.Got.{Got}
use Rattle.hb_ops.specs.declared.gets.Got.TheVariants as got
use Rattle.hb_ops.specs.declared.gets.Phase.{Phase}
use Rattle.hb_ops.specs.declared.gets.Phase.TheVariants as phase
use Rattle.hb_ops.specs.declared.gets.Sought.{Sought}
use Rattle.hb_ops.specs.declared.gets.Sought.TheVariants.{Blob, Manifest}

-- ---- its calls
abbrev pub open_call : Sought → Call
open_call (Blob name d) = BlobOpened name d
open_call (Manifest name r) = ManifestOpened name r

-- which pull is noted of what was opened: of a blob none
abbrev pub note_of : Sought → Digest → Option Ask
note_of (Blob name d) opened = None
note_of (Manifest name r) opened = Some (NotePull name opened)

-- what is asked behind the open
abbrev pub asked_behind : Sought → Outcome → Option Ask
asked_behind sought (Ok (Content d size media)) = note_of sought d
asked_behind sought outcome = None

-- ---- how it ends
-- By what the open answered at this moment, and by the refusal of a read. These bytes were read.
abbrev pub opened_as : List ℕ → ℕ → Outcome → Option Refusal → Got
opened_as bytes t (Err refusal) fault = got.Refused refusal t
opened_as bytes t (Ok gave) (Some refusal) = got.Refused refusal t
opened_as bytes t (Ok (Content d size media)) None = got.Content d media bytes
-- no open gives anything else
opened_as bytes t (Ok gave) None = got.Refused Memory t

-- the bytes that it ended with
abbrev pub read_of : Got → List ℕ
read_of (got.Content d media bytes) = bytes
read_of (got.Refused refusal t) = []

-- The open, its first event, decides. Without one nothing is decided yet, and this value stands for that.
abbrev pub decided : List ℕ → List Point → Got
decided bytes [] = got.Refused Memory 0
decided bytes (p ∷ []) = opened_as bytes p.event.moment p.event.outcome p.fault
decided bytes (p ∷ q ∷ points) = decided bytes (q ∷ points)

-- ---- its points
-- what a read is refused for: want of memory, or the storage's fault, where a reader's count of faults rose
abbrev pub IsReadFault : (Reader : Type 0) → (Reader → ℕ) → Option Refusal → Type 0
IsReadFault Reader faults fault = IfSome fault (λ refusal. (refusal ≡ Memory) ⊎ ((refusal ≡ Storage) × SomeRose Reader faults))

-- the open, by which it got this
pub record IsOpened (sought : Sought) (p : Point) (x : Got) : Type 0 where
  pub call : p.event.call ≡ open_call sought
  pub gives : x ≡ opened_as (read_of x) p.event.moment p.event.outcome p.fault

-- the points that lead to a phase: the open, and behind it the note of the pull where one is asked
abbrev pub LeadTo : Sought → Phase → List Point → Type 0
LeadTo sought (phase.Open _) points = points ≡ []
LeadTo sought (phase.Note ask x) points = (p : Point) × (points ≡ p ∷ []) × IsOpened sought p x × (asked_behind sought p.event.outcome ≡ Some ask)
LeadTo sought (phase.Ended x) points =
    ((p : Point) × (points ≡ p ∷ []) × IsOpened sought p x × (asked_behind sought p.event.outcome ≡ None))
    ⊎ ((p note : Point) × (ask : Ask) × (points ≡ note ∷ p ∷ []) × IsOpened sought p x × (asked_behind sought p.event.outcome ≡ Some ask) × (note.event.call ≡ Asked ask))

-- what notes the pull is made before the first event
abbrev pub IsNoted : Sought → Phase → Type 0
IsNoted (Blob name d) (phase.Open note) = note ≡ None
IsNoted (Manifest name r) (phase.Open note) = (d : Digest) × (note ≡ Some (NotePull name d))
IsNoted sought p = Unit {0}

-- the note of the pull of this digest
abbrev pub of_pull : Digest → Ask → Ask
of_pull d (NotePull name named) = NotePull name d
of_pull d ask = ask

pub record GetParts : Type 0 where
  pub sought : Sought
  pub phase : Phase

pub record Went (begun get : GetParts) (points : List Point) : Type 0 where
  pub same : get.sought ≡ begun.sought
  pub lead : LeadTo get.sought get.phase points

-- ---- as it goes
abbrev pub is_ended : Phase → Bool
is_ended (phase.Ended x) = true
is_ended p = false

-- how many events are left at most
abbrev pub left_of : Phase → ℕ
left_of (phase.Open _) = 2
left_of (phase.Note ask x) = 1
left_of (phase.Ended x) = 0

-- where bytes are told, what was read has the digest that was opened
abbrev pub HasDigest : Bool → Got → Type 0
HasDigest told (got.Content d media bytes) = told ≡ true → digest_of bytes ≡ d
HasDigest told (got.Refused refusal t) = Unit {0}

abbrev pub PhaseFits : Phase → View → Type 0
PhaseFits (phase.Open _) v = Unit {0}
PhaseFits (phase.Note ask x) v = HasDigest v.told_bytes x
PhaseFits (phase.Ended x) v = HasDigest v.told_bytes x
