-- Where a push is, by its points, and which call it makes there.
use Rattle.std.specs.Prelude.{◌≡◌, ℕ, Bool, true, false, List, [], ◌∷◌, length, Option, Some, None, Ok, Err, if◌then◌else◌}
use Rattle.hb_text.specs.declared.digests.Digest.{Digest}
use Rattle.hb_text.specs.Digests.{digest_of}
use Rattle.hb_records.specs.declared.puts.PutAsk.{PutAsk}
use Rattle.hb_model.specs.Words.{same_digest}
use Rattle.hb_desk.specs.Calls.{Call, Asked, StageTaken, StagePlaced, StageDropped, Outcome, Tells}
use Rattle.hb_desk.specs.Points.{Point}
use Rattle.hb_desk.specs.declared.asks.Ask.{Ask}
use Rattle.hb_desk.specs.declared.asks.Ask.TheVariants.{BeginUpload, EndUpload, Seal, SealManifest, Settle, PutArtifact}
use Rattle.hb_desk.specs.declared.told.Told.TheVariants.{Begun}
use Rattle.hb_desk.specs.declared.refusals.Refusal.{Refusal}
use Rattle.hb_desk.specs.declared.refusals.Refusal.TheVariants.{Memory}
use Rattle.hb_upload.specs.declared.phase.Stop.{Stop}
use Rattle.hb_upload.specs.declared.phase.Stop.TheVariants.{Pushed, WrongDigest, Refused}

-- What a push is given: a repository, the digest that was announced, and the bytes; and of a manifest how it is put.
pub record Parcel : Type 0 where
  pub name : List ℕ
  pub digest : Digest
  pub bytes : List ℕ
  pub put : Option PutAsk

-- what seals the upload: of a blob, or of a manifest
abbrev pub seal_by : ℕ → Digest → ℕ → Option PutAsk → Ask
seal_by upload digest size None = Seal upload digest size
seal_by upload digest size (Some put) = SealManifest upload put

abbrev pub seal_with : ℕ → Parcel → Ask
seal_with upload b = seal_by upload b.digest (length b.bytes) b.put

-- and what settles it
abbrev pub settle_by : ℕ → List ℕ → Digest → Option PutAsk → Ask
settle_by upload name digest None = Settle name upload digest
settle_by upload name digest (Some put) = PutArtifact upload put

abbrev pub settle_with : ℕ → Parcel → Ask
settle_with upload b = settle_by upload b.name b.digest b.put

-- the upload is known from the first answer on
pub data Place : Type 0 where
  Beginning : Place
  Staging : (upload : ℕ) → Place
  Sealing : (upload : ℕ) → Place
  Placing : (upload : ℕ) → Place
  Settling : (upload : ℕ) → Place
  -- the upload ends, with its stage held or without one
  Ending : (upload : ℕ) → (held : Bool) → (stop : Stop) → Place
  Dropping : (upload : ℕ) → (stop : Stop) → Place
  Stopped : (stop : Stop) → Place

-- what was staged is sealed where it has the digest that was announced
abbrev pub staged : Parcel → ℕ → Place
staged b upload = if same_digest (digest_of b.bytes) b.digest then Sealing upload else Ending upload true (WrongDigest (digest_of b.bytes))

-- Where it goes on, by the moment of an event, by what that answered, and by the refusal of a call on the stage that it
-- gave. No upload that begins is told anything but its number.
abbrev pub next : Parcel → Place → ℕ → Outcome → Option Refusal → Place
next b Beginning t (Err refusal) fault = Stopped (Refused refusal t)
next b Beginning t (Ok (Tells (Begun upload))) fault = Staging upload
next b Beginning t (Ok gave) fault = Stopped (Refused Memory t)
next b (Staging upload) t (Err refusal) fault = Ending upload false (Refused refusal t)
next b (Staging upload) t (Ok gave) (Some refusal) = Ending upload true (Refused refusal t)
next b (Staging upload) t (Ok gave) None = staged b upload
next b (Sealing upload) t (Ok gave) fault = Placing upload
next b (Sealing upload) t (Err refusal) fault = Ending upload true (Refused refusal t)
next b (Placing upload) t (Ok gave) fault = Settling upload
next b (Placing upload) t (Err refusal) fault = Stopped (Refused refusal t)
next b (Settling upload) t (Ok gave) fault = Stopped Pushed
next b (Settling upload) t (Err refusal) fault = Stopped (Refused refusal t)
next b (Ending upload true stop) t outcome fault = Dropping upload stop
next b (Ending upload false stop) t outcome fault = Stopped stop
next b (Dropping upload stop) t outcome fault = Stopped stop
next b (Stopped stop) t outcome fault = Stopped stop

abbrev pub place_of : Parcel → List Point → Place
place_of b [] = Beginning
place_of b (p ∷ points) = next b (place_of b points) p.event.moment p.event.outcome p.fault

-- the call that a push makes there
abbrev pub CallAt : Parcel → Place → Call → Type 0
CallAt b Beginning call = call ≡ Asked (BeginUpload b.name)
CallAt b (Staging upload) call = call ≡ StageTaken b.name upload None
CallAt b (Sealing upload) call = call ≡ Asked (seal_with upload b)
CallAt b (Placing upload) call = call ≡ StagePlaced upload b.digest
CallAt b (Settling upload) call = call ≡ Asked (settle_with upload b)
CallAt b (Ending upload held stop) call = call ≡ Asked (EndUpload 0 upload)
CallAt b (Dropping upload stop) call = call ≡ StageDropped upload true
CallAt b (Stopped stop) call = ⊥

-- each call is the one that a push makes there
abbrev pub Calls : Parcel → List Point → Type 0
Calls b [] = Unit {0}
Calls b (p ∷ points) = CallAt b (place_of b points) p.event.call × Calls b points
