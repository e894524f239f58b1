-- A push as a value, and its points.
use Rattle.std.specs.Prelude.{◌≡◌, ℕ, List, length, Option, Some, None}
use Rattle.hb_text.specs.Digests.{digest_of}
use Rattle.hb_records.specs.declared.puts.PutAsk.{PutAsk}
use Rattle.hb_desk.specs.Noting.{seal_of}
use Rattle.hb_desk.specs.Points.{Point}
use Rattle.hb_desk.specs.declared.asks.Ask.{Ask}
use Rattle.hb_desk.specs.declared.asks.Ask.TheVariants.{BeginUpload, Seal, SealManifest, Settle, PutArtifact}
use Rattle.hb_upload.specs.Phases.{place_at}
use Rattle.hb_upload.specs.Places.{Parcel, Calls, place_of, seal_with, settle_with}
use Rattle.hb_upload.specs.declared.phase.Given.{Given}
use Rattle.hb_upload.specs.declared.phase.Phase.{Phase}

pub record PushParts (T : Type 0) : Type 0 where
  pub parcel : Parcel
  pub phase : Phase T

-- the manifest that an ask seals
abbrev pub put_of : Ask → Option PutAsk
put_of (SealManifest upload put) = Some put
put_of ask = None

abbrev pub parcel_of : Given → Ask → Parcel
parcel_of g seal = record { name = g.name; digest = g.digest; bytes = g.bytes; put = put_of seal }

-- the ask of this upload
abbrev pub of_upload : ℕ → Ask → Ask
of_upload upload (Seal named digest size) = Seal upload digest size
of_upload upload (SealManifest named put) = SealManifest upload put
of_upload upload (Settle name named digest) = Settle name upload digest
of_upload upload (PutArtifact named put) = PutArtifact upload put
of_upload upload ask = ask

-- The digest of its bytes is known, and its asks are made, before its first event. What it asks for seals the bytes.
pub record IsReady (g : Given) (begin seal settle : Ask) : Type 0 where
  pub found_is : g.found ≡ digest_of g.bytes
  pub begins : begin ≡ BeginUpload g.name
  pub seals : (upload : ℕ) → of_upload upload seal ≡ seal_with upload (parcel_of g seal)
  pub settles : (upload : ℕ) → of_upload upload settle ≡ settle_with upload (parcel_of g seal)
  pub sealed : (upload : ℕ) → seal_of (of_upload upload seal) ≡ Some (record { upload = upload; digest = g.digest; size = length g.bytes })

-- these are its points so far: each call is its own, and they lead to its phase
pub record Went {T : Type 0} (begun push : PushParts T) (points : List Point) : Type 0 where
  pub same : push.parcel ≡ begun.parcel
  pub calls : Calls push.parcel points
  pub at : place_at push.phase ≡ place_of push.parcel points
