-- What a push is answered, read from its points alone: the first refusal among the events that decide, or the digest
-- that the bytes have in the place of the one announced; else it is pushed. The events that clean up decide nothing.
use Rattle.std.specs.Prelude.{ℕ, List, [], ◌∷◌, Option, Some, None, Ok, Err, if◌then◌else◌}
use Rattle.hb_text.specs.Digests.{digest_of}
use Rattle.hb_model.specs.Words.{same_digest}
use Rattle.hb_desk.specs.Calls.{Call, Asked, StageTaken, StageDropped, Outcome, Tells}
use Rattle.hb_desk.specs.Points.{Point}
use Rattle.hb_desk.specs.declared.asks.Ask.TheVariants.{BeginUpload, EndUpload}
use Rattle.hb_desk.specs.declared.told.Told.TheVariants.{Begun}
use Rattle.hb_desk.specs.declared.refusals.Refusal.{Refusal}
use Rattle.hb_desk.specs.declared.refusals.Refusal.TheVariants.{Memory}
use Rattle.hb_upload.specs.Places.{Parcel}
use Rattle.hb_upload.specs.declared.phase.Stop.{Stop}
use Rattle.hb_upload.specs.declared.phase.Stop.TheVariants.{Pushed, WrongDigest, Refused}

-- the refusal of an event at this moment, or of a call on the stage that it gave
abbrev pub refused_by : ℕ → Outcome → Option Refusal → Option Stop
refused_by t (Err refusal) fault = Some (Refused refusal t)
refused_by t (Ok gave) (Some refusal) = Some (Refused refusal t)
refused_by t (Ok gave) None = None

-- an upload that begins is told its number
abbrev pub begun_by : ℕ → Outcome → Option Stop
begun_by t (Err refusal) = Some (Refused refusal t)
begun_by t (Ok (Tells (Begun upload))) = None
begun_by t (Ok gave) = Some (Refused Memory t)

-- behind the stage its bytes' digest decides
abbrev pub unless_right : Parcel → Option Stop → Option Stop
unless_right b (Some stop) = Some stop
unless_right b None = if same_digest (digest_of b.bytes) b.digest then None else Some (WrongDigest (digest_of b.bytes))

abbrev pub stops_at : Parcel → Call → ℕ → Outcome → Option Refusal → Option Stop
stops_at b (Asked (BeginUpload name)) t outcome fault = begun_by t outcome
stops_at b (Asked (EndUpload job upload)) t outcome fault = None
stops_at b (StageTaken name upload start) t outcome fault = unless_right b (refused_by t outcome fault)
stops_at b (StageDropped upload handed) t outcome fault = None
stops_at b call t outcome fault = refused_by t outcome None

-- the older one decides
abbrev pub earlier : Option Stop → Option Stop → Option Stop
earlier (Some stop) later = Some stop
earlier None later = later

abbrev pub first_stop : Parcel → List Point → Option Stop
first_stop b [] = None
first_stop b (p ∷ points) = earlier (first_stop b points) (stops_at b p.event.call p.event.moment p.event.outcome p.fault)

abbrev pub or_pushed : Option Stop → Stop
or_pushed None = Pushed
or_pushed (Some stop) = stop

abbrev pub decided : Parcel → List Point → Stop
decided b points = or_pushed (first_stop b points)
