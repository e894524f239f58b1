-- What is done for a request, and what it is answered: by what it wants, by its points, and by what was read of the content
-- that it opened.
use Rattle.std.specs.Prelude.{◌≡◌, ℕ, Bool, false, not, List, [], ◌∷◌, ◌++◌, length, Option, Some, None, Result, Ok, Err, codes, unwrap_or, if◌then◌else◌}
use Rattle.hb_text.specs.Digests.{digest_of, digest_text}
use Rattle.hb_text.specs.declared.digests.Digest.{Digest}
use Rattle.hb_text.specs.declared.references.Reference.{Reference}
use Rattle.hb_text.specs.declared.references.Reference.TheVariants.{Tag, Digest as ByDigest}
use Rattle.hb_records.specs.declared.puts.PutAsk.{PutAsk}
use Rattle.hb_model.specs.Words.{same_digest}
use Rattle.hb_manifest.specs.Forms.{manifest_form}
use Rattle.hb_manifest.specs.declared.manifests.Manifest.{Manifest}
use Rattle.hb_manifest.specs.declared.manifests.ManifestFault.{ManifestFault}
use Rattle.hb_manifest.specs.declared.manifests.ManifestFault.TheVariants as manifest
use Rattle.hb_routes.specs.declared.faults.RouteFault.{RouteFault}
use Rattle.hb_routes.specs.declared.faults.RouteFault.TheVariants as route
use Rattle.hb_desk.specs.Points.{Point}
use Rattle.hb_desk.specs.declared.answers.Answer.{Answer}
use Rattle.hb_desk.specs.declared.asks.Ask.{Ask}
use Rattle.hb_desk.specs.declared.asks.Ask.TheVariants.{TouchBlob, Look}
use Rattle.hb_upload.specs.Deciding.{decided}
use Rattle.hb_upload.specs.Places.{Calls, Parcel, Stopped, place_of}
use Rattle.hb_upload.specs.declared.phase.Stop.{Stop}
use Rattle.hb_upload.specs.declared.phase.Stop.TheVariants.{Pushed, WrongDigest, Refused}
use Rattle.hb_ops.specs.Errors.{ErrorForm, detailed, digest_item, error_answer, error_of, number_item, plain}
use Rattle.hb_ops.specs.Gets.{HasDigest, LeadTo, decided as got_by}
use Rattle.hb_ops.specs.declared.gets.Got.{Got}
use Rattle.hb_ops.specs.declared.gets.Got.TheVariants as got
use Rattle.hb_ops.specs.declared.gets.Phase.TheVariants.{Ended}
use Rattle.hb_ops.specs.Checks.{LeadTo as CheckedBy, decided as checked_by}
use Rattle.hb_ops.specs.declared.checks.Checked.{Checked}
use Rattle.hb_ops.specs.declared.checks.Checked.TheVariants as checked
use Rattle.hb_ops.specs.declared.gets.Sought.{Sought}
use Rattle.hb_ops.specs.declared.gets.Sought.TheVariants.{Blob, Manifest as AManifest}
use Rattle.hb_talk.specs.declared.wanted.Wanted.{Wanted}
use Rattle.hb_talk.specs.declared.wanted.Wanted.TheVariants.{Base, PushBlob, GetBlob, HeadBlob, PutManifest, GetManifest, HeadManifest, Unbuilt, Unrouted}

-- an operation over the desk, or an answer at once
pub data Task : Type 0 where
  Pushes : (parcel : Parcel) → Task
  Gets : (sought : Sought) → Task
  Checks : (ask : Ask) → Task
  Refuses : (error : ErrorForm) → Task
  Tells : (answer : Answer) → Task

-- ---- errors that no event decides
abbrev pub wrong_digest : Digest → ErrorForm
wrong_digest found = detailed 400 (codes "DIGEST_INVALID") (digest_item (codes "found") found ∷ [])

abbrev pub manifest_error : ManifestFault → ErrorForm
manifest_error (manifest.BadDescriptor place) = detailed 400 (codes "MANIFEST_INVALID") (number_item (codes "place") place ∷ [])
manifest_error manifest.TooLong = plain 413 (codes "SIZE_INVALID")
manifest_error fault = plain 400 (codes "MANIFEST_INVALID")

abbrev pub unsupported : ErrorForm
unsupported = plain 404 (codes "UNSUPPORTED")

abbrev pub too_long : ErrorForm
too_long = plain 413 (codes "SIZE_INVALID")

-- why a request has no route
abbrev pub route_error : RouteFault → ErrorForm
route_error route.MethodUnknown = plain 405 (codes "UNSUPPORTED")
route_error route.NameInvalid = plain 400 (codes "NAME_INVALID")
route_error route.TagInvalid = plain 400 (codes "MANIFEST_INVALID")
route_error route.DigestInvalid = plain 400 (codes "DIGEST_INVALID")
route_error fault = unsupported

-- a status alone
abbrev pub blank : ℕ → Answer
blank status = record { status = status; code = None; detail = []; length = None; media = None; digest = None; link = None; location = None; range = None; retry = None; body = None }

-- this is a registry (OCI Distribution Specification 1.1, "Determining Support")
abbrev pub base : Answer
base = record (blank 200) { media = Some (codes "application/json"); body = Some (codes "{}") }

-- ---- what is done
abbrev pub tag_of : Reference → Option (List ℕ)
tag_of (Tag tag) = Some tag
tag_of (ByDigest d) = None

abbrev pub put_of : List ℕ → Reference → List ℕ → Manifest → PutAsk
put_of name r body m = record { name = name; digest = digest_of body; size = length body; media = m.media; refs = m.refs; children = m.children; tag = tag_of r }

abbrev pub manifest_task : List ℕ → Reference → List ℕ → Result Manifest ManifestFault → Task
manifest_task name r body (Ok m) = Pushes (record { name = name; digest = digest_of body; bytes = body; put = Some (put_of name r body m) })
manifest_task name r body (Err fault) = Refuses (manifest_error fault)

-- the reference is a digest, and not that of the body
abbrev pub names_other : Reference → Digest → Bool
names_other (Tag tag) found = false
names_other (ByDigest d) found = not (same_digest found d)

-- by what is wanted, the Content-Type and the body
abbrev pub task_of : Wanted → Option (List ℕ) → List ℕ → Task
task_of Base media body = Tells base
task_of Unbuilt media body = Refuses unsupported
task_of (Unrouted fault) media body = Refuses (route_error fault)
task_of (PushBlob name d) media body = Pushes (record { name = name; digest = d; bytes = body; put = None })
task_of (GetBlob name d) media body = Gets (Blob name d)
task_of (HeadBlob name d) media body = Checks (TouchBlob name d)
task_of (GetManifest name r) media body = Gets (AManifest name r)
task_of (HeadManifest name r) media body = Checks (Look name r)
task_of (PutManifest name r) media body =
    if names_other r (digest_of body) then Refuses (wrong_digest (digest_of body)) else manifest_task name r body (manifest_form media body)

-- the points of it, done to its end
abbrev pub Makes : Task → List Point → Type 0
Makes (Pushes b) points = Calls b points × ((stop : Stop) × (place_of b points ≡ Stopped stop))
Makes (Gets sought) points = (x : Got) × LeadTo sought (Ended x) points
Makes (Checks ask) points = (x : Checked) × CheckedBy ask (Some x) points
Makes (Refuses error) points = points ≡ []
Makes (Tells answer) points = points ≡ []

-- ---- successes
-- under which path the content stands (OCI Distribution Specification 1.1, "Endpoints")
abbrev pub path_of : Option PutAsk → List ℕ
path_of None = codes "/blobs/"
path_of (Some put) = codes "/manifests/"

abbrev pub location_of : Parcel → List ℕ
location_of b = codes "/v2/" ++ b.name ++ path_of b.put ++ digest_text b.digest

abbrev pub created : Parcel → Answer
created b = record (blank 201) { length = Some 0; digest = Some b.digest; location = Some (location_of b) }

-- the type of content that has none of its own
abbrev pub octets : List ℕ
octets = codes "application/octet-stream"

abbrev pub content : Digest → Option (List ℕ) → List ℕ → Answer
content d media bytes = record (blank 200) { media = Some (unwrap_or media octets); digest = Some d; body = Some bytes }

-- content of which the head alone is told
abbrev pub content_head : Digest → Option (List ℕ) → ℕ → Answer
content_head d media size = record (blank 200) { length = Some size; media = Some (unwrap_or media octets); digest = Some d }

-- ---- answers
abbrev pub push_answer : Parcel → Stop → Answer
push_answer b Pushed = created b
push_answer b (WrongDigest found) = error_answer (wrong_digest found)
push_answer b (Refused refusal t) = error_answer (error_of t refusal)

abbrev pub got_answer : Got → Answer
got_answer (got.Content d media bytes) = content d media bytes
got_answer (got.Refused refusal t) = error_answer (error_of t refusal)

abbrev pub checked_answer : Checked → Answer
checked_answer (checked.Content d size media) = content_head d media size
checked_answer (checked.Refused refusal t) = error_answer (error_of t refusal)

abbrev pub answer_of : Task → List Point → List ℕ → Answer
answer_of (Pushes b) points read = push_answer b (decided b points)
answer_of (Gets sought) points read = got_answer (got_by read points)
answer_of (Checks ask) points read = checked_answer (checked_by ask points)
answer_of (Refuses error) points read = error_answer error
answer_of (Tells answer) points read = answer

-- what was read for it has the digest that was opened, where bytes are told
abbrev pub ReadsTrue : Bool → Task → List Point → List ℕ → Type 0
ReadsTrue told (Gets sought) points read = HasDigest told (got_by read points)
ReadsTrue told task points read = Unit {0}
