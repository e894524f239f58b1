-- What a desk answers to a call, read over the rows of its audit: each look-up is that of a table, what a
-- project uses and its version stand in its row, and a digest's size in its blob's row.
use Rattle.std.specs.Prelude.{ℕ, suc, Bool, true, false, ◌||◌, List, length, Option, Some, None, is_some, nat_eq, option_and_then, if◌then◌else◌}
use Rattle.hb_text.specs.declared.digests.Digest.{Digest}
use Rattle.hb_text.specs.declared.references.Reference.{Reference}
use Rattle.hb_text.specs.declared.references.Reference.TheVariants as reference
use Rattle.hb_text.specs.Names.{project_of}
use Rattle.hb_records.specs.declared.entries.EntryKind.TheVariants as entry
use Rattle.hb_records.specs.declared.notes.Notes.{Notes}
use Rattle.hb_records.specs.declared.notes.Placement.{Placement}
use Rattle.hb_records.specs.declared.puts.PutAsk.{PutAsk}
use Rattle.hb_records.specs.declared.records.Project.{Project}
use Rattle.hb_records.specs.declared.records.Assoc.{Assoc}
use Rattle.hb_records.specs.declared.records.Artifact.{Artifact}
use Rattle.hb_records.specs.declared.records.Upload.{Upload}
use Rattle.hb_rows.specs.Tables.{Tables, project_at, pair_at, artifact_at, tag_at, upload_at, blob_at}
use Rattle.hb_desk.specs.Calls.{Call, Asked, StageTaken, StagePlaced, StageDropped, BlobOpened, ManifestOpened, Tells, StageAt, Number, Dropped, Content}
use Rattle.hb_desk.specs.Notes.{is_out, placement_of}
use Rattle.hb_desk.specs.Refusing.{busy, out_of_order}
use Rattle.hb_desk.specs.Reply.{Reply, refused, gives, refuse, commits}
use Rattle.hb_desk.specs.declared.asks.Ask.{Ask}
use Rattle.hb_desk.specs.declared.asks.Ask.TheVariants.{ShowProject, TouchBlob, BeginUpload, EndUpload, Seal, SealManifest, Settle, PutArtifact, Look, NotePull}
use Rattle.hb_desk.specs.declared.told.Told.TheVariants as told
use Rattle.hb_desk.specs.declared.refusals.Refusal.TheVariants.{NoProject, UploadUnknown, BlobUnknown, ManifestUnknown, JobUnknown, NotPlaced, Busy}
use Rattle.hb_plan.specs.RowRefusals.{no_project_row, no_upload_row, no_upload_row_of, missing_ref_row, missing_child_row, over_limit_row, stored_size}

-- ---- asks
abbrev pub show_row : Option Project → Reply
show_row None = refused NoProject
show_row (Some row) = gives (Tells (told.Project row.limit row.used row.version))

abbrev pub touch_row : Tables → List ℕ → Digest → Option Assoc → Reply
touch_row r p d None = refused BlobUnknown
touch_row r p d (Some row) = commits r.audit (told.Blob row.size) (entry.Touched p d)

abbrev pub touch_over : Tables → List ℕ → Digest → Reply
touch_over r name d = refuse (no_project_row r (project_of name)) (touch_row r (project_of name) d (pair_at r (project_of name) d))

abbrev pub begin_over : Tables → List ℕ → Reply
begin_over r name = refuse (no_project_row r (project_of name)) (commits r.audit (told.Begun (suc (length r.audit))) (entry.UploadBegun name))

abbrev pub end_over : Tables → ℕ → ℕ → Reply
end_over r job upload = if nat_eq job 0 then refuse (no_upload_row r upload) (commits r.audit told.Done (entry.UploadEnded 0 upload)) else refused JobUnknown

abbrev pub seal_over : Tables → ℕ → Digest → ℕ → Option Upload → Reply
seal_over r upload d size None = refused UploadUnknown
seal_over r upload d size (Some row) = refuse (over_limit_row r (project_of row.name) d size) (commits r.audit told.Done (entry.UploadEnded 0 upload))

-- the reply, where a manifest of this size has its parts and fits the limit
abbrev pub parts_over : Tables → PutAsk → ℕ → Reply → Reply
parts_over r p size reply =
    refuse (missing_ref_row r (project_of p.name) p.refs)
    (refuse (missing_child_row r p.name p.children)
    (refuse (over_limit_row r (project_of p.name) p.digest size) reply))

abbrev pub seal_manifest_over : Tables → ℕ → PutAsk → Reply
seal_manifest_over r upload p = refuse (no_upload_row_of r p.name upload) (parts_over r p p.size (commits r.audit told.Done (entry.UploadEnded 0 upload)))

abbrev pub settle_over : Tables → List ℕ → Digest → Option Placement → Reply
settle_over r name d None = refused NotPlaced
settle_over r name d (Some x) =
    refuse (over_limit_row r (project_of name) d (stored_size (blob_at r d) x))
    (commits r.audit told.Done (entry.Associated (project_of name) d (stored_size (blob_at r d) x)))

abbrev pub put_over : Tables → PutAsk → Option Placement → Reply
put_over r p None = refused NotPlaced
put_over r p (Some x) =
    parts_over r p (stored_size (blob_at r p.digest) x)
    (commits r.audit told.Done (entry.ArtifactPut p.name p.digest (stored_size (blob_at r p.digest) x) p.media p.refs p.children p.tag))

-- the artifact that a reference names
abbrev pub row_named_by : Tables → List ℕ → Reference → Option Artifact
row_named_by r name (reference.Tag tag) = option_and_then (λ row. artifact_at r name row.digest) (tag_at r name tag)
row_named_by r name (reference.Digest d) = artifact_at r name d

abbrev pub look_row : Option Artifact → Reply
look_row None = refused ManifestUnknown
look_row (Some row) = gives (Tells (told.Look row.digest row.size row.media))

abbrev pub look_over : Tables → List ℕ → Reference → Reply
look_over r name ref = refuse (no_project_row r (project_of name)) (look_row (row_named_by r name ref))

abbrev pub pull_over : Tables → List ℕ → Digest → Reply
pull_over r name d = if is_some (artifact_at r name d) then commits r.audit told.Done (entry.Pulled name d) else gives (Tells told.Nothing)

abbrev pub row_reply_ask : Ask → Tables → Notes → Reply
row_reply_ask (ShowProject name) r n = show_row (project_at r name)
row_reply_ask (TouchBlob name d) r n = touch_over r name d
row_reply_ask (BeginUpload name) r n = begin_over r name
row_reply_ask (EndUpload job upload) r n = end_over r job upload
row_reply_ask (Seal upload d size) r n = seal_over r upload d size (upload_at r upload)
row_reply_ask (SealManifest upload p) r n = seal_manifest_over r upload p
row_reply_ask (Settle name upload d) r n = refuse (no_project_row r (project_of name)) (settle_over r name d (placement_of n upload d))
row_reply_ask (PutArtifact upload p) r n = refuse (no_project_row r (project_of p.name)) (put_over r p (placement_of n upload p.digest))
row_reply_ask (Look name ref) r n = look_over r name ref
row_reply_ask (NotePull name d) r n = pull_over r name d

-- ---- the other calls
abbrev pub take_over : Notes → ℕ → Option ℕ → Option Upload → Reply
take_over n upload start None = refused UploadUnknown
take_over n upload start (Some row) = refuse (busy n upload) (refuse (out_of_order start row.offset) (gives (StageAt row.offset)))

abbrev pub drop_over : Tables → Notes → ℕ → Bool → Reply
drop_over r n upload true = gives Dropped
drop_over r n upload false = if is_out n upload || is_some (upload_at r upload) then refused (Busy upload) else gives Dropped

abbrev pub open_row : Option Assoc → Reply
open_row None = refused BlobUnknown
open_row (Some row) = gives (Content row.digest row.size None)

abbrev pub open_artifact_row : Option Artifact → Reply
open_artifact_row None = refused ManifestUnknown
open_artifact_row (Some row) = gives (Content row.digest row.size (Some row.media))

abbrev pub row_reply : Call → Tables → Notes → Reply
row_reply (Asked ask) r n = row_reply_ask ask r n
row_reply (StageTaken name upload start) r n = refuse (no_project_row r (project_of name)) (refuse (no_upload_row_of r name upload) (take_over n upload start (upload_at r upload)))
row_reply (StagePlaced upload d) r n = gives (Number (length r.audit))
row_reply (StageDropped upload handed) r n = drop_over r n upload handed
row_reply (BlobOpened name d) r n = refuse (no_project_row r (project_of name)) (open_row (pair_at r (project_of name) d))
row_reply (ManifestOpened name ref) r n = refuse (no_project_row r (project_of name)) (open_artifact_row (row_named_by r name ref))
