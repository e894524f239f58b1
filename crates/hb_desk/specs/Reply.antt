-- What a desk answers to a call at a moment, by the audit and the notes: the first refusal whose cause holds, or
-- what the call gives, and the entry that it makes.
use Rattle.std.specs.Prelude.{ℕ, suc, Bool, true, false, ◌||◌, List, length, Option, Some, None, is_some, unwrap_or, Ok, Err, nat_eq, option_and_then, if◌then◌else◌}
use Rattle.hb_text.specs.declared.digests.Digest.{Digest}
use Rattle.hb_text.specs.declared.references.Reference.{Reference}
use Rattle.hb_text.specs.declared.references.Reference.TheVariants as reference
use Rattle.hb_text.specs.Names.{project_of}
use Rattle.hb_records.specs.Entries.{AuditEntry}
use Rattle.hb_records.specs.declared.entries.EntryKind.{EntryKind}
use Rattle.hb_records.specs.declared.entries.EntryKind.TheVariants as entry
use Rattle.hb_records.specs.declared.notes.Placement.{Placement}
use Rattle.hb_records.specs.declared.puts.PutAsk.{PutAsk}
use Rattle.hb_model.specs.Registry.{Registry, ProjectItem, PairItem, ArtifactItem, UploadItem, project_in, pair_in, artifact_in, tag_in, upload_in}
use Rattle.hb_model.specs.Replay.{replay, size_of}
use Rattle.hb_model.specs.Presence.{present, usage}
use Rattle.hb_desk.specs.Calls.{Call, Asked, StageTaken, StagePlaced, StageDropped, BlobOpened, ManifestOpened, Gave, Tells, StageAt, Number, Dropped, Content, Outcome}
use Rattle.hb_desk.specs.Notes.{is_out, placement_of}
use Rattle.hb_desk.specs.ProjectVersions.{project_version}
use Rattle.hb_desk.specs.Refusing.{spent, no_project, no_upload, no_upload_of, busy, out_of_order, missing_ref, missing_child, immutable_tag, over_limit, still_collecting, raced}
use Rattle.hb_desk.specs.State.{State}
use Rattle.hb_desk.specs.declared.asks.Ask.{Ask}
use Rattle.hb_desk.specs.declared.asks.Ask.TheVariants.{ShowProject, TouchBlob, BeginUpload, EndUpload, Seal, SealManifest, Settle, PutArtifact, Look, NotePull}
use Rattle.hb_desk.specs.declared.told.Told.{Told}
use Rattle.hb_desk.specs.declared.told.Told.TheVariants as told
use Rattle.hb_desk.specs.declared.refusals.Refusal.{Refusal}
use Rattle.hb_desk.specs.declared.refusals.Refusal.TheVariants.{NoProject, UploadUnknown, BlobUnknown, ManifestUnknown, JobUnknown, NotPlaced, Busy}

pub record Reply : Type 0 where
  pub outcome : Outcome
  pub entry : Option EntryKind

abbrev pub refused : Refusal → Reply
refused refusal = record { outcome = Err refusal; entry = None }

abbrev pub gives : Gave → Reply
gives x = record { outcome = Ok x; entry = None }

-- the refusal, where there is one
abbrev pub refuse : Option Refusal → Reply → Reply
refuse None reply = reply
refuse (Some refusal) reply = refused refusal

abbrev pub commits : List AuditEntry → Told → EntryKind → Reply
commits j x kind = refuse (spent j) (record { outcome = Ok (Tells x); entry = Some kind })

-- ---- asks
abbrev pub show_project : List AuditEntry → List ℕ → Option ProjectItem → Reply
show_project j p None = refused NoProject
show_project j p (Some x) = gives (Tells (told.Project x.limit (usage (replay j) p) (project_version j p)))

-- what the project has is touched
abbrev pub touch_pair : List AuditEntry → List ℕ → Digest → Option PairItem → Reply
touch_pair j p d None = refused BlobUnknown
touch_pair j p d (Some x) = commits j (told.Blob x.size) (entry.Touched p d)

-- an upload ends by a client
abbrev pub end_upload : List AuditEntry → ℕ → Reply
end_upload j upload = refuse (no_upload j upload) (commits j told.Done (entry.UploadEnded 0 upload))

abbrev pub seal : List AuditEntry → ℕ → ℕ → Digest → ℕ → Option UploadItem → Reply
seal j t upload d size None = refused UploadUnknown
seal j t upload d size (Some x) =
    refuse (over_limit j (project_of x.name) d size)
    (refuse (still_collecting j d t)
    (commits j told.Done (entry.UploadEnded 0 upload)))

abbrev pub seal_manifest : List AuditEntry → ℕ → ℕ → PutAsk → Reply
seal_manifest j t upload put =
    refuse (no_upload_of j put.name upload)
    (refuse (missing_ref j (project_of put.name) put.refs)
    (refuse (missing_child j put.name put.children)
    (refuse (immutable_tag j put.name put.digest put.tag)
    (refuse (over_limit j (project_of put.name) put.digest put.size)
    (refuse (still_collecting j put.digest t)
    (commits j told.Done (entry.UploadEnded 0 upload)))))))

-- what is settled has the size that is stored, and else the placement's
abbrev pub settled_size : List AuditEntry → Digest → Placement → ℕ
settled_size j d x = unwrap_or (if present j d then size_of j d else None) x.size

abbrev pub settle : List AuditEntry → ℕ → List ℕ → Digest → Option Placement → Reply
settle j t name d None = refused NotPlaced
settle j t name d (Some x) =
    refuse (over_limit j (project_of name) d (settled_size j d x))
    (refuse (still_collecting j d t)
    (refuse (raced j d x)
    (commits j told.Done (entry.Associated (project_of name) d (settled_size j d x)))))

abbrev pub put : List AuditEntry → ℕ → PutAsk → Option Placement → Reply
put j t p None = refused NotPlaced
put j t p (Some x) =
    refuse (missing_ref j (project_of p.name) p.refs)
    (refuse (missing_child j p.name p.children)
    (refuse (immutable_tag j p.name p.digest p.tag)
    (refuse (over_limit j (project_of p.name) p.digest (settled_size j p.digest x))
    (refuse (still_collecting j p.digest t)
    (refuse (raced j p.digest x)
    (commits j told.Done (entry.ArtifactPut p.name p.digest (settled_size j p.digest x) p.media p.refs p.children p.tag)))))))

-- the artifact that a reference names
abbrev pub named_by : Registry → List ℕ → Reference → Option ArtifactItem
named_by m name (reference.Tag tag) = option_and_then (λ x. artifact_in m name x.digest) (tag_in m name tag)
named_by m name (reference.Digest d) = artifact_in m name d

abbrev pub look_at : Option ArtifactItem → Reply
look_at None = refused ManifestUnknown
look_at (Some x) = gives (Tells (told.Look x.digest x.size x.media))

abbrev pub reply_ask : Ask → State → ℕ → Reply
reply_ask (ShowProject name) s t = show_project s.audit name (project_in (replay s.audit) name)
reply_ask (TouchBlob name d) s t = refuse (no_project s.audit (project_of name)) (touch_pair s.audit (project_of name) d (pair_in (replay s.audit) (project_of name) d))
reply_ask (BeginUpload name) s t = refuse (no_project s.audit (project_of name)) (commits s.audit (told.Begun (suc (length s.audit))) (entry.UploadBegun name))
reply_ask (EndUpload job upload) s t = if nat_eq job 0 then end_upload s.audit upload else refused JobUnknown
reply_ask (Seal upload d size) s t = seal s.audit t upload d size (upload_in (replay s.audit) upload)
reply_ask (SealManifest upload p) s t = seal_manifest s.audit t upload p
reply_ask (Settle name upload d) s t = refuse (no_project s.audit (project_of name)) (settle s.audit t name d (placement_of s.notes upload d))
reply_ask (PutArtifact upload p) s t = refuse (no_project s.audit (project_of p.name)) (put s.audit t p (placement_of s.notes upload p.digest))
reply_ask (Look name ref) s t = refuse (no_project s.audit (project_of name)) (look_at (named_by (replay s.audit) name ref))
reply_ask (NotePull name d) s t = if is_some (artifact_in (replay s.audit) name d) then commits s.audit told.Done (entry.Pulled name d) else gives (Tells told.Nothing)

-- ---- the other calls
abbrev pub take_stage : State → ℕ → Option ℕ → Option UploadItem → Reply
take_stage s upload start None = refused UploadUnknown
take_stage s upload start (Some x) = refuse (busy s.notes upload) (refuse (out_of_order start x.offset) (gives (StageAt x.offset)))

-- without a stage: that of an upload that is there, or whose stage is out, isn't dropped
abbrev pub drop_stage : State → ℕ → Bool → Reply
drop_stage s upload true = gives Dropped
drop_stage s upload false = if is_out s.notes upload || is_some (upload_in (replay s.audit) upload) then refused (Busy upload) else gives Dropped

abbrev pub open_pair : Option PairItem → Reply
open_pair None = refused BlobUnknown
open_pair (Some x) = gives (Content x.digest x.size None)

abbrev pub open_artifact : Option ArtifactItem → Reply
open_artifact None = refused ManifestUnknown
open_artifact (Some x) = gives (Content x.digest x.size (Some x.media))

abbrev pub reply : Call → State → ℕ → Reply
reply (Asked ask) s t = reply_ask ask s t
reply (StageTaken name upload start) s t = refuse (no_project s.audit (project_of name)) (refuse (no_upload_of s.audit name upload) (take_stage s upload start (upload_in (replay s.audit) upload)))
reply (StagePlaced upload d) s t = refuse (still_collecting s.audit d t) (gives (Number (length s.audit)))
reply (StageDropped upload handed) s t = drop_stage s upload handed
reply (BlobOpened name d) s t = refuse (no_project s.audit (project_of name)) (open_pair (pair_in (replay s.audit) (project_of name) d))
reply (ManifestOpened name ref) s t = refuse (no_project s.audit (project_of name)) (open_artifact (named_by (replay s.audit) name ref))
