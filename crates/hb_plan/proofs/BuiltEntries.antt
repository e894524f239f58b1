-- The entry that a reply makes is of a built kind.
use Rattle.std.proofs.Common.{◌≡◌, ℕ, nat_eq, true, false, cond, List, [], ◌∷◌, length, Option, Some, None, Ok, is_some, IfSome, refl, subst, suc}
use Rattle.hb_text.specs.Names.{project_of}
use Rattle.hb_text.specs.declared.digests.Digest.{Digest}
use Rattle.hb_records.specs.Entries.{AuditEntry}
use Rattle.hb_records.specs.declared.entries.EntryKind.{EntryKind}
use Rattle.hb_records.specs.declared.entries.EntryKind.TheVariants as entry
use Rattle.hb_records.specs.declared.notes.Placement.{Placement}
use Rattle.hb_records.specs.declared.puts.PutAsk.{PutAsk}
use Rattle.hb_model.specs.Built.{is_built}
use Rattle.hb_model.specs.Registry.{ArtifactItem, PairItem, ProjectItem, UploadItem, project_in, pair_in, artifact_in, upload_in}
use Rattle.hb_model.specs.Replay.{replay}
use Rattle.hb_desk.specs.Calls.{Call, Asked, StageTaken, StagePlaced, StageDropped, BlobOpened, ManifestOpened, Tells}
use Rattle.hb_desk.specs.Notes.{placement_of}
use Rattle.hb_desk.specs.Refusing.{spent, no_project, no_upload, no_upload_of, missing_ref, missing_child, immutable_tag, over_limit, still_collecting, raced}
use Rattle.hb_desk.specs.Reply.{Reply, refuse, refused, gives, commits, reply, reply_ask, show_project, touch_pair, end_upload, seal, settled_size, settle, put, named_by, look_at}
use Rattle.hb_desk.specs.State.{State}
use Rattle.hb_desk.specs.declared.asks.Ask.{Ask}
use Rattle.hb_desk.specs.declared.asks.Ask.TheVariants.{ShowProject, TouchBlob, BeginUpload, EndUpload, Seal, SealManifest, Settle, PutArtifact, Look, NotePull}
use Rattle.hb_desk.specs.declared.refusals.Refusal.{Refusal}
use Rattle.hb_desk.specs.declared.refusals.Refusal.TheVariants.{JobUnknown}
use Rattle.hb_desk.specs.declared.told.Told.{Told}
use Rattle.hb_desk.specs.declared.told.Told.TheVariants as told
use Rattle.hb_desk.proofs.LegalReplies.{no-entry}

-- the reply makes an entry of a built kind, or none
abbrev Builds : Reply → Type 0
Builds x = IfSome x.entry (λ kind. is_built kind ≡ true)

-- the refusals in their order, and then the reply
abbrev in_turn : List (Option Refusal) → Reply → Reply
in_turn [] x = x
in_turn (cause ∷ causes) x = refuse cause (in_turn causes x)

refusing : (causes : List (Option Refusal)) (x : Reply) → Builds x → Builds (in_turn causes x)
refusing [] x h = h
refusing (None ∷ causes) x h = refusing causes x h
refusing (Some refusal ∷ causes) x h = tt

committing : (j : List AuditEntry) (causes : List (Option Refusal)) (x : Told) (kind : EntryKind) → is_built kind ≡ true → Builds (in_turn causes (commits j x kind))
committing j causes x kind h = refusing causes (commits j x kind) (refusing (spent j ∷ []) (record { outcome = Ok (Tells x); entry = Some kind }) h)

show-builds : (j : List AuditEntry) (p : List ℕ) (x : Option ProjectItem) → Builds (show_project j p x)
show-builds j p None = tt
show-builds j p (Some x) = tt

touch-builds : (j : List AuditEntry) (p : List ℕ) (d : Digest) (x : Option PairItem) → Builds (touch_pair j p d x)
touch-builds j p d None = tt
touch-builds j p d (Some x) = committing j [] (told.Blob x.size) (entry.Touched p d) refl

look-builds : (x : Option ArtifactItem) → Builds (look_at x)
look-builds None = tt
look-builds (Some x) = tt

seal-builds : (j : List AuditEntry) (t upload : ℕ) (d : Digest) (size : ℕ) (x : Option UploadItem) → Builds (seal j t upload d size x)
seal-builds j t upload d size None = tt
seal-builds j t upload d size (Some x) = committing j (over_limit j (project_of x.name) d size ∷ still_collecting j d t ∷ []) told.Done (entry.UploadEnded 0 upload) refl

settle-builds : (j : List AuditEntry) (t : ℕ) (name : List ℕ) (d : Digest) (x : Option Placement) → Builds (settle j t name d x)
settle-builds j t name d None = tt
settle-builds j t name d (Some x) = committing j (over_limit j (project_of name) d (settled_size j d x) ∷ still_collecting j d t ∷ raced j d x ∷ []) told.Done (entry.Associated (project_of name) d (settled_size j d x)) refl

put-builds : (j : List AuditEntry) (t : ℕ) (p : PutAsk) (x : Option Placement) → Builds (put j t p x)
put-builds j t p None = tt
put-builds j t p (Some x) =
    committing j (missing_ref j (project_of p.name) p.refs ∷ missing_child j p.name p.children ∷ immutable_tag j p.name p.digest p.tag ∷ over_limit j (project_of p.name) p.digest (settled_size j p.digest x) ∷ still_collecting j p.digest t ∷ raced j p.digest x ∷ [])
    told.Done (entry.ArtifactPut p.name p.digest (settled_size j p.digest x) p.media p.refs p.children p.tag) refl

ask-builds : (ask : Ask) (s : State) (t : ℕ) → Builds (reply_ask ask s t)
ask-builds (ShowProject name) s t = show-builds s.audit name (project_in (replay s.audit) name)
ask-builds (TouchBlob name d) s t = refusing (no_project s.audit (project_of name) ∷ []) (touch_pair s.audit (project_of name) d (pair_in (replay s.audit) (project_of name) d)) (touch-builds s.audit (project_of name) d (pair_in (replay s.audit) (project_of name) d))
ask-builds (BeginUpload name) s t = committing s.audit (no_project s.audit (project_of name) ∷ []) (told.Begun (suc (length s.audit))) (entry.UploadBegun name) refl
ask-builds (EndUpload job upload) s t = elim (nat_eq job 0) as (λ b. Builds (cond b (end_upload s.audit upload) (refused JobUnknown))) [ true ↦ committing s.audit (no_upload s.audit upload ∷ []) told.Done (entry.UploadEnded 0 upload) refl | false ↦ tt ]
ask-builds (Seal upload d size) s t = seal-builds s.audit t upload d size (upload_in (replay s.audit) upload)
ask-builds (SealManifest upload p) s t =
    committing s.audit (no_upload_of s.audit p.name upload ∷ missing_ref s.audit (project_of p.name) p.refs ∷ missing_child s.audit p.name p.children ∷ immutable_tag s.audit p.name p.digest p.tag ∷ over_limit s.audit (project_of p.name) p.digest p.size ∷ still_collecting s.audit p.digest t ∷ [])
    told.Done (entry.UploadEnded 0 upload) refl
ask-builds (Settle name upload d) s t = refusing (no_project s.audit (project_of name) ∷ []) (settle s.audit t name d (placement_of s.notes upload d)) (settle-builds s.audit t name d (placement_of s.notes upload d))
ask-builds (PutArtifact upload p) s t = refusing (no_project s.audit (project_of p.name) ∷ []) (put s.audit t p (placement_of s.notes upload p.digest)) (put-builds s.audit t p (placement_of s.notes upload p.digest))
ask-builds (Look name ref) s t = refusing (no_project s.audit (project_of name) ∷ []) (look_at (named_by (replay s.audit) name ref)) (look-builds (named_by (replay s.audit) name ref))
ask-builds (NotePull name d) s t = elim (is_some (artifact_in (replay s.audit) name d)) as (λ b. Builds (cond b (commits s.audit told.Done (entry.Pulled name d)) (gives (Tells told.Nothing)))) [ true ↦ committing s.audit [] told.Done (entry.Pulled name d) refl | false ↦ tt ]

unmade : (made : Option EntryKind) (kind : EntryKind) → made ≡ None → made ≡ Some kind → is_built kind ≡ true
unmade made kind none h = cc

pub entry-built : (call : Call) (s : State) (t : ℕ) (kind : EntryKind) → (reply call s t).entry ≡ Some kind → is_built kind ≡ true
entry-built (Asked ask) s t kind h = subst (λ x. IfSome x (λ kind. is_built kind ≡ true)) h (ask-builds ask s t)
entry-built (StageTaken name upload start) s t kind h = unmade _ kind (no-entry (StageTaken name upload start) refl s t) h
entry-built (StagePlaced upload d) s t kind h = unmade _ kind (no-entry (StagePlaced upload d) refl s t) h
entry-built (StageDropped upload handed) s t kind h = unmade _ kind (no-entry (StageDropped upload handed) refl s t) h
entry-built (BlobOpened name d) s t kind h = unmade _ kind (no-entry (BlobOpened name d) refl s t) h
entry-built (ManifestOpened name ref) s t kind h = unmade _ kind (no-entry (ManifestOpened name ref) refl s t) h
