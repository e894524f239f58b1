-- What the rows answer is what the audit answers.
use Rattle.std.proofs.Common.{◌≡◌, ℕ, ◌+◌, suc, nat_eq, Bool, true, false, not, cond, ◌||◌, List, length, Option, Some, None, option_map, option_and_then, is_some, unwrap_or, find, IfSome, refl, sym, ap, subst, ◌∙◌}
use Rattle.hb_text.specs.declared.digests.Digest.{Digest}
use Rattle.hb_text.specs.declared.references.Reference.{Reference}
use Rattle.hb_text.specs.declared.references.Reference.TheVariants as reference
use Rattle.hb_text.specs.Names.{project_of}
use Rattle.hb_records.specs.declared.entries.EntryKind.TheVariants as entry
use Rattle.hb_records.specs.declared.notes.Notes.{Notes}
use Rattle.hb_records.specs.declared.notes.Placement.{Placement}
use Rattle.hb_records.specs.declared.puts.PutAsk.{PutAsk}
use Rattle.hb_records.specs.declared.records.Project.{Project}
use Rattle.hb_records.specs.declared.records.Blob.{Blob}
use Rattle.hb_records.specs.declared.records.Assoc.{Assoc}
use Rattle.hb_records.specs.declared.records.Artifact.{Artifact}
use Rattle.hb_records.specs.declared.records.TagRow.{TagRow}
use Rattle.hb_records.specs.declared.records.Upload.{Upload}
use Rattle.hb_rows.specs.Tables.{Tables, project_at, pair_at, artifact_at, tag_at, upload_at, blob_at}
use Rattle.hb_model.specs.History.{Stands}
use Rattle.hb_model.specs.LegalBlobs.{allows}
use Rattle.hb_model.specs.Presence.{usage}
use Rattle.hb_model.specs.Registry.{StoredItem, TagItem, project_in, pair_in, artifact_in, stored_in}
use Rattle.hb_model.specs.Replay.{replay}
use Rattle.hb_model.specs.Seen.{seen_project, seen_pair, seen_artifact, seen_tag, seen_upload, seen_blob}
use Rattle.hb_model.specs.Words.{same_text, some_and}
use Rattle.hb_model.specs.UsedBound.{used_in}
use Rattle.hb_desk.specs.Calls.{Call, Asked, StageTaken, StagePlaced, StageDropped, BlobOpened, ManifestOpened, Tells, Number, Dropped}
use Rattle.hb_desk.specs.Notes.{is_out, placement_of}
use Rattle.hb_desk.specs.ProjectVersions.{project_version}
use Rattle.hb_desk.specs.Refusing.{unless, no_project, no_upload, no_upload_of, missing_ref, missing_child, over_limit}
use Rattle.hb_desk.specs.Reply.{refuse, refused, gives, commits, reply, reply_ask, show_project, touch_pair, seal, settled_size, settle, put, named_by, look_at, take_stage, drop_stage, open_pair, open_artifact}
use Rattle.hb_desk.specs.State.{State}
use Rattle.hb_desk.specs.declared.asks.Ask.{Ask}
use Rattle.hb_desk.specs.declared.asks.Ask.TheVariants.{ShowProject, TouchBlob, BeginUpload, EndUpload, Seal, SealManifest, Settle, PutArtifact, Look, NotePull}
use Rattle.hb_desk.specs.declared.told.Told.TheVariants as told
use Rattle.hb_desk.specs.declared.refusals.Refusal.TheVariants.{NoProject, UploadUnknown, MissingRef, MissingChild, OverLimit, JobUnknown, Busy}
use Rattle.hb_plan.specs.BuiltAudits.{AllBuilt, NoneGone}
use Rattle.hb_plan.specs.RowRefusals.{no_project_row, no_upload_row, no_upload_row_of, missing_ref_row, missing_child_row, over_limit_of, over_limit_row, stored_size}
use Rattle.hb_plan.specs.RowReplies.{show_row, touch_row, seal_over, settle_over, put_over, row_named_by, look_row, take_over, drop_over, open_row, open_artifact_row, row_reply, row_reply_ask}
use Rattle.hb_plan.proofs.BuiltAudits.{not-collecting, present-stored, not-immutable, placed-here, not-raced}
use Rattle.hb_plan.proofs.ProjectVersions.{row-version}
use Rattle.hb_plan.proofs.SeenRows.{project-seen, pair-seen, artifact-seen, tag-seen, upload-seen, blob-seen, project-known, pair-known, artifact-known, upload-known, usage-seen}

-- ---- by the row that was found
none-either : {A : Type 0} (b : Bool) (x : Option A) → x ≡ None → cond b None x ≡ None
none-either true x h = refl
none-either false x h = h

limit-of : (pair : Option Assoc) (size : ℕ) (x : Option Project) → cond (is_some (option_map seen_pair pair) || nat_eq size 0 || some_and (λ project. allows project.limit (used_in x + size)) (option_map seen_project x)) None (option_map (λ project. OverLimit (used_in x) size project.limit) (option_map seen_project x)) ≡ over_limit_of pair size x
limit-of pair size None = none-either _ None refl
limit-of None size (Some row) = refl
limit-of (Some held) size (Some row) = refl

size-of : (blob : Option Blob) (x : Placement) → unwrap_or (cond (is_some (option_map seen_blob blob)) (option_map (λ (item : StoredItem). item.size) (option_map seen_blob blob)) None) x.size ≡ stored_size blob x
size-of None x = refl
size-of (Some row) x = refl

upload-of : (name : List ℕ) (x : Option Upload) → some_and (λ item. same_text name item.name) (option_map seen_upload x) ≡ some_and (λ row. same_text name row.name) x
upload-of name None = refl
upload-of name (Some row) = refl

taken-of : (s : State) (upload : ℕ) (start : Option ℕ) (x : Option Upload) → take_stage s upload start (option_map seen_upload x) ≡ take_over s.notes upload start x
taken-of s upload start None = refl
taken-of s upload start (Some row) = refl

looked-of : (x : Option Artifact) → look_at (option_map seen_artifact x) ≡ look_row x
looked-of None = refl
looked-of (Some row) = refl

opened-of : (x : Option Assoc) → open_pair (option_map seen_pair x) ≡ open_row x
opened-of None = refl
opened-of (Some row) = refl

opened-artifact-of : (x : Option Artifact) → open_artifact (option_map seen_artifact x) ≡ open_artifact_row x
opened-artifact-of None = refl
opened-artifact-of (Some row) = refl

module _ (r : Tables) (stands : Stands r) where
  -- ---- by cause
  no-project-row : (p : List ℕ) → no_project r.audit p ≡ no_project_row r p
  no-project-row p = ap (λ b. unless b NoProject) (project-known r stands p)

  no-upload-row : (upload : ℕ) → no_upload r.audit upload ≡ no_upload_row r upload
  no-upload-row upload = ap (λ b. unless b UploadUnknown) (upload-known r stands upload)

  no-upload-row-of : (name : List ℕ) (upload : ℕ) → no_upload_of r.audit name upload ≡ no_upload_row_of r name upload
  no-upload-row-of name upload = ap (λ b. unless b UploadUnknown) (ap (λ x. some_and (λ item. same_text name item.name) x) (upload-seen r stands upload) ∙ upload-of name (upload_at r upload))

  missing-ref-row : (p : List ℕ) (refs : List Digest) → missing_ref r.audit p refs ≡ missing_ref_row r p refs
  missing-ref-row p refs = λ i. option_map (λ d. MissingRef d) (find (λ d. not (pair-known r stands p d i)) refs)

  missing-child-row : (name : List ℕ) (children : List Digest) → missing_child r.audit name children ≡ missing_child_row r name children
  missing-child-row name children = λ i. option_map (λ d. MissingChild d) (find (λ d. not (artifact-known r stands name d i)) children)

  over-limit-row : (p : List ℕ) (d : Digest) (size : ℕ) → over_limit r.audit p d size ≡ over_limit_row r p d size
  over-limit-row p d size =
      let pair = pair-seen r stands p d in
      let project = project-seen r stands p in
      let used = usage-seen r stands p in
      (λ i. cond (is_some (pair i) || nat_eq size 0 || some_and (λ x. allows x.limit (used i + size)) (project i)) None (option_map (λ x. OverLimit (used i) size x.limit) (project i)))
      ∙ limit-of (pair_at r p d) size (project_at r p)

  show-over : (p : List ℕ) → show_project r.audit p (project_in (replay r.audit) p) ≡ show_row (project_at r p)
  show-over p = ap (show_project r.audit p) (project-seen r stands p) ∙ go (project_at r p) (usage-seen r stands p) (subst (λ t. IfSome (project_at t p) (λ row. row.version ≡ project_version r.audit p)) (sym stands.made) (row-version r.audit stands.history p))
    where
      go : (x : Option Project) → usage (replay r.audit) p ≡ used_in x → IfSome x (λ row. row.version ≡ project_version r.audit p) → show_project r.audit p (option_map seen_project x) ≡ show_row x
      go None used version = refl
      go (Some row) used version = let is = sym version in λ i. gives (Tells (told.Project row.limit (used i) (is i)))

  touch-row : (p : List ℕ) (d : Digest) → touch_pair r.audit p d (pair_in (replay r.audit) p d) ≡ touch_row r p d (pair_at r p d)
  touch-row p d = ap (touch_pair r.audit p d) (pair-seen r stands p d) ∙ go (pair_at r p d)
    where
      go : (x : Option Assoc) → touch_pair r.audit p d (option_map seen_pair x) ≡ touch_row r p d x
      go None = refl
      go (Some row) = refl

  named-row : (name : List ℕ) (ref : Reference) → named_by (replay r.audit) name ref ≡ option_map seen_artifact (row_named_by r name ref)
  named-row name (reference.Tag tag) = ap (λ x. option_and_then (λ item. artifact_in (replay r.audit) name item.digest) x) (tag-seen r stands name tag) ∙ go (tag_at r name tag)
    where
      go : (x : Option TagRow) → option_and_then (λ (item : TagItem). artifact_in (replay r.audit) name item.digest) (option_map seen_tag x) ≡ option_map seen_artifact (option_and_then (λ row. artifact_at r name row.digest) x)
      go None = refl
      go (Some row) = artifact-seen r stands name row.digest
  named-row name (reference.Digest d) = artifact-seen r stands name d

  -- ---- by call
  module _ (built : AllBuilt r.audit) (n : Notes) (here : NoneGone n) (t : ℕ) where
    settled-row : (d : Digest) (x : Placement) → settled_size r.audit d x ≡ stored_size (blob_at r d) x
    settled-row d x =
        let stored = present-stored r.audit built d in
        let blob = blob-seen r stands d in
        (λ i. unwrap_or (cond (stored i) (option_map (λ (item : StoredItem). item.size) (stored_in (replay r.audit) d)) None) x.size)
        ∙ (λ i. unwrap_or (cond (is_some (blob i)) (option_map (λ (item : StoredItem). item.size) (blob i)) None) x.size)
        ∙ size-of (blob_at r d) x

    seal-row : (upload : ℕ) (d : Digest) (size : ℕ) (x : Option Upload) → seal r.audit t upload d size (option_map seen_upload x) ≡ seal_over r upload d size x
    seal-row upload d size None = refl
    seal-row upload d size (Some row) =
        let limit = over-limit-row (project_of row.name) d size in
        let free = not-collecting r.audit built d t in
        λ i. refuse (limit i) (refuse (free i) (commits r.audit told.Done (entry.UploadEnded 0 upload)))

    settle-row : (name : List ℕ) (d : Digest) (x : Option Placement) → IfSome x (λ x. x.gone ≡ 0) → settle r.audit t name d x ≡ settle_over r name d x
    settle-row name d None placed = refl
    settle-row name d (Some x) placed =
        let size = settled-row d x in
        let limit = over-limit-row (project_of name) d (stored_size (blob_at r d) x) in
        let free = not-collecting r.audit built d t in
        let kept = not-raced r.audit d x placed in
        (λ i. refuse (over_limit r.audit (project_of name) d (size i)) (refuse (free i) (refuse (kept i) (commits r.audit told.Done (entry.Associated (project_of name) d (size i))))))
        ∙ (λ i. refuse (limit i) (commits r.audit told.Done (entry.Associated (project_of name) d (stored_size (blob_at r d) x))))

    put-row : (p : PutAsk) (x : Option Placement) → IfSome x (λ x. x.gone ≡ 0) → put r.audit t p x ≡ put_over r p x
    put-row p None placed = refl
    put-row p (Some x) placed =
        let ref = missing-ref-row (project_of p.name) p.refs in
        let child = missing-child-row p.name p.children in
        let free_tag = not-immutable r.audit built p.name p.digest p.tag in
        let size = settled-row p.digest x in
        let limit = over-limit-row (project_of p.name) p.digest (stored_size (blob_at r p.digest) x) in
        let free = not-collecting r.audit built p.digest t in
        let kept = not-raced r.audit p.digest x placed in
        (λ i. refuse (ref i) (refuse (child i) (refuse (free_tag i) (refuse (over_limit r.audit (project_of p.name) p.digest (size i)) (refuse (free i) (refuse (kept i)
        (commits r.audit told.Done (entry.ArtifactPut p.name p.digest (size i) p.media p.refs p.children p.tag))))))))
        ∙ (λ i. refuse (missing_ref_row r (project_of p.name) p.refs) (refuse (missing_child_row r p.name p.children) (refuse (limit i)
        (commits r.audit told.Done (entry.ArtifactPut p.name p.digest (stored_size (blob_at r p.digest) x) p.media p.refs p.children p.tag)))))

    abbrev state : State
    state = record { audit = r.audit; notes = n }

    ask-row : (ask : Ask) → reply_ask ask state t ≡ row_reply_ask ask r n
    ask-row (ShowProject name) = show-over name
    ask-row (TouchBlob name d) =
        let unknown = no-project-row (project_of name) in
        let touched = touch-row (project_of name) d in
        λ i. refuse (unknown i) (touched i)
    ask-row (BeginUpload name) = ap (λ x. refuse x (commits r.audit (told.Begun (suc (length r.audit))) (entry.UploadBegun name))) (no-project-row (project_of name))
    ask-row (EndUpload job upload) = ap (λ x. cond (nat_eq job 0) (refuse x (commits r.audit told.Done (entry.UploadEnded 0 upload))) (refused JobUnknown)) (no-upload-row upload)
    ask-row (Seal upload d size) = ap (seal r.audit t upload d size) (upload-seen r stands upload) ∙ seal-row upload d size (upload_at r upload)
    ask-row (SealManifest upload p) =
        let unknown = no-upload-row-of p.name upload in
        let ref = missing-ref-row (project_of p.name) p.refs in
        let child = missing-child-row p.name p.children in
        let free_tag = not-immutable r.audit built p.name p.digest p.tag in
        let limit = over-limit-row (project_of p.name) p.digest p.size in
        let free = not-collecting r.audit built p.digest t in
        λ i. refuse (unknown i) (refuse (ref i) (refuse (child i) (refuse (free_tag i) (refuse (limit i) (refuse (free i) (commits r.audit told.Done (entry.UploadEnded 0 upload)))))))
    ask-row (Settle name upload d) =
        let unknown = no-project-row (project_of name) in
        let settled = settle-row name d (placement_of n upload d) (placed-here n here upload d) in
        λ i. refuse (unknown i) (settled i)
    ask-row (PutArtifact upload p) =
        let unknown = no-project-row (project_of p.name) in
        let made = put-row p (placement_of n upload p.digest) (placed-here n here upload p.digest) in
        λ i. refuse (unknown i) (made i)
    ask-row (Look name ref) =
        let unknown = no-project-row (project_of name) in
        let looked = ap look_at (named-row name ref) ∙ looked-of (row_named_by r name ref) in
        λ i. refuse (unknown i) (looked i)
    ask-row (NotePull name d) = ap (λ b. cond b (commits r.audit told.Done (entry.Pulled name d)) (gives (Tells told.Nothing))) (artifact-known r stands name d)

    dropped-row : (upload : ℕ) (handed : Bool) → drop_stage state upload handed ≡ drop_over r n upload handed
    dropped-row upload true = refl
    dropped-row upload false = ap (λ b. cond (is_out n upload || b) (refused (Busy upload)) (gives Dropped)) (upload-known r stands upload)

    call-row : (call : Call) → reply call state t ≡ row_reply call r n
    call-row (Asked ask) = ask-row ask
    call-row (StageTaken name upload start) =
        let unknown = no-project-row (project_of name) in
        let absent = no-upload-row-of name upload in
        let taken = ap (take_stage state upload start) (upload-seen r stands upload) ∙ taken-of state upload start (upload_at r upload) in
        λ i. refuse (unknown i) (refuse (absent i) (taken i))
    call-row (StagePlaced upload d) = ap (λ x. refuse x (gives (Number (length r.audit)))) (not-collecting r.audit built d t)
    call-row (StageDropped upload handed) = dropped-row upload handed
    call-row (BlobOpened name d) =
        let unknown = no-project-row (project_of name) in
        let opened = ap open_pair (pair-seen r stands (project_of name) d) ∙ opened-of (pair_at r (project_of name) d) in
        λ i. refuse (unknown i) (opened i)
    call-row (ManifestOpened name ref) =
        let unknown = no-project-row (project_of name) in
        let opened = ap open_artifact (named-row name ref) ∙ opened-artifact-of (row_named_by r name ref) in
        λ i. refuse (unknown i) (opened i)

pub rows-answer : (r : Tables) (n : Notes) (call : Call) (t : ℕ) → Stands r → AllBuilt r.audit → NoneGone n → reply call (record { audit = r.audit; notes = n }) t ≡ row_reply call r n
rows-answer r n call t stands built here = call-row r stands built n here t call
