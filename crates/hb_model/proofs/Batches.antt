-- The changes of each entry make its effect, and a batch of them makes the rows of the longer audit.
use Rattle.std.proofs.Common.{◌≡◌, ℕ, ◌<◌, List, [], ◌∷◌, ◌++◌, length, reverse, refl, sym, ap, subst, ◌∙◌, arith}
use Rattle.std.proofs.lemmas.Grind.{reverse_onto}
use Rattle.std.proofs.lemmas.List.{reverse-append, reverse-reverse}
use Rattle.std.specs.Cmp.{nat_cmp_is}
use Rattle.std.specs.List.{AllByRecursion}
use Rattle.std.specs.Ordering.{nat_cmp}
use Rattle.std.specs.declared.cmp.Ordering.TheVariants.{Greater}
use Rattle.hb_base.specs.Tables.{placed, with_row}
use Rattle.hb_records.specs.Entries.{AuditEntry}
use Rattle.hb_records.specs.Orders.{entry_key}
use Rattle.hb_records.specs.declared.batches.Batch.{Batch}
use Rattle.hb_records.specs.declared.batches.Row.TheVariants as row
use Rattle.hb_records.specs.declared.entries.EntryKind.{EntryKind}
use Rattle.hb_records.specs.declared.entries.EntryKind.TheVariants.{ProjectMade, LimitSet, RulesSet, UploadBegun, UploadGrown, UploadEnded, Associated, Touched, Unassociated, ArtifactPut, ArtifactDropped, TagDropped, Pulled, JobQueued, JobClaimed, GcMarked, Taking, Collected, GcSkipped, Adopted, GcDone, RetainBegun, RetainTurn, RetainDone}
use Rattle.hb_rows.specs.Batches.{after_batch, after_changes, from_oldest, set_row}
use Rattle.hb_rows.specs.Tables.{AreTables, Tables, artifact_at, blob_at, job_at, project_at, upload_at}
use Rattle.hb_rows.proofs.KeysRise.{AreTables-changes, AreTables-set}
use Rattle.hb_model.specs.Changes.{changes, changes_of}
use Rattle.hb_model.specs.Effects.{after_entry, effect, rows_of}
use Rattle.hb_model.specs.History.{History}
use Rattle.hb_model.specs.Numbered.{IsNumbered}
use Rattle.hb_model.proofs.ArtifactBatches.{drop_artifact-batch, put_artifact-batch}
use Rattle.hb_model.proofs.CollectBatches.{collect-batch, mark_page-batch, skip-batch}
use Rattle.hb_model.proofs.ContentBatches.{associate-batch, touch-batch, unassociate-batch}
use Rattle.hb_model.proofs.RetainBatches.{begin_retain-batch, turn-batch}
use Rattle.hb_model.proofs.Tables.{artifact-changed, blob-changed, job-changed, project-changed, upload-changed}

pub changes-effect : (t : Tables) (n moment : ℕ) (kind : EntryKind) → AreTables t → after_changes t (changes n moment kind t) ≡ effect n moment kind t
changes-effect t n moment (ProjectMade project limit) h = refl
changes-effect t n moment (LimitSet project limit) h = project-changed t project _ (λ r. refl) h.projects (project_at t project) refl
changes-effect t n moment (RulesSet project rules) h = project-changed t project _ (λ r. refl) h.projects (project_at t project) refl
changes-effect t n moment (UploadBegun name) h = refl
changes-effect t n moment (UploadGrown upload offset) h = upload-changed t upload _ (λ r. refl) h.uploads (upload_at t upload) refl
changes-effect t n moment (UploadEnded job upload) h = refl
changes-effect t n moment (Associated project digest size) h = associate-batch t h n moment project digest size
changes-effect t n moment (Touched project digest) h = touch-batch t h n moment project digest
changes-effect t n moment (Unassociated job project digest) h = unassociate-batch t h n moment project digest
changes-effect t n moment (ArtifactPut name digest size media refs children tag) h = put_artifact-batch t h n moment name digest size media refs children tag
changes-effect t n moment (ArtifactDropped job name digest) h = drop_artifact-batch t h name digest
changes-effect t n moment (TagDropped name tag) h = refl
changes-effect t n moment (Pulled name digest) h = artifact-changed t name digest _ (λ r. refl) h.artifacts (artifact_at t name digest) refl
changes-effect t n moment (JobQueued kind) h = refl
changes-effect t n moment (JobClaimed job) h = job-changed t job _ (λ r. refl) h.jobs (job_at t job) refl
changes-effect t n moment (GcMarked job digests barred upto last) h = mark_page-batch t h n job digests barred upto last
changes-effect t n moment (Taking job digest) h = blob-changed t digest _ (λ r. refl) h.blobs (blob_at t digest) refl
changes-effect t n moment (Collected job digest) h = collect-batch t h n job digest
changes-effect t n moment (GcSkipped job digest why) h = skip-batch t h n job digest why
changes-effect t n moment (Adopted job digest size) h = refl
changes-effect t n moment (GcDone job) h = job-changed t job _ (λ r. refl) h.jobs (job_at t job) refl
changes-effect t n moment (RetainBegun job) h = begin_retain-batch t h job n moment
changes-effect t n moment (RetainTurn job name tag given) h = turn-batch t h job name tag given
changes-effect t n moment (RetainDone job) h = job-changed t job _ (λ r. refl) h.jobs (job_at t job) refl

-- no effect is on the audit
effect-audit : (t : Tables) (n moment : ℕ) (kind : EntryKind) → (effect n moment kind t).audit ≡ t.audit
effect-audit t n moment (ProjectMade project limit) = refl
effect-audit t n moment (LimitSet project limit) = refl
effect-audit t n moment (RulesSet project rules) = refl
effect-audit t n moment (UploadBegun name) = refl
effect-audit t n moment (UploadGrown upload offset) = refl
effect-audit t n moment (UploadEnded job upload) = refl
effect-audit t n moment (Associated project digest size) = refl
effect-audit t n moment (Touched project digest) = refl
effect-audit t n moment (Unassociated job project digest) = refl
effect-audit t n moment (ArtifactPut name digest size media refs children tag) = refl
effect-audit t n moment (ArtifactDropped job name digest) = refl
effect-audit t n moment (TagDropped name tag) = refl
effect-audit t n moment (Pulled name digest) = refl
effect-audit t n moment (JobQueued kind) = refl
effect-audit t n moment (JobClaimed job) = refl
effect-audit t n moment (GcMarked job digests barred upto last) = refl
effect-audit t n moment (Taking job digest) = refl
effect-audit t n moment (Collected job digest) = refl
effect-audit t n moment (GcSkipped job digest why) = refl
effect-audit t n moment (Adopted job digest size) = refl
effect-audit t n moment (GcDone job) = refl
effect-audit t n moment (RetainBegun job) = refl
effect-audit t n moment (RetainTurn job name tag given) = refl
effect-audit t n moment (RetainDone job) = refl

-- ---- the entry
-- each entry has a number below this one
abbrev pub IsNewest : ℕ → List AuditEntry → Type 0
IsNewest n = AllByRecursion (λ x. x.number < n)

-- an entry of the greatest number is the last of the table, and so the newest of the audit
with-last : (e : AuditEntry) (es : List AuditEntry) → IsNewest e.number es → with_row nat_cmp entry_key e es ≡ es ++ e ∷ []
with-last e [] h = refl
with-last e (x ∷ es) h = ap (λ r. placed r e x es (with_row nat_cmp entry_key e es)) (sym (nat_cmp_is e.number x.number Greater h.0)) ∙ ap (λ later. x ∷ later) (with-last e es h.1)

newest-more : (n : ℕ) (j : List AuditEntry) (x : AuditEntry) → IsNewest n j → x.number < n → IsNewest n (j ++ x ∷ [])
newest-more n [] x h less = (less, tt)
newest-more n (y ∷ j) x h less = (h.0, newest-more n j x h.1 less)

pub newest-reverse : (n : ℕ) (j : List AuditEntry) → IsNewest n j → IsNewest n (reverse j)
newest-reverse n [] h = tt
newest-reverse n (x ∷ j) h = subst (IsNewest n) (sym (reverse_onto j x [])) (newest-more n (reverse j) x (newest-reverse n j h.1) h.0)

newest : (e : AuditEntry) (j : List AuditEntry) → IsNewest e.number j → from_oldest (with_row nat_cmp entry_key e) j ≡ e ∷ j
newest e j h = ap reverse (with-last e (reverse j) (newest-reverse e.number j h)) ∙ reverse-append (reverse j) (e ∷ []) ∙ ap (λ es. e ∷ es) (reverse-reverse j)

-- a batch of the entry's changes makes what the entry does, on any tables in which it is the newest
pub batch-entry : (t : Tables) (b : Batch) → AreTables t → IsNewest b.entry.number t.audit → b.changes ≡ changes_of t b.entry → after_batch t b ≡ after_entry t b.entry
batch-entry t b h last same =
    let e = b.entry in
    ap (λ xs. set_row (after_changes t xs) (row.Entry e)) same
    ∙ ap (λ u. set_row u (row.Entry e)) (changes-effect t e.number e.moment e.kind h)
    ∙ ap (λ j. record (effect e.number e.moment e.kind t) { audit = j }) (ap (from_oldest (with_row nat_cmp entry_key e)) (effect-audit t e.number e.moment e.kind) ∙ newest e t.audit last)

-- ---- the rows of an audit
-- in a numbered audit no number is above its length
numbers-below : (n : ℕ) (j : List AuditEntry) → IsNumbered j → length j < n → IsNewest n j
numbers-below n [] h less = tt
numbers-below n (e ∷ j) h less = (omega (arith, h.0), numbers-below n j h.1 (omega arith))

-- so the next entry is the newest
next-newest : (e : AuditEntry) (j : List AuditEntry) → IsNumbered (e ∷ j) → IsNewest e.number j
next-newest e j h = numbers-below e.number j h.1 (omega (arith, h.0))

-- the rows of an audit have it
pub rows-audit : (j : List AuditEntry) → (rows_of j).audit ≡ j
rows-audit [] = refl
rows-audit (e ∷ j) = ap (λ older. e ∷ older) (rows-audit j)

pub rows-tables : (j : List AuditEntry) → IsNumbered j → AreTables (rows_of j)
rows-tables [] h = record { projects = tt; blobs = tt; pairs = tt; artifacts = tt; tags = tt; uploads = tt; jobs = tt; candidates = tt; snaps = tt; audit = tt }
rows-tables (e ∷ j) h =
    let t = rows_of j in
    let b : Batch = record { changes = changes_of t e; entry = e } in
    let tables = rows-tables j h.1 in
    subst AreTables (batch-entry t b tables (subst (IsNewest e.number) (sym (rows-audit j)) (next-newest e j h)) refl) (AreTables-set (after_changes t b.changes) (row.Entry e) (AreTables-changes t b.changes tables))

pub batch-rows : (j : List AuditEntry) (b : Batch) → IsNumbered (b.entry ∷ j) → b.changes ≡ changes_of (rows_of j) b.entry → after_batch (rows_of j) b ≡ rows_of (b.entry ∷ j)
batch-rows j b h = batch-entry (rows_of j) b (rows-tables j h.1) (subst (IsNewest b.entry.number) (sym (rows-audit j)) (next-newest b.entry j h))

pub history-numbered : (j : List AuditEntry) → History j → IsNumbered j
history-numbered [] h = tt
history-numbered (e ∷ j) h = (h.0.numbered, history-numbered j h.1)
