-- Which audits are legal, and which rows are those of their audit.
use Rattle.std.specs.Prelude.{◌≡◌, ℕ, suc, ◌≤◌, List, [], ◌∷◌, length}
use Rattle.hb_records.specs.Entries.{AuditEntry}
use Rattle.hb_records.specs.declared.entries.EntryKind.{EntryKind}
use Rattle.hb_records.specs.declared.entries.EntryKind.TheVariants.{ProjectMade, LimitSet, RulesSet, UploadBegun, UploadGrown, UploadEnded, Associated, Touched, Unassociated, ArtifactPut, ArtifactDropped, TagDropped, Pulled, JobQueued, JobClaimed, GcMarked, Taking, Collected, GcSkipped, Adopted, GcDone, RetainBegun, RetainTurn, RetainDone}
use Rattle.hb_rows.specs.Tables.{Tables}
use Rattle.hb_model.specs.Effects.{rows_of}
use Rattle.hb_model.specs.LegalProjects.{Opens, LegalProjectMade, LegalLimitSet, LegalRulesSet, LegalUploadBegun, LegalUploadGrown, LegalUploadEnded}
use Rattle.hb_model.specs.LegalBlobs.{LegalAssociated, LegalTouched, LegalUnassociated, LegalAdopted}
use Rattle.hb_model.specs.LegalArtifacts.{LegalArtifactPut, LegalArtifactDropped, LegalTagDropped, LegalPulled}
use Rattle.hb_model.specs.LegalCollect.{LegalJobQueued, LegalJobClaimed, LegalGcMarked, LegalTaking, LegalCollected, LegalSkipped, LegalGcDone}
use Rattle.hb_model.specs.LegalRetain.{LegalRetainBegun, LegalRetainTurn, LegalRetainDone}

-- the entry may stand after these, at the moment t
abbrev pub LegalKind : List AuditEntry → ℕ → EntryKind → Type 0
LegalKind j t (ProjectMade project limit) = LegalProjectMade j project
LegalKind j t (LimitSet project limit) = LegalLimitSet j project
LegalKind j t (RulesSet project rules) = LegalRulesSet j project rules
LegalKind j t (UploadBegun name) = LegalUploadBegun j name
LegalKind j t (UploadGrown upload offset) = LegalUploadGrown j upload offset
LegalKind j t (UploadEnded job upload) = LegalUploadEnded j t job upload
LegalKind j t (Associated project digest size) = LegalAssociated j t project digest size
LegalKind j t (Touched project digest) = LegalTouched j project digest
LegalKind j t (Unassociated job project digest) = LegalUnassociated j t job project digest
LegalKind j t (ArtifactPut name digest size media refs children tag) = LegalArtifactPut j t name digest size refs children tag
LegalKind j t (ArtifactDropped job name digest) = LegalArtifactDropped j t job name digest
LegalKind j t (TagDropped name tag) = LegalTagDropped j name tag
LegalKind j t (Pulled name digest) = LegalPulled j name digest
LegalKind j t (JobQueued kind) = LegalJobQueued j kind
LegalKind j t (JobClaimed job) = LegalJobClaimed j job
LegalKind j t (GcMarked job digests barred upto last) = LegalGcMarked j t job digests barred upto last
LegalKind j t (Taking job digest) = LegalTaking j job digest
LegalKind j t (Collected job digest) = LegalCollected j job digest
LegalKind j t (GcSkipped job digest why) = LegalSkipped j t job digest why
LegalKind j t (Adopted job digest size) = LegalAdopted j job digest
LegalKind j t (GcDone job) = LegalGcDone j job
LegalKind j t (RetainBegun job) = LegalRetainBegun j job
LegalKind j t (RetainTurn job name tag given) = LegalRetainTurn j job name tag given
LegalKind j t (RetainDone job) = LegalRetainDone j job

-- the moment of the newest entry
abbrev pub latest : List AuditEntry → ℕ
latest [] = 0
latest (e ∷ j) = e.moment

-- The entry may stand after an audit: it has the next number, its moment isn't before the last, and its kind
-- is legal then.
pub record Legal (j : List AuditEntry) (e : AuditEntry) : Type 0 where
  pub numbered : e.number ≡ suc (length j)
  pub later : latest j ≤ e.moment
  pub opens : j ≡ [] → Opens e.kind
  pub kind : LegalKind j e.moment e.kind

-- each entry is legal after those before it, which stand behind it
abbrev pub History : List AuditEntry → Type 0
History [] = Unit {0}
History (e ∷ j) = Legal j e × History j

-- rows that are what their audit makes
pub record Stands (rows : Tables) : Type 0 where
  pub history : History rows.audit
  pub made : rows ≡ rows_of rows.audit
