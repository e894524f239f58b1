-- When entries about projects and uploads are legal.
use Rattle.std.specs.Prelude.{◌≡◌, ℕ, ◌≤◌, ◌^◌, negsuc, Bool, false, List, None, IsTrue, IsSome, IfSome, ◌⊎◌, nat_eq, length, codes}
use Rattle.std.specs.List.{find}
use Rattle.hb_text.specs.Names.{project_of}
use Rattle.hb_records.specs.Entries.{AuditEntry}
use Rattle.hb_records.specs.declared.entries.EntryKind.{EntryKind}
use Rattle.hb_records.specs.declared.entries.EntryKind.TheVariants.{ProjectMade, UploadBegun, UploadGrown}
use Rattle.hb_records.specs.declared.rules.Rules.{Rules}
use Rattle.hb_model.specs.Words.{is_over, some_and}
use Rattle.hb_model.specs.Jobs.{is_running, is_collect}
use Rattle.hb_model.specs.Registry.{project_in, upload_in}
use Rattle.hb_model.specs.Replay.{replay}

-- the project that is there from the start
abbrev pub library : List ℕ
library = codes "library"

-- the first entry of an audit makes it, without a limit
abbrev pub Opens : EntryKind → Type 0
Opens (ProjectMade project limit) = (project ≡ library) × (limit ≡ negsuc 0)
Opens _ = ⊥

pub record LegalProjectMade (j : List AuditEntry) (project : List ℕ) : Type 0 where
  pub new : project_in (replay j) project ≡ None

pub record LegalLimitSet (j : List AuditEntry) (project : List ℕ) : Type 0 where
  pub known : IsSome (project_in (replay j) project)

pub record LegalRulesSet (j : List AuditEntry) (project : List ℕ) (rules : Rules) : Type 0 where
  pub known : IsSome (project_in (replay j) project)
  pub few_immutes : length rules.immutes ≤ 15
  pub few_retains : length rules.retains ≤ 15

pub record LegalUploadBegun (j : List AuditEntry) (name : List ℕ) : Type 0 where
  pub known : IsSome (project_in (replay j) (project_of name))

-- an upload doesn't shrink, and has at most 2^36 bytes
pub record LegalUploadGrown (j : List AuditEntry) (upload offset : ℕ) : Type 0 where
  pub known : IsSome (upload_in (replay j) upload)
  pub grows : IfSome (upload_in (replay j) upload) (λ x. x.offset ≤ offset)
  pub small : offset ≤ 2 ^ 36

-- the entry of this number begins or grows the upload, whose id is the number of its beginning
abbrev pub moves_upload : ℕ → ℕ → EntryKind → Bool
moves_upload id n (UploadBegun name) = nat_eq id n
moves_upload id n (UploadGrown upload offset) = nat_eq id upload
moves_upload id n _ = false

-- the window since it last moved is over at t
abbrev pub is_expired : List AuditEntry → ℕ → ℕ → Bool
is_expired j upload t = some_and (λ e. is_over e.moment t) (find (λ e. moves_upload upload e.number e.kind) j)

-- a client ends its upload; a collection ends one that has expired
pub record LegalUploadEnded (j : List AuditEntry) (t job upload : ℕ) : Type 0 where
  pub known : IsSome (upload_in (replay j) upload)
  pub by_job : (job ≡ 0) ⊎ (IsTrue (is_running is_collect j job) × IsTrue (is_expired j upload t))
