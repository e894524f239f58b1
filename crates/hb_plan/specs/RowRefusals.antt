-- The causes of the refusals, each read from the rows: the refusal where it is to come, else None. While audits
-- have entries of the built kinds alone, no tag is immutable, no removal is under way, and nothing placed is
-- gone.
use Rattle.std.specs.Prelude.{ℕ, ◌+◌, Bool, not, ◌||◌, List, Option, Some, None, is_some, unwrap_or, nat_eq, option_map}
use Rattle.std.specs.List.{find}
use Rattle.hb_text.specs.declared.digests.Digest.{Digest}
use Rattle.hb_records.specs.declared.notes.Placement.{Placement}
use Rattle.hb_records.specs.declared.records.Project.{Project}
use Rattle.hb_records.specs.declared.records.Blob.{Blob}
use Rattle.hb_records.specs.declared.records.Assoc.{Assoc}
use Rattle.hb_rows.specs.Tables.{Tables, project_at, pair_at, artifact_at, upload_at}
use Rattle.hb_model.specs.Words.{same_text, some_and}
use Rattle.hb_model.specs.LegalBlobs.{allows}
use Rattle.hb_desk.specs.Refusing.{unless}
use Rattle.hb_desk.specs.declared.refusals.Refusal.{Refusal}
use Rattle.hb_desk.specs.declared.refusals.Refusal.TheVariants.{NoProject, UploadUnknown, MissingRef, MissingChild, OverLimit}

abbrev pub no_project_row : Tables → List ℕ → Option Refusal
no_project_row r p = unless (is_some (project_at r p)) NoProject

abbrev pub no_upload_row : Tables → ℕ → Option Refusal
no_upload_row r upload = unless (is_some (upload_at r upload)) UploadUnknown

-- the repository has no such upload
abbrev pub no_upload_row_of : Tables → List ℕ → ℕ → Option Refusal
no_upload_row_of r name upload = unless (some_and (λ row. same_text name row.name) (upload_at r upload)) UploadUnknown

-- the first reference that the project hasn't
abbrev pub missing_ref_row : Tables → List ℕ → List Digest → Option Refusal
missing_ref_row r p refs = option_map (λ d. MissingRef d) (find (λ d. not (is_some (pair_at r p d))) refs)

-- the first child that the repository hasn't
abbrev pub missing_child_row : Tables → List ℕ → List Digest → Option Refusal
missing_child_row r name children = option_map (λ d. MissingChild d) (find (λ d. not (is_some (artifact_at r name d))) children)

-- nothing is added, or the project's limit allows what it then uses
abbrev pub row_fits : Option Assoc → ℕ → Project → Bool
row_fits pair size row = is_some pair || nat_eq size 0 || allows row.limit (row.used + size)

abbrev pub over_limit_of : Option Assoc → ℕ → Option Project → Option Refusal
over_limit_of pair size None = None
over_limit_of pair size (Some row) = unless (row_fits pair size row) (OverLimit row.used size row.limit)

-- the project would use more than its limit
abbrev pub over_limit_row : Tables → List ℕ → Digest → ℕ → Option Refusal
over_limit_row r p d size = over_limit_of (pair_at r p d) size (project_at r p)

-- what is settled has the size that is stored, and else the placement's
abbrev pub stored_size : Option Blob → Placement → ℕ
stored_size blob x = unwrap_or (option_map (λ (row : Blob). row.size) blob) x.size
