-- The kinds of entries whose changes are built, and the room that such an entry needs.
use Rattle.std.specs.Prelude.{ℕ, ◌+◌, ◌<◌, ◌^◌, Bool, true, false, List, IfSome}
use Rattle.hb_text.specs.Names.{project_of}
use Rattle.hb_records.specs.declared.entries.EntryKind.{EntryKind}
use Rattle.hb_records.specs.declared.entries.EntryKind.TheVariants.{ProjectMade, UploadBegun, UploadEnded, Associated, Touched, ArtifactPut, Pulled}
use Rattle.hb_rows.specs.Tables.{Tables, project_at}

-- a registry makes entries of these kinds alone, and fits rows of no other
abbrev pub is_built : EntryKind → Bool
is_built (ProjectMade project limit) = true
is_built (UploadBegun name) = true
is_built (UploadEnded job upload) = true
is_built (Associated project digest size) = true
is_built (Touched project digest) = true
is_built (ArtifactPut name digest size media refs children tag) = true
is_built (Pulled name digest) = true
is_built _ = false

-- what the project uses has room for the size in its row
abbrev pub CanAdd : Tables → List ℕ → ℕ → Type 0
CanAdd t project size = IfSome (project_at t project) (λ row. row.used + size < 2 ^ 128)

abbrev pub HasRoom : Tables → EntryKind → Type 0
HasRoom t (Associated project digest size) = CanAdd t project size
HasRoom t (ArtifactPut name digest size media refs children tag) = CanAdd t (project_of name) size
HasRoom t _ = Unit {0}
