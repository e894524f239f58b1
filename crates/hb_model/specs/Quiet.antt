-- Entries that touch no content, and the notes that tell of content.
use Rattle.std.specs.Prelude.{◌≡◌, Bool, true, false}
use Rattle.hb_records.specs.declared.entries.EntryKind.{EntryKind}
use Rattle.hb_records.specs.declared.entries.EntryKind.TheVariants.{ProjectMade, LimitSet, RulesSet, UploadBegun, UploadGrown, UploadEnded, Associated, Touched, Unassociated, ArtifactPut, ArtifactDropped, TagDropped, Pulled, JobQueued, JobClaimed, GcMarked, Taking, Collected, GcSkipped, Adopted, GcDone, RetainBegun, RetainTurn, RetainDone}
use Rattle.hb_records.specs.declared.notes.Notes.{Notes}

-- It stores nothing, takes nothing from the store or from a project, and names no digest. What artifacts need may
-- only become less.
abbrev pub is_quiet : EntryKind → Bool
is_quiet (ProjectMade project limit) = true
is_quiet (LimitSet project limit) = true
is_quiet (RulesSet project rules) = true
is_quiet (UploadBegun name) = true
is_quiet (UploadGrown upload offset) = true
is_quiet (UploadEnded job upload) = true
is_quiet (Associated project digest size) = false
is_quiet (Touched project digest) = false
is_quiet (Unassociated job project digest) = false
is_quiet (ArtifactPut name digest size media refs children tag) = false
is_quiet (ArtifactDropped job name digest) = true
is_quiet (TagDropped name tag) = true
is_quiet (Pulled name digest) = true
is_quiet (JobQueued kind) = true
is_quiet (JobClaimed job) = true
is_quiet (GcMarked job digests barred upto last) = false
is_quiet (Taking job digest) = false
is_quiet (Collected job digest) = false
is_quiet (GcSkipped job digest why) = false
is_quiet (Adopted job digest size) = false
is_quiet (GcDone job) = true
is_quiet (RetainBegun job) = true
is_quiet (RetainTurn job name tag given) = true
is_quiet (RetainDone job) = true

-- The notes m have of content what n has; which stages are out and which jobs are claimed is free.
pub record SameContentNotes (n m : Notes) : Type 0 where
  pub sealed : m.sealed ≡ n.sealed
  pub placements : m.placements ≡ n.placements
  pub spells : m.spells ≡ n.spells
  pub sightings : m.sightings ≡ n.sightings
