-- Entries that name a digest for a project, and the notes that such an event leaves.
use Rattle.std.specs.Prelude.{◌≡◌, ℕ, Bool}
use Rattle.std.specs.List.{filter}
use Rattle.hb_text.specs.declared.digests.Digest.{Digest}
use Rattle.hb_records.specs.declared.entries.EntryKind.{EntryKind}
use Rattle.hb_records.specs.declared.entries.EntryKind.TheVariants.{Associated, Touched, ArtifactPut}
use Rattle.hb_records.specs.declared.notes.Notes.{Notes}
use Rattle.hb_records.specs.declared.notes.Placement.{Placement}

-- the entry associates this digest, with this size, or touches it, whatever its size
abbrev pub Names : EntryKind → Digest → ℕ → Type 0
Names (Associated project digest size) d s = (digest ≡ d) × (size ≡ s)
Names (Touched project digest) d s = digest ≡ d
Names (ArtifactPut name digest size media refs children tag) d s = (digest ≡ d) × (size ≡ s)
Names _ d s = ⊥

-- The notes m are n with some of its placements; which stages are out and which jobs are claimed is free.
pub record FewerPlacements (n m : Notes) : Type 0 where
  pub test : Placement → Bool
  pub placements : m.placements ≡ filter test n.placements
  pub sealed : m.sealed ≡ n.sealed
  pub spells : m.spells ≡ n.spells
  pub sightings : m.sightings ≡ n.sightings
