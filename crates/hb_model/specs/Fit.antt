-- Whether rows are those of their audit, and where they aren't, the first place at which they differ.
use Rattle.std.specs.Prelude.{◌≡◌, ◌≤◌, ◌<◌, ℕ, suc, not, List, [], ◌∷◌, reverse, length, take, slice_get, Some, None}
use Rattle.std.specs.declared.option.Option.{Option}
use Rattle.std.specs.List.{position}
use Rattle.hb_records.specs.Entries.{AuditEntry}
use Rattle.hb_records.specs.declared.keys.Table.{Table}
use Rattle.hb_records.specs.declared.keys.Table.TheVariants as table
use Rattle.hb_rows.specs.Tables.{Tables, entries}
use Rattle.hb_model.specs.Built.{is_built}
use Rattle.hb_model.specs.Effects.{rows_of}
use Rattle.hb_model.specs.History.{latest}
use Rattle.hb_model.specs.declared.misfits.Misfit.{Misfit}

-- each entry has its place as its number, and no moment is before the one before it
abbrev pub IsInOrder : List AuditEntry → Type 0
IsInOrder [] = Unit {0}
IsInOrder (e ∷ j) = (e.number ≡ suc (length j)) × (latest j ≤ e.moment) × IsInOrder j

-- how many entries stand before the first whose kind isn't built
abbrev pub unbuilt_at : Tables → Option ℕ
unbuilt_at t = position (λ e. not (is_built e.kind)) (entries t)

-- rows of a registry, made by entries of kinds that are built
pub record Fits (t : Tables) : Type 0 where
  pub built : unbuilt_at t ≡ None
  pub made : t ≡ rows_of t.audit
  pub ordered : IsInOrder t.audit

-- two lists are the same before this place, counted from 1, and differ there
pub record DifferAt {A : Type 0} (place : ℕ) (xs ys : List A) : Type 0 where
  pub before : ℕ
  pub counted : place ≡ suc before
  pub same : take before xs ≡ take before ys
  pub differ : ¬ (slice_get xs before ≡ slice_get ys before)

-- the entries before this place are in order, and with the one there they aren't
pub record DisorderAt (place : ℕ) (oldest_first : List AuditEntry) : Type 0 where
  pub before : ℕ
  pub counted : place ≡ suc before
  pub there : before < length oldest_first
  pub ordered : IsInOrder (reverse (take before oldest_first))
  pub disordered : ¬ (IsInOrder (reverse (take (suc before) oldest_first)))

-- ---- tables before the entries', in their order, that are those of the audit
abbrev pub SameProjects : Tables → Tables → Type 0
SameProjects t made = t.projects ≡ made.projects

abbrev pub SameToBlobs : Tables → Tables → Type 0
SameToBlobs t made = SameProjects t made × (t.blobs ≡ made.blobs)

abbrev pub SameToPairs : Tables → Tables → Type 0
SameToPairs t made = SameToBlobs t made × (t.pairs ≡ made.pairs)

abbrev pub SameToArtifacts : Tables → Tables → Type 0
SameToArtifacts t made = SameToPairs t made × (t.artifacts ≡ made.artifacts)

abbrev pub SameToTags : Tables → Tables → Type 0
SameToTags t made = SameToArtifacts t made × (t.tags ≡ made.tags)

abbrev pub SameToUploads : Tables → Tables → Type 0
SameToUploads t made = SameToTags t made × (t.uploads ≡ made.uploads)

abbrev pub SameToJobs : Tables → Tables → Type 0
SameToJobs t made = SameToUploads t made × (t.jobs ≡ made.jobs)

abbrev pub SameToCandidates : Tables → Tables → Type 0
SameToCandidates t made = SameToJobs t made × (t.candidates ≡ made.candidates)

abbrev pub SameToSnaps : Tables → Tables → Type 0
SameToSnaps t made = SameToCandidates t made × (t.snaps ≡ made.snaps)

-- this table is the first that isn't the audit's, and this is the first place in it
abbrev pub FirstAt : Table → ℕ → Tables → Tables → Type 0
FirstAt table.Project place t made = DifferAt place t.projects made.projects
FirstAt table.Blob place t made = SameProjects t made × DifferAt place t.blobs made.blobs
FirstAt table.Pair place t made = SameToBlobs t made × DifferAt place t.pairs made.pairs
FirstAt table.Artifact place t made = SameToPairs t made × DifferAt place t.artifacts made.artifacts
FirstAt table.Tag place t made = SameToArtifacts t made × DifferAt place t.tags made.tags
FirstAt table.Upload place t made = SameToTags t made × DifferAt place t.uploads made.uploads
FirstAt table.Job place t made = SameToUploads t made × DifferAt place t.jobs made.jobs
FirstAt table.Candidate place t made = SameToJobs t made × DifferAt place t.candidates made.candidates
FirstAt table.Snap place t made = SameToCandidates t made × DifferAt place t.snaps made.snaps
FirstAt table.Entry place t made = SameToSnaps t made × DisorderAt place (entries t)

-- what is found where all entries are of kinds that are built
abbrev pub TellsMade : Tables → Option Misfit → Type 0
TellsMade t None = Fits t
TellsMade t (Some m) = FirstAt m.table m.place t (rows_of t.audit)

-- An entry of a kind that isn't built comes before all else.
abbrev pub TellsFrom : Option ℕ → Tables → Option Misfit → Type 0
TellsFrom (Some before) t found = found ≡ Some (record { table = table.Entry; place = suc before })
TellsFrom None t found = TellsMade t found

-- what is found tells whether the rows fit, or the first place at which they don't
abbrev pub Tells : Tables → Option Misfit → Type 0
Tells t found = TellsFrom (unbuilt_at t) t found

-- None is told exactly of rows that fit, and nothing else is told of them
pub record FitOrNot (t : Tables) : Type 0 where
  pub fits : Tells t None → Fits t
  pub told : Fits t → Tells t None
  pub apart : (m : Misfit) → Fits t → ¬ (Tells t (Some m))
