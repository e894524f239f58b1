-- Which entries are about a digest.
use Rattle.std.specs.Prelude.{ℕ, Bool, false, ◌&&◌, ◌||◌, List}
use Rattle.hb_text.specs.declared.digests.Digest.{Digest}
use Rattle.hb_records.specs.declared.entries.EntryKind.{EntryKind}
use Rattle.hb_records.specs.declared.entries.EntryKind.TheVariants.{Associated, Touched, ArtifactPut, GcMarked, Taking, Collected, GcSkipped, Adopted}
use Rattle.hb_text.specs.Names.{project_of}
use Rattle.hb_model.specs.Words.{same_text, same_digest, among}
use Rattle.hb_model.specs.CollectEffects.{is_failure}

-- content is stored under the digest: it is pushed, put as a manifest, or adopted
abbrev pub stores : Digest → EntryKind → Bool
stores d (Associated project digest size) = same_digest d digest
stores d (ArtifactPut name digest size media refs children tag) = same_digest d digest
stores d (Adopted job digest size) = same_digest d digest
stores d _ = false

abbrev pub takes_digest : Digest → EntryKind → Bool
takes_digest d (Taking job digest) = same_digest d digest
takes_digest d _ = false

abbrev pub collects : Digest → EntryKind → Bool
collects d (Collected job digest) = same_digest d digest
collects d _ = false

-- the digest is named, and not stored
abbrev pub touches : Digest → EntryKind → Bool
touches d (Touched project digest) = same_digest d digest
touches d (ArtifactPut name digest size media refs children tag) = among d refs
touches d _ = false

-- the digest's row is marked, or left after a removal that failed or came too late
abbrev pub marks : Digest → EntryKind → Bool
marks d (GcMarked job digests barred upto last) = among d digests
marks d (GcSkipped job digest why) = is_failure why && same_digest d digest
marks d _ = false

-- the entry changes the row of the digest's blob
abbrev pub moves : Digest → EntryKind → Bool
moves d kind = stores d kind || takes_digest d kind || collects d kind || touches d kind || marks d kind

-- the entry names the digest in the project: by a push, a touch, or a manifest
abbrev pub names : List ℕ → Digest → EntryKind → Bool
names p d (Associated project digest size) = same_text p project && same_digest d digest
names p d (Touched project digest) = same_text p project && same_digest d digest
names p d (ArtifactPut name digest size media refs children tag) = same_text p (project_of name) && (same_digest d digest || among d refs)
names p d _ = false

-- the same in any project, or by an adoption
abbrev pub names_somewhere : Digest → EntryKind → Bool
names_somewhere d (Associated project digest size) = same_digest d digest
names_somewhere d (Touched project digest) = same_digest d digest
names_somewhere d (ArtifactPut name digest size media refs children tag) = same_digest d digest || among d refs
names_somewhere d (Adopted job digest size) = same_digest d digest
names_somewhere d _ = false
