-- How the logs of the worked examples are written, which audits they are, and the entries that come together.
use Rattle.std.specs.Prelude.{ℕ, ◌+◌, negsuc, List, [], ◌∷◌, map, take, Some}
use Rattle.hb_text.specs.declared.digests.Digest.{Digest}
use Rattle.hb_text.specs.Names.{project_of}
use Rattle.hb_records.specs.Entries.{AuditEntry}
use Rattle.hb_records.specs.declared.entries.EntryKind.{EntryKind}
use Rattle.hb_records.specs.declared.entries.EntryKind.TheVariants.{ProjectMade, UploadBegun, UploadEnded, Associated, ArtifactPut}
use Rattle.hb_model.specs.ExampleNames.{library, image_type, index_type}

-- when and what was done; the oldest comes first
abbrev pub Log : Type 0
Log = List (ℕ × EntryKind)

-- all of them at the same moment
abbrev pub at : ℕ → List EntryKind → Log
at moment kinds = map (λ kind. (moment, kind)) kinds

abbrev pub entry : ℕ → ℕ → EntryKind → AuditEntry
entry n moment kind = record { number = n; moment = moment; kind = kind }

-- the audit that goes on with a log, whose first entry has the number n
abbrev pub continued : ℕ → List AuditEntry → Log → List AuditEntry
continued n older [] = older
continued n older (x ∷ later) = continued (n + 1) (entry n x.0 x.1 ∷ older) later

-- the audit that a log is: numbered from 1, and with its newest entry first
abbrev pub audit_of : Log → List AuditEntry
audit_of log = continued 1 [] log

-- the audit after the first so many entries
abbrev pub after : ℕ → Log → List AuditEntry
after n log = audit_of (take n log)

-- ---- entries that come together; the number is that of the first, and so the upload's
-- the first entry of each audit
abbrev pub opened : EntryKind
opened = ProjectMade library (negsuc 0)

-- a push: its upload begins and ends, and the project has the content
abbrev pub pushed : ℕ → List ℕ → Digest → ℕ → List EntryKind
pushed upload name digest size = UploadBegun name ∷ UploadEnded 0 upload ∷ Associated (project_of name) digest size ∷ []

-- a push of content or of a manifest that is refused: its upload begins and ends
abbrev pub refused : ℕ → List ℕ → List EntryKind
refused upload name = UploadBegun name ∷ UploadEnded 0 upload ∷ []

-- a manifest of 400 bytes with these references, under a tag
abbrev pub image_entry : List ℕ → Digest → List Digest → List ℕ → EntryKind
image_entry name digest refs tag = ArtifactPut name digest 400 image_type refs [] (Some tag)

-- an index of 300 bytes with these children, under a tag
abbrev pub index_entry : List ℕ → Digest → List Digest → List ℕ → EntryKind
index_entry name digest children tag = ArtifactPut name digest 300 index_type [] children (Some tag)

-- the same with the upload that served them
abbrev pub image_put : ℕ → List ℕ → Digest → List Digest → List ℕ → List EntryKind
image_put upload name digest refs tag = UploadBegun name ∷ UploadEnded 0 upload ∷ image_entry name digest refs tag ∷ []

abbrev pub index_put : ℕ → List ℕ → Digest → List Digest → List ℕ → List EntryKind
index_put upload name digest children tag = UploadBegun name ∷ UploadEnded 0 upload ∷ index_entry name digest children tag ∷ []
