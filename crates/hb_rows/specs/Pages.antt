-- Pages: the next rows of a table behind a key.
use Rattle.std.specs.Prelude.{Bool, true, List, Option, Some, None, take}
use Rattle.std.specs.List.{filter}
use Rattle.std.specs.Ordering.{is_lt}
use Rattle.hb_records.specs.declared.records.Project.{Project}
use Rattle.hb_records.specs.declared.records.Blob.{Blob}
use Rattle.hb_records.specs.declared.records.Assoc.{Assoc}
use Rattle.hb_records.specs.declared.records.Artifact.{Artifact}
use Rattle.hb_records.specs.declared.records.TagRow.{TagRow}
use Rattle.hb_records.specs.declared.records.Upload.{Upload}
use Rattle.hb_records.specs.declared.jobs.JobRow.{JobRow}
use Rattle.hb_records.specs.declared.jobs.Candidate.{Candidate}
use Rattle.hb_records.specs.declared.jobs.SnapTag.{SnapTag}
use Rattle.hb_records.specs.declared.keys.Key.{Key}
use Rattle.hb_records.specs.declared.keys.Key.TheVariants as key
use Rattle.hb_records.specs.declared.keys.Table.{Table}
use Rattle.hb_records.specs.declared.keys.Table.TheVariants as table
use Rattle.hb_records.specs.declared.pages.Page.{Page}
use Rattle.hb_records.specs.declared.pages.Page.TheVariants as page
use Rattle.hb_records.specs.Entries.{AuditEntry}
use Rattle.hb_records.specs.Keys.{key_cmp}
use Rattle.hb_rows.specs.Tables.{Tables, entries}

-- the key of a row, as a key among those of all tables
abbrev pub key_of_project : Project → Key
key_of_project row = key.Project row.name

abbrev pub key_of_blob : Blob → Key
key_of_blob row = key.Blob row.digest

abbrev pub key_of_pair : Assoc → Key
key_of_pair row = key.Pair row.project row.digest

abbrev pub key_of_artifact : Artifact → Key
key_of_artifact row = key.Artifact row.name row.digest

abbrev pub key_of_tag : TagRow → Key
key_of_tag row = key.Tag row.name row.tag

abbrev pub key_of_upload : Upload → Key
key_of_upload row = key.Upload row.id

abbrev pub key_of_job : JobRow → Key
key_of_job row = key.Job row.number

abbrev pub key_of_candidate : Candidate → Key
key_of_candidate row = key.Candidate row.job row.digest

abbrev pub key_of_snap : SnapTag → Key
key_of_snap row = key.Snap row.job row.name row.tag

abbrev pub key_of_entry : AuditEntry → Key
key_of_entry row = key.Entry row.number

-- whether a key is above the one behind which a page begins; where there is none, each is
abbrev pub is_behind : Option Key → Key → Bool
is_behind None k = true
is_behind (Some after) k = is_lt (key_cmp after k)

-- the first 256 rows behind a key, where `key` gives a row's
abbrev pub rows_behind : {Row : Type 0} → (Row → Key) → Option Key → List Row → List Row
rows_behind key after rows = take 256 (filter (λ row. is_behind after (key row)) rows)

-- the page of a table behind a key
abbrev pub page_of : Tables → Table → Option Key → Page
page_of t table.Project after = page.Project (rows_behind key_of_project after t.projects)
page_of t table.Blob after = page.Blob (rows_behind key_of_blob after t.blobs)
page_of t table.Pair after = page.Pair (rows_behind key_of_pair after t.pairs)
page_of t table.Artifact after = page.Artifact (rows_behind key_of_artifact after t.artifacts)
page_of t table.Tag after = page.Tag (rows_behind key_of_tag after t.tags)
page_of t table.Upload after = page.Upload (rows_behind key_of_upload after t.uploads)
page_of t table.Job after = page.Job (rows_behind key_of_job after t.jobs)
page_of t table.Candidate after = page.Candidate (rows_behind key_of_candidate after t.candidates)
page_of t table.Snap after = page.Snap (rows_behind key_of_snap after t.snaps)
page_of t table.Entry after = page.Entry (rows_behind key_of_entry after (entries t))
