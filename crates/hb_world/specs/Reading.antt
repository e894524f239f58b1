-- How the rows of a keeper are read: table by table, and page by page.
use Rattle.std.specs.Prelude.{◌≡◌, ◌<◌, List, ◌∷◌, ◌++◌, [], map, fold, length, Option, Some, None}
use Rattle.hb_records.specs.declared.batches.Row.{Row}
use Rattle.hb_records.specs.declared.batches.Row.TheVariants as row
use Rattle.hb_records.specs.declared.keys.Key.{Key}
use Rattle.hb_records.specs.declared.keys.Table.{Table}
use Rattle.hb_records.specs.declared.keys.Table.TheVariants as table
use Rattle.hb_records.specs.declared.pages.Page.{Page}
use Rattle.hb_records.specs.declared.pages.Page.TheVariants as page
use Rattle.hb_rows.specs.Batches.{set_row}
use Rattle.hb_rows.specs.Pages.{key_of_project, key_of_blob, key_of_pair, key_of_artifact, key_of_tag, key_of_upload, key_of_job, key_of_candidate, key_of_snap, key_of_entry}
use Rattle.hb_rows.specs.Tables.{Tables, entries}

-- the rows of a table, in the order of their keys
abbrev pub rows_in : Tables → Table → List Row
rows_in t table.Project = map row.Project t.projects
rows_in t table.Blob = map row.Blob t.blobs
rows_in t table.Pair = map row.Pair t.pairs
rows_in t table.Artifact = map row.Artifact t.artifacts
rows_in t table.Tag = map row.Tag t.tags
rows_in t table.Upload = map row.Upload t.uploads
rows_in t table.Job = map row.Job t.jobs
rows_in t table.Candidate = map row.Candidate t.candidates
rows_in t table.Snap = map row.Snap t.snaps
rows_in t table.Entry = map row.Entry (entries t)

-- the rows of a page
abbrev pub rows_on : Page → List Row
rows_on (page.Project rows) = map row.Project rows
rows_on (page.Blob rows) = map row.Blob rows
rows_on (page.Pair rows) = map row.Pair rows
rows_on (page.Artifact rows) = map row.Artifact rows
rows_on (page.Tag rows) = map row.Tag rows
rows_on (page.Upload rows) = map row.Upload rows
rows_on (page.Job rows) = map row.Job rows
rows_on (page.Candidate rows) = map row.Candidate rows
rows_on (page.Snap rows) = map row.Snap rows
rows_on (page.Entry rows) = map row.Entry rows

abbrev pub key_of_row : Row → Key
key_of_row (row.Project r) = key_of_project r
key_of_row (row.Blob r) = key_of_blob r
key_of_row (row.Pair r) = key_of_pair r
key_of_row (row.Artifact r) = key_of_artifact r
key_of_row (row.Tag r) = key_of_tag r
key_of_row (row.Upload r) = key_of_upload r
key_of_row (row.Job r) = key_of_job r
key_of_row (row.Candidate r) = key_of_candidate r
key_of_row (row.Snap r) = key_of_snap r
key_of_row (row.Entry r) = key_of_entry r

-- the tables with these rows set, in order
abbrev pub with_rows : Tables → List Row → Tables
with_rows = fold set_row

-- Behind which key the page after these rows begins: behind that of the last of them, and none comes after fewer
-- rows than a page has room for.
abbrev pub IsNext : List Row → Option Key → Type 0
IsNext rows None = length rows < 256
IsNext rows (Some key) = (front : List Row) × (last : Row) × (rows ≡ front ++ last ∷ []) × (key ≡ key_of_row last)

-- the rows of a page were set, and the next page begins behind the key that is given
pub record IsRead (old new : Tables) (rows : List Row) (behind : Option Key) : Type 0 where
  pub set : new ≡ with_rows old rows
  pub next : IsNext rows behind
