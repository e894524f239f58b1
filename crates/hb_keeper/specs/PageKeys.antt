-- What holds of every page that a keeper gives, also where it doesn't tell its rows.
use Rattle.std.specs.Prelude.{◌≡◌, ◌≤◌, IsTrue, List, map, length, Option}
use Rattle.std.specs.List.{AllByRecursion}
use Rattle.hb_base.specs.Tables.{Rises}
use Rattle.hb_records.specs.Keys.{key_cmp}
use Rattle.hb_records.specs.declared.keys.Key.{Key}
use Rattle.hb_records.specs.declared.keys.Table.{Table}
use Rattle.hb_records.specs.declared.keys.Table.TheVariants as table
use Rattle.hb_records.specs.declared.pages.Page.{Page}
use Rattle.hb_records.specs.declared.pages.Page.TheVariants as page
use Rattle.hb_rows.specs.Pages.{is_behind, key_of_project, key_of_blob, key_of_pair, key_of_artifact, key_of_tag, key_of_upload, key_of_job, key_of_candidate, key_of_snap, key_of_entry}

-- the table whose rows a page has
abbrev pub table_of_page : Page → Table
table_of_page (page.Project rows) = table.Project
table_of_page (page.Blob rows) = table.Blob
table_of_page (page.Pair rows) = table.Pair
table_of_page (page.Artifact rows) = table.Artifact
table_of_page (page.Tag rows) = table.Tag
table_of_page (page.Upload rows) = table.Upload
table_of_page (page.Job rows) = table.Job
table_of_page (page.Candidate rows) = table.Candidate
table_of_page (page.Snap rows) = table.Snap
table_of_page (page.Entry rows) = table.Entry

-- the keys of its rows
abbrev pub keys_of : Page → List Key
keys_of (page.Project rows) = map key_of_project rows
keys_of (page.Blob rows) = map key_of_blob rows
keys_of (page.Pair rows) = map key_of_pair rows
keys_of (page.Artifact rows) = map key_of_artifact rows
keys_of (page.Tag rows) = map key_of_tag rows
keys_of (page.Upload rows) = map key_of_upload rows
keys_of (page.Job rows) = map key_of_job rows
keys_of (page.Candidate rows) = map key_of_candidate rows
keys_of (page.Snap rows) = map key_of_snap rows
keys_of (page.Entry rows) = map key_of_entry rows

-- A page of this table behind a key: its keys rise and are above that key, and there are at most 256.
pub record IsPageBehind (table : Table) (after : Option Key) (page : Page) : Type 0 where
  pub of_table : table_of_page page ≡ table
  pub few : length (keys_of page) ≤ 256
  pub rises : Rises key_cmp (λ key. key) (keys_of page)
  pub behind : AllByRecursion (λ key. IsTrue (is_behind after key)) (keys_of page)
