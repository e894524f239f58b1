-- The rows as vectors: the tables that they are, and the room that they have.
use Rattle.std.specs.Prelude.{ℕ, ◌+◌, ◌≤◌, vec_len, reverse}
use Rattle.std.specs.Vec.{vec_capacity}
use Rattle.hb_rows.specs.declared.lists.Lists.{Lists}
use Rattle.hb_rows.specs.Tables.{Tables}

abbrev pub tables_of : Lists → Tables
tables_of a = record {
  projects = a.projects.items;
  blobs = a.blobs.items;
  pairs = a.pairs.items;
  artifacts = a.artifacts.items;
  tags = a.tags.items;
  uploads = a.uploads.items;
  jobs = a.jobs.items;
  candidates = a.candidates.items;
  snaps = a.snaps.items;
  audit = reverse a.entries.items;
}

-- each table has room for n more rows
pub record HasRoom (n : ℕ) (a : Lists) : Type 0 where
  pub projects : vec_len a.projects + n ≤ vec_capacity a.projects
  pub blobs : vec_len a.blobs + n ≤ vec_capacity a.blobs
  pub pairs : vec_len a.pairs + n ≤ vec_capacity a.pairs
  pub artifacts : vec_len a.artifacts + n ≤ vec_capacity a.artifacts
  pub tags : vec_len a.tags + n ≤ vec_capacity a.tags
  pub uploads : vec_len a.uploads + n ≤ vec_capacity a.uploads
  pub jobs : vec_len a.jobs + n ≤ vec_capacity a.jobs
  pub candidates : vec_len a.candidates + n ≤ vec_capacity a.candidates
  pub snaps : vec_len a.snaps + n ≤ vec_capacity a.snaps
  pub entries : vec_len a.entries + n ≤ vec_capacity a.entries
