-- The keys of all tables in one order.
use Rattle.std.specs.Prelude.{ℕ}
use Rattle.std.specs.declared.cmp.Ordering.{Ordering}
use Rattle.std.specs.declared.cmp.Ordering.TheVariants.{Equal}
use Rattle.std.specs.Ordering.{nat_cmp, ordering_then}
use Rattle.hb_text.specs.Orders.{text_cmp, digest_cmp}
use Rattle.hb_records.specs.declared.keys.Table.{Table}
use Rattle.hb_records.specs.declared.keys.Table.TheVariants as table
use Rattle.hb_records.specs.declared.keys.Key.{Key}
use Rattle.hb_records.specs.declared.keys.Key.TheVariants as key
use Rattle.hb_records.specs.Orders.{named_digest_cmp, named_tag_cmp, job_digest_cmp, job_tag_cmp}

-- the table whose row a key is for
abbrev pub table_of : Key → Table
table_of (key.Project name) = table.Project
table_of (key.Blob digest) = table.Blob
table_of (key.Pair project digest) = table.Pair
table_of (key.Artifact name digest) = table.Artifact
table_of (key.Tag name tag) = table.Tag
table_of (key.Upload id) = table.Upload
table_of (key.Job number) = table.Job
table_of (key.Candidate job digest) = table.Candidate
table_of (key.Snap job name tag) = table.Snap
table_of (key.Entry number) = table.Entry

-- the place of a table among the ten
abbrev pub place_of_table : Table → ℕ
place_of_table table.Project = 0
place_of_table table.Blob = 1
place_of_table table.Pair = 2
place_of_table table.Artifact = 3
place_of_table table.Tag = 4
place_of_table table.Upload = 5
place_of_table table.Job = 6
place_of_table table.Candidate = 7
place_of_table table.Snap = 8
place_of_table table.Entry = 9

-- two keys of one table as its keys are; keys of two tables tie here
abbrev pub in_table_cmp : Key → Key → Ordering
in_table_cmp (key.Project a) (key.Project b) = text_cmp a b
in_table_cmp (key.Blob a) (key.Blob b) = digest_cmp a b
in_table_cmp (key.Pair a d) (key.Pair b e) = named_digest_cmp (a, d) (b, e)
in_table_cmp (key.Artifact a d) (key.Artifact b e) = named_digest_cmp (a, d) (b, e)
in_table_cmp (key.Tag a s) (key.Tag b t) = named_tag_cmp (a, s) (b, t)
in_table_cmp (key.Upload a) (key.Upload b) = nat_cmp a b
in_table_cmp (key.Job a) (key.Job b) = nat_cmp a b
in_table_cmp (key.Candidate a d) (key.Candidate b e) = job_digest_cmp (a, d) (b, e)
in_table_cmp (key.Snap i a s) (key.Snap j b t) = job_tag_cmp (i, (a, s)) (j, (b, t))
in_table_cmp (key.Entry a) (key.Entry b) = nat_cmp a b
in_table_cmp a b = Equal

-- keys of two tables as the tables are, and keys of one table as its keys are
abbrev pub key_cmp : Key → Key → Ordering
key_cmp a b = ordering_then (nat_cmp (place_of_table (table_of a)) (place_of_table (table_of b))) (in_table_cmp a b)
