-- The rows that the batches of an audit make, one after the other, and a short log of retention.
use Rattle.std.specs.Prelude.{◌≡◌, List, [], ◌∷◌, ◌++◌}
use Rattle.hb_records.specs.Entries.{AuditEntry}
use Rattle.hb_records.specs.declared.batches.Row.TheVariants as row
use Rattle.hb_records.specs.declared.entries.EntryKind.TheVariants.{RulesSet, Associated, JobQueued, JobClaimed, RetainBegun, RetainTurn, RetainDone}
use Rattle.hb_records.specs.declared.jobs.JobKind.TheVariants.{Retain}
use Rattle.hb_records.specs.declared.jobs.TagVerdict.TheVariants as turn
use Rattle.hb_rows.specs.Tables.{Tables, empty_tables}
use Rattle.hb_rows.specs.Batches.{set_row, after_changes}
use Rattle.hb_model.specs.Changes.{changes_of}
use Rattle.hb_model.specs.Effects.{rows_of}
use Rattle.hb_model.specs.ExampleNames.{library, repo_a, braces, image}
use Rattle.hb_model.specs.ExampleLogs.{Log, at, opened, image_entry}
use Rattle.hb_model.specs.RetainExamples.{keep_two, tag_of}

-- an entry's changes in order, and then the entry
abbrev pub with_batch : Tables → AuditEntry → Tables
with_batch t e = set_row (after_changes t (changes_of t e)) (row.Entry e)

abbrev pub rows_by_batches : List AuditEntry → Tables
rows_by_batches [] = empty_tables
rows_by_batches (e ∷ j) = with_batch (rows_by_batches j) e

-- each entry's batch makes of the rows before it the rows after it
abbrev pub BatchesMakeRows : List AuditEntry → Type 0
BatchesMakeRows [] = Unit {0}
BatchesMakeRows (e ∷ j) = (with_batch (rows_of j) e ≡ rows_of (e ∷ j)) × BatchesMakeRows j

-- four tags, two of which the rules leave out: one is immutable, and one is dropped
abbrev pub two_of_four_kept : Log
two_of_four_kept = at 0 (opened ∷ RulesSet library keep_two ∷ Associated library braces 2 ∷ [])
    ++ at 1000000 (image_entry repo_a image (braces ∷ []) (tag_of 1) ∷ image_entry repo_a image (braces ∷ []) (tag_of 2) ∷ [])
    ++ at 1000001 (image_entry repo_a image (braces ∷ []) (tag_of 3) ∷ image_entry repo_a image (braces ∷ []) (tag_of 4) ∷ [])
    ++ at 1000002 (JobQueued (Retain library) ∷ JobClaimed 8 ∷ RetainBegun 8 ∷ RetainTurn 8 repo_a (tag_of 1) turn.Immutable ∷ RetainTurn 8 repo_a (tag_of 2) turn.Dropped ∷ RetainDone 8 ∷ [])
