-- A retention job over five tags.
use Rattle.std.specs.Prelude.{ℕ, ◌+◌, ◌*◌, List, [], ◌∷◌, ◌++◌, codes}
use Rattle.hb_records.specs.declared.entries.EntryKind.TheVariants.{RulesSet, JobQueued, JobClaimed, RetainBegun, RetainTurn, RetainDone}
use Rattle.hb_records.specs.declared.jobs.JobKind.TheVariants.{Retain}
use Rattle.hb_records.specs.declared.jobs.TagVerdict.TheVariants as turn
use Rattle.hb_records.specs.declared.rules.Rules.{Rules}
use Rattle.hb_records.specs.declared.rules.Template.TheVariants.{PushedLatest}
use Rattle.hb_records.specs.Retention.{SnapItem}
use Rattle.hb_model.specs.ExampleNames.{library, repo_a, braces, image}
use Rattle.hb_model.specs.ExampleLogs.{Log, at, opened, pushed, image_put}
use Rattle.hb_model.specs.ImmutabilityExamples.{matching}

-- the tags `t1` to `t9`
abbrev pub tag_of : ℕ → List ℕ
tag_of i = codes "t" ++ (48 + i) ∷ []

-- t1 is immutable, and the two tags of a repository that were pushed last are kept
abbrev pub keep_two : Rules
keep_two = record {
  immutes = record { repo = matching (codes "**"); tag = matching (tag_of 1) } ∷ [];
  retains = record { template = PushedLatest 2; repo = matching (codes "**"); tag = matching (codes "**") } ∷ [];
}

-- the tag is put as entry 5 + 3 * i
abbrev pub tag_put : ℕ → Log
tag_put i = at (1000000 + i) (image_put (3 + 3 * i) repo_a image (braces ∷ []) (tag_of i))

-- t1 to t5 are put, one in each second. The job begins ten seconds after 1,000,000, t2 is put again, and the
-- core stops after two turns. Another claim ends the job.
abbrev pub two_of_five_kept : Log
two_of_five_kept = at 0 (opened ∷ RulesSet library keep_two ∷ pushed 3 repo_a braces 2)
    ++ tag_put 1 ++ tag_put 2 ++ tag_put 3 ++ tag_put 4 ++ tag_put 5
    ++ at 1000010 (
    JobQueued (Retain library) ∷ JobClaimed 21 ∷ RetainBegun 21
    ∷ image_put 24 repo_a image (braces ∷ []) (tag_of 2)
    ++ RetainTurn 21 repo_a (tag_of 1) turn.Immutable
    ∷ RetainTurn 21 repo_a (tag_of 2) turn.Changed
    ∷ JobClaimed 21
    ∷ RetainTurn 21 repo_a (tag_of 3) turn.Dropped
    ∷ RetainDone 21
    ∷ [])

-- the tag as the job's snapshot has it
abbrev pub tag_item : ℕ → SnapItem
tag_item i = record { name = repo_a; tag = tag_of i; put = 5 + 3 * i; pushed = 1000000 + i; pulled = 0 }
