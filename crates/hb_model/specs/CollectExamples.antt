-- What collections make of content that was pushed once, at the moment 1,000,000: then the window is over at
-- 1,007,200.
use Rattle.std.specs.Prelude.{ℕ, true, false, List, [], ◌∷◌, ◌++◌, Some}
use Rattle.hb_records.specs.declared.entries.EntryKind.{EntryKind}
use Rattle.hb_records.specs.declared.entries.EntryKind.TheVariants.{UploadBegun, UploadEnded, Touched, Unassociated, JobQueued, JobClaimed, GcMarked, Taking, Collected, GcSkipped, GcDone}
use Rattle.hb_records.specs.declared.jobs.JobKind.TheVariants.{Collect}
use Rattle.hb_records.specs.declared.jobs.Verdict.TheVariants as verdict
use Rattle.hb_model.specs.ExampleNames.{library, repo_a, v1, braces, image, abc}
use Rattle.hb_model.specs.ExampleLogs.{Log, at, opened, pushed, refused, image_put}

abbrev pub abc_pushed : Log
abc_pushed = at 0 (opened ∷ []) ++ at 1000000 (pushed 2 repo_a abc 3)

-- a collection, whose first entry has this number, that finds nothing to do
abbrev pub nothing_collected : ℕ → List EntryKind
nothing_collected job = JobQueued (Collect false) ∷ JobClaimed job ∷ GcMarked job [] [] (Some abc) true ∷ GcDone job ∷ []

-- a collection that takes `abc` from the project, marks it and goes on so
abbrev pub abc_marked : ℕ → List EntryKind → List EntryKind
abc_marked job later = JobQueued (Collect false) ∷ JobClaimed job ∷ Unassociated job library abc ∷ GcMarked job (abc ∷ []) [] (Some abc) true ∷ later

-- one collection comes a second too early, and the next in time
abbrev pub blob_out_of_window : Log
blob_out_of_window = abc_pushed
    ++ at 1007199 (nothing_collected 5)
    ++ at 1007200 (abc_marked 9 (Taking 9 abc ∷ Collected 9 abc ∷ GcDone 9 ∷ []))

-- the same, but that a client asks for the blob's head a second after the push
abbrev pub blob_named_in_window : Log
blob_named_in_window = abc_pushed
    ++ at 1000001 (Touched library abc ∷ [])
    ++ at 1007199 (nothing_collected 6)
    ++ at 1007200 (nothing_collected 10)

-- the blob is pushed again after it was marked, and a manifest needs it then
abbrev pub blob_pushed_after_mark : Log
blob_pushed_after_mark = abc_pushed ++ at 1007200 (abc_marked 5 (
    pushed 9 repo_a abc 3
    ++ GcSkipped 5 abc verdict.Touched
    ∷ GcDone 5
    ∷ pushed 14 repo_a braces 2
    ++ image_put 17 repo_a image (braces ∷ abc ∷ []) v1))

-- the removal fails, and its collection ends
abbrev pub removal_sent : Log
removal_sent = abc_pushed ++ at 1007200 (abc_marked 5 (Taking 5 abc ∷ GcSkipped 5 abc verdict.Failed ∷ GcDone 5 ∷ []))

-- a push is refused up to the bar, and done from then on
abbrev pub removal_failed : Log
removal_failed = removal_sent ++ at 1014399 (refused 12 repo_a) ++ at 1014400 (pushed 14 repo_a abc 3)

-- or the next collection comes before the bar: it can't mark the blob, and counts it as barred
abbrev pub removal_awaited : Log
removal_awaited = removal_sent ++ at 1014399 (JobQueued (Collect false) ∷ JobClaimed 12 ∷ GcMarked 12 [] (abc ∷ []) (Some abc) true ∷ GcDone 12 ∷ [])

-- The core stops between the removal and its verdict. Another claim ends the job, a push is refused up to
-- the bar, and the next collection marks the blob from then on.
abbrev pub collection_stopped : Log
collection_stopped = abc_pushed
    ++ at 1007200 (abc_marked 5 (Taking 5 abc ∷ []))
    ++ at 1007300 (JobClaimed 5 ∷ GcSkipped 5 abc verdict.Barred ∷ GcDone 5 ∷ [])
    ++ at 1014399 (refused 13 repo_a)
    ++ at 1014400 (JobQueued (Collect false) ∷ JobClaimed 15 ∷ GcMarked 15 (abc ∷ []) [] (Some abc) true ∷ Taking 15 abc ∷ Collected 15 abc ∷ GcDone 15 ∷ [])

-- A first push of `abc` ended its upload as entry 3, and the store has its content. Before it is associated,
-- a second push is, and a collection removes the content.
abbrev pub push_raced : Log
push_raced = at 0 (opened ∷ [])
    ++ at 1000000 (UploadBegun repo_a ∷ UploadEnded 0 2 ∷ pushed 4 repo_a abc 3)
    ++ at 1007200 (abc_marked 7 (Taking 7 abc ∷ Collected 7 abc ∷ GcDone 7 ∷ []))
