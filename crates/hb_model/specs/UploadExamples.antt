-- Uploads in parts, and what a collection makes of those that were left.
use Rattle.std.specs.Prelude.{true, false, [], ◌∷◌, ◌++◌, Some, None}
use Rattle.hb_records.specs.declared.entries.EntryKind.TheVariants.{UploadBegun, UploadGrown, UploadEnded, JobQueued, JobClaimed, GcMarked, Taking, Collected, Adopted, GcDone}
use Rattle.hb_records.specs.declared.jobs.JobKind.TheVariants.{Collect}
use Rattle.hb_model.specs.ExampleNames.{repo_a, abc}
use Rattle.hb_model.specs.ExampleLogs.{Log, at, opened}

-- `a` and then `bc` arrive, and nothing more: a collection ends the upload once it is out of the window
abbrev pub upload_left : Log
upload_left = at 0 (opened ∷ [])
    ++ at 1000000 (UploadBegun repo_a ∷ UploadGrown 2 1 ∷ UploadGrown 2 3 ∷ [])
    ++ at 1007200 (JobQueued (Collect false) ∷ JobClaimed 5 ∷ GcMarked 5 [] [] None true ∷ UploadEnded 5 2 ∷ GcDone 5 ∷ [])

-- The core stops when the store has the content of a push that isn't associated. A collection adopts it,
-- and the first one after the window removes it.
abbrev pub content_adopted : Log
content_adopted = at 0 (opened ∷ [])
    ++ at 1000000 (UploadBegun repo_a ∷ UploadEnded 0 2 ∷ JobQueued (Collect false) ∷ JobClaimed 4 ∷ GcMarked 4 [] [] None true ∷ Adopted 4 abc 3 ∷ GcDone 4 ∷ [])
    ++ at 1007200 (JobQueued (Collect false) ∷ JobClaimed 9 ∷ GcMarked 9 (abc ∷ []) [] (Some abc) true ∷ Taking 9 abc ∷ Collected 9 abc ∷ GcDone 9 ∷ [])
