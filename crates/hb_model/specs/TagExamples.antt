-- A manifest is pulled, is put again, and loses its tag.
use Rattle.std.specs.Prelude.{true, [], ◌∷◌, ◌++◌, Some}
use Rattle.hb_records.specs.declared.entries.EntryKind.TheVariants.{UploadBegun, UploadEnded, ArtifactPut, ArtifactDropped, TagDropped, Pulled, Unassociated, JobQueued, JobClaimed, GcMarked}
use Rattle.hb_records.specs.declared.jobs.JobKind.TheVariants.{Collect}
use Rattle.hb_model.specs.ExampleNames.{library, repo_a, v1, all, index_type, braces, image}
use Rattle.hb_model.specs.ExampleLogs.{Log, at, opened, pushed, image_put}

-- it is pushed with a tag at the moment 1,000,000
abbrev pub image_tagged : Log
image_tagged = at 0 (opened ∷ []) ++ at 1000000 (pushed 2 repo_a braces 2 ++ image_put 5 repo_a image (braces ∷ []) v1)

-- It is pulled five seconds later, and its tag is dropped at once. A collection of untagged manifests drops
-- it out of the window, and then takes `{}` and the manifest itself from the project.
abbrev pub tag_dropped : Log
tag_dropped = image_tagged
    ++ at 1000005 (Pulled repo_a image ∷ TagDropped repo_a v1 ∷ [])
    ++ at 1007200 (JobQueued (Collect true) ∷ JobClaimed 10 ∷ ArtifactDropped 10 repo_a image ∷ Unassociated 10 library braces ∷ Unassociated 10 library image ∷ GcMarked 10 (braces ∷ image ∷ []) [] (Some image) true ∷ [])

-- it is pulled five seconds later, and put again under another tag two seconds after that, as if it had another
-- media type
abbrev pub image_put_again : Log
image_put_again = image_tagged
    ++ at 1000005 (Pulled repo_a image ∷ [])
    ++ at 1000007 (UploadBegun repo_a ∷ UploadEnded 0 9 ∷ ArtifactPut repo_a image 400 index_type (braces ∷ []) [] (Some all) ∷ [])

-- the same collection while the tag is there
abbrev pub tag_kept : Log
tag_kept = image_tagged ++ at 1007200 (JobQueued (Collect true) ∷ JobClaimed 8 ∷ [])
