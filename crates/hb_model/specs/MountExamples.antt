-- A blob that one project has comes to another by a mount.
use Rattle.std.specs.Prelude.{negsuc, [], ◌∷◌, ◌++◌}
use Rattle.hb_records.specs.declared.entries.EntryKind.TheVariants.{ProjectMade, UploadBegun, Associated}
use Rattle.hb_model.specs.ExampleNames.{library, other, repo_a, repo_x, v1, braces, image, abc}
use Rattle.hb_model.specs.ExampleLogs.{Log, at, opened, pushed, refused, image_put}

-- `{}` and `abc` are pushed to `other/x`, and `{}` to `library/a`. A manifest of both is refused there until
-- `abc` is mounted.
abbrev pub blob_mounted : Log
blob_mounted = at 0 (opened
    ∷ ProjectMade other (negsuc 0)
    ∷ pushed 3 repo_x braces 2
    ++ pushed 6 repo_x abc 3
    ++ pushed 9 repo_a braces 2
    ++ refused 12 repo_a
    ++ Associated library abc 3
    ∷ image_put 15 repo_a image (braces ∷ abc ∷ []) v1)

-- then a mount of what `other` doesn't have begins an upload
abbrev pub unknown_mounted : Log
unknown_mounted = blob_mounted ++ at 0 (UploadBegun repo_a ∷ [])
