-- What projects use, and what their limits refuse.
use Rattle.std.specs.Prelude.{ℕ, pos, [], ◌∷◌, ◌++◌, Some}
use Rattle.hb_records.specs.declared.entries.EntryKind.TheVariants.{LimitSet, UploadBegun, UploadEnded, Associated, ArtifactPut}
use Rattle.hb_model.specs.ExampleNames.{library, repo_a, v1, image_type, braces, image, abc}
use Rattle.hb_model.specs.ExampleLogs.{Log, at, opened, pushed, refused}

-- under a limit of 3 bytes `abc` is pushed, `{}` is refused, and `abc` is pushed once more
abbrev pub limit_reached : Log
limit_reached = at 0 (opened ∷ LimitSet library (pos 3) ∷ pushed 3 repo_a abc 3 ++ refused 6 repo_a ++ pushed 8 repo_a abc 3)

-- then the limit falls below what is used; `abc` is mounted from the project itself, and `a` is refused
abbrev pub limit_passed : Log
limit_passed = limit_reached ++ at 0 (LimitSet library (pos 1) ∷ Associated library abc 3 ∷ refused 13 repo_a)

-- `{}`, `abc` and a manifest of so many bytes, which lists `abc` twice and a layer that nobody pushes and that
-- may not be distributed
abbrev pub layer_listed_twice : ℕ → Log
layer_listed_twice size = at 0 (opened
    ∷ pushed 2 repo_a braces 2
    ++ pushed 5 repo_a abc 3
    ++ UploadBegun repo_a ∷ UploadEnded 0 8 ∷ ArtifactPut repo_a image size image_type (braces ∷ abc ∷ []) [] (Some v1) ∷ [])
