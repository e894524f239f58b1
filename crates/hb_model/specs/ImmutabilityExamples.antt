-- Tags that can't be moved, and manifests that an index keeps.
use Rattle.std.specs.Prelude.{ℕ, false, List, [], ◌∷◌, ◌++◌, codes}
use Rattle.hb_records.specs.declared.entries.EntryKind.TheVariants.{RulesSet, ArtifactDropped}
use Rattle.hb_records.specs.declared.rules.Rules.{Rules}
use Rattle.hb_records.specs.declared.rules.Selector.{Selector}
use Rattle.hb_model.specs.ExampleNames.{library, repo_a, v1, all, braces, image, index, abc}
use Rattle.hb_model.specs.ExampleLogs.{Log, at, opened, pushed, refused, image_put, index_put}

-- takes what matches the pattern
abbrev pub matching : List ℕ → Selector
matching pattern = record { exclude = false; pattern = pattern }

-- the tag v1 is immutable in every repository
abbrev pub immutable_v1 : Rules
immutable_v1 = record { immutes = record { repo = matching (codes "**"); tag = matching v1 } ∷ []; retains = [] }

-- v1 is put, and put again with the same manifest; with another manifest it is refused
abbrev pub tag_immutable : Log
tag_immutable = at 0 (opened
    ∷ RulesSet library immutable_v1
    ∷ pushed 3 repo_a braces 2
    ++ image_put 6 repo_a image (braces ∷ []) v1
    ++ image_put 9 repo_a image (braces ∷ []) v1
    ++ pushed 12 repo_a abc 3
    ++ refused 15 repo_a)

-- a manifest and an index that lists it; the index goes first, and then the manifest
abbrev pub index_dropped_first : Log
index_dropped_first = at 0 (opened
    ∷ pushed 2 repo_a braces 2
    ++ image_put 5 repo_a image (braces ∷ []) v1
    ++ index_put 8 repo_a index (image ∷ []) all
    ++ ArtifactDropped 0 repo_a index
    ∷ ArtifactDropped 0 repo_a image
    ∷ [])
