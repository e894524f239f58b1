-- The changes by which a batch makes the effect of entries about artifacts and tags.
use Rattle.std.specs.Prelude.{ℕ, List, [], ◌∷◌, ◌++◌, map, Option, Some, None}
use Rattle.std.specs.List.{filter, flat_map}
use Rattle.hb_text.specs.declared.digests.Digest.{Digest}
use Rattle.hb_text.specs.Names.{project_of}
use Rattle.hb_records.specs.declared.records.Artifact.{Artifact}
use Rattle.hb_records.specs.declared.records.TagRow.{TagRow}
use Rattle.hb_records.specs.declared.batches.Row.TheVariants as row
use Rattle.hb_records.specs.declared.batches.Change.{Change}
use Rattle.hb_records.specs.declared.batches.Change.TheVariants.{Set, Drop}
use Rattle.hb_records.specs.declared.keys.Key.TheVariants as key
use Rattle.hb_rows.specs.Tables.{Tables, artifact_at}
use Rattle.hb_model.specs.ArtifactEffects.{names_artifact, other_refs, pushed_artifact}
use Rattle.hb_model.specs.ContentChanges.{associate_changes, touch_changes}

abbrev pub artifact_change : ℕ → ℕ → List ℕ → Digest → ℕ → List ℕ → List Digest → List Digest → Option Artifact → Change
artifact_change n moment name digest size media refs children None = Set (row.Artifact (record { name = name; digest = digest; size = size; media = media; refs = refs; children = children; pushed = moment; pulled = 0; version = n }))
artifact_change n moment name digest size media refs children (Some r) = Set (row.Artifact (pushed_artifact n moment r))

abbrev pub tag_changes : ℕ → ℕ → List ℕ → Digest → Option (List ℕ) → List Change
tag_changes n moment name digest None = []
tag_changes n moment name digest (Some tag) = Set (row.Tag (record { name = name; tag = tag; digest = digest; pushed = moment; version = n })) ∷ []

-- the association, the touches of the other references, the artifact, and its tag
abbrev pub put_changes : ℕ → ℕ → List ℕ → Digest → ℕ → List ℕ → List Digest → List Digest → Option (List ℕ) → Tables → List Change
put_changes n moment name digest size media refs children tag t =
    associate_changes n moment (project_of name) digest size t
    ++ (flat_map (touch_changes n moment (project_of name) t) (other_refs digest refs)
    ++ artifact_change n moment name digest size media refs children (artifact_at t name digest) ∷ tag_changes n moment name digest tag)

abbrev pub drop_tag_row : TagRow → Change
drop_tag_row r = Drop (key.Tag r.name r.tag)

-- the artifact, and then its tags
abbrev pub drop_artifact_changes : List ℕ → Digest → Tables → List Change
drop_artifact_changes name digest t = Drop (key.Artifact name digest) ∷ map drop_tag_row (filter (names_artifact name digest) t.tags)
