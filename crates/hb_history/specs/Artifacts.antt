-- Artifacts that other items of a registry name.
use Rattle.std.specs.Prelude.{IsSome}
use Rattle.std.specs.List.{AllByRecursion}
use Rattle.hb_model.specs.Registry.{Registry, artifact_in}

-- each artifact's children are artifacts of its repository
abbrev pub ChildrenAreThere : Registry → Type 0
ChildrenAreThere m = AllByRecursion (λ x. AllByRecursion (λ child. IsSome (artifact_in m x.name child)) x.children) m.artifacts

-- each tag names an artifact of its repository
abbrev pub TagsNameArtifacts : Registry → Type 0
TagsNameArtifacts m = AllByRecursion (λ x. IsSome (artifact_in m x.name x.digest)) m.tags
