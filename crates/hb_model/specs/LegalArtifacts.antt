-- When entries about artifacts and tags are legal.
use Rattle.std.specs.Prelude.{◌≡◌, ℕ, Bool, true, false, not, ◌&&◌, ◌||◌, List, Option, Some, None, IsTrue, IsSome, IfSome, ◌⊎◌}
use Rattle.std.specs.List.{list_any, list_all, AllByRecursion}
use Rattle.hb_text.specs.declared.digests.Digest.{Digest}
use Rattle.hb_records.specs.Entries.{AuditEntry}
use Rattle.hb_text.specs.Names.{project_of}
use Rattle.hb_records.specs.Selectors.{is_immutable}
use Rattle.hb_model.specs.Words.{same_text, same_digest, among, some_and, is_over}
use Rattle.hb_model.specs.Jobs.{is_running, is_collect}
use Rattle.hb_model.specs.Registry.{Registry, TagItem, project_in, pair_in, artifact_in, tag_in}
use Rattle.hb_model.specs.Replay.{replay, names_artifact}
use Rattle.hb_model.specs.LegalBlobs.{LegalAssociated}

-- whether the tag is immutable by the rules that its project has
abbrev pub is_immutable_in : Registry → List ℕ → List ℕ → Bool
is_immutable_in m name tag = some_and (λ project. is_immutable project.rules name tag) (project_in m (project_of name))

abbrev pub is_mutable_in : Registry → List ℕ → List ℕ → Bool
is_mutable_in m name tag = not (is_immutable_in m name tag)

-- the tag is free, names this digest already, or is mutable
abbrev pub may_set : Registry → List ℕ → Digest → List ℕ → Option TagItem → Bool
may_set m name d tag None = true
may_set m name d tag (Some x) = same_digest d x.digest || is_mutable_in m name tag

abbrev pub may_set_tag : Registry → List ℕ → Digest → Option (List ℕ) → Bool
may_set_tag m name d None = true
may_set_tag m name d (Some tag) = may_set m name d tag (tag_in m name tag)

pub record LegalArtifactPut (j : List AuditEntry) (t : ℕ) (name : List ℕ) (d : Digest) (s : ℕ) (refs children : List Digest) (tag : Option (List ℕ)) : Type 0 where
  pub own : LegalAssociated j t (project_of name) d s
  pub has_refs : AllByRecursion (λ ref. IsSome (pair_in (replay j) (project_of name) ref)) refs
  pub has_children : AllByRecursion (λ child. IsSome (artifact_in (replay j) name child)) children
  pub may_set : IsTrue (may_set_tag (replay j) name d tag)

-- an artifact of the same name lists it
abbrev pub has_parent : Registry → List ℕ → Digest → Bool
has_parent m name d = list_any (λ x. same_text name x.name && among d x.children) m.artifacts

abbrev pub has_tag : Registry → List ℕ → Digest → Bool
has_tag m name d = list_any (names_artifact name d) m.tags

abbrev pub tags_mutable : Registry → List ℕ → Digest → Bool
tags_mutable m name d = list_all (λ x. not (names_artifact name d x) || is_mutable_in m name x.tag) m.tags

-- A collection drops only one without a tag that was pushed before the window.
pub record LegalArtifactDropped (j : List AuditEntry) (t job : ℕ) (name : List ℕ) (d : Digest) : Type 0 where
  pub known : IsSome (artifact_in (replay j) name d)
  pub no_parent : has_parent (replay j) name d ≡ false
  pub «mutable» : IsTrue (tags_mutable (replay j) name d)
  pub by_job : (job ≡ 0) ⊎ (IsTrue (is_running is_collect j job) × (has_tag (replay j) name d ≡ false) × IfSome (artifact_in (replay j) name d) (λ x. IsTrue (is_over x.pushed t)))

pub record LegalTagDropped (j : List AuditEntry) (name tag : List ℕ) : Type 0 where
  pub known : IsSome (tag_in (replay j) name tag)
  pub «mutable» : IsTrue (is_mutable_in (replay j) name tag)

pub record LegalPulled (j : List AuditEntry) (name : List ℕ) (d : Digest) : Type 0 where
  pub known : IsSome (artifact_in (replay j) name d)
