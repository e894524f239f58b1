-- The registry as clients see it: six lists, each in the order of its keys. It has no statuses, versions,
-- bars, cursors or phases: those are how the rows do it.
use Rattle.std.specs.Prelude.{ℕ, ℤ, List, [], Option}
use Rattle.std.specs.Ordering.{nat_cmp}
use Rattle.hb_base.specs.Tables.{row_at}
use Rattle.hb_text.specs.declared.digests.Digest.{Digest}
use Rattle.hb_records.specs.declared.rules.Rules.{Rules}
use Rattle.hb_text.specs.Orders.{text_cmp, digest_cmp}
use Rattle.hb_records.specs.Orders.{named_digest_cmp, named_tag_cmp, NamedDigest, NamedTag}

-- a project, with its limit in bytes, -1 for none
pub record ProjectItem : Type 0 where
  pub name : List ℕ
  pub limit : ℤ
  pub rules : Rules

-- a project has a digest, which counts with its size
pub record PairItem : Type 0 where
  pub project : List ℕ
  pub digest : Digest
  pub size : ℕ

-- a manifest, with the moments of its last push and of its last pull, 0 where it was never pulled
pub record ArtifactItem : Type 0 where
  pub name : List ℕ
  pub digest : Digest
  pub size : ℕ
  pub media : List ℕ
  pub refs : List Digest
  pub children : List Digest
  pub pushed : ℕ
  pub pulled : ℕ

-- a tag, with the number of the entry that last put it and the moment of that
pub record TagItem : Type 0 where
  pub name : List ℕ
  pub tag : List ℕ
  pub digest : Digest
  pub put : ℕ
  pub pushed : ℕ

-- an upload that has begun and not ended
pub record UploadItem : Type 0 where
  pub id : ℕ
  pub name : List ℕ
  pub offset : ℕ

-- content that is stored, or that a removal may have taken
pub record StoredItem : Type 0 where
  pub digest : Digest
  pub size : ℕ

pub record Registry : Type 0 where
  pub projects : List ProjectItem
  pub pairs : List PairItem
  pub artifacts : List ArtifactItem
  pub tags : List TagItem
  pub uploads : List UploadItem
  pub stored : List StoredItem

abbrev pub empty_registry : Registry
empty_registry = record { projects = []; pairs = []; artifacts = []; tags = []; uploads = []; stored = [] }

-- ---- the key of each item
abbrev pub project_name : ProjectItem → List ℕ
project_name x = x.name

abbrev pub pair_key : PairItem → NamedDigest
pair_key x = (x.project, x.digest)

abbrev pub artifact_key : ArtifactItem → NamedDigest
artifact_key x = (x.name, x.digest)

abbrev pub tag_key : TagItem → NamedTag
tag_key x = (x.name, x.tag)

abbrev pub upload_key : UploadItem → ℕ
upload_key x = x.id

abbrev pub stored_key : StoredItem → Digest
stored_key x = x.digest

-- ---- the item of a key
abbrev pub project_in : Registry → List ℕ → Option ProjectItem
project_in m name = row_at text_cmp project_name name m.projects

abbrev pub pair_in : Registry → List ℕ → Digest → Option PairItem
pair_in m project digest = row_at named_digest_cmp pair_key (project, digest) m.pairs

abbrev pub artifact_in : Registry → List ℕ → Digest → Option ArtifactItem
artifact_in m name digest = row_at named_digest_cmp artifact_key (name, digest) m.artifacts

abbrev pub tag_in : Registry → List ℕ → List ℕ → Option TagItem
tag_in m name tag = row_at named_tag_cmp tag_key (name, tag) m.tags

abbrev pub upload_in : Registry → ℕ → Option UploadItem
upload_in m id = row_at nat_cmp upload_key id m.uploads

abbrev pub stored_in : Registry → Digest → Option StoredItem
stored_in m digest = row_at digest_cmp stored_key digest m.stored
