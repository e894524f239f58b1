-- What clients see of the rows.
use Rattle.std.specs.Prelude.{map}
use Rattle.hb_records.specs.declared.records.Project.{Project}
use Rattle.hb_records.specs.declared.records.Blob.{Blob}
use Rattle.hb_records.specs.declared.records.Assoc.{Assoc}
use Rattle.hb_records.specs.declared.records.Artifact.{Artifact}
use Rattle.hb_records.specs.declared.records.TagRow.{TagRow}
use Rattle.hb_records.specs.declared.records.Upload.{Upload}
use Rattle.hb_rows.specs.Tables.{Tables}
use Rattle.hb_model.specs.Registry.{Registry, ProjectItem, PairItem, ArtifactItem, TagItem, UploadItem, StoredItem}

abbrev pub seen_project : Project → ProjectItem
seen_project r = record { name = r.name; limit = r.limit; rules = r.rules }

abbrev pub seen_pair : Assoc → PairItem
seen_pair r = record { project = r.project; digest = r.digest; size = r.size }

abbrev pub seen_artifact : Artifact → ArtifactItem
seen_artifact r = record { name = r.name; digest = r.digest; size = r.size; media = r.media; refs = r.refs; children = r.children; pushed = r.pushed; pulled = r.pulled }

-- a tag's version is the number of its put
abbrev pub seen_tag : TagRow → TagItem
seen_tag r = record { name = r.name; tag = r.tag; digest = r.digest; put = r.version; pushed = r.pushed }

abbrev pub seen_upload : Upload → UploadItem
seen_upload r = record { id = r.id; name = r.name; offset = r.offset }

abbrev pub seen_blob : Blob → StoredItem
seen_blob r = record { digest = r.digest; size = r.size }

abbrev pub seen : Tables → Registry
seen t = record { projects = map seen_project t.projects; pairs = map seen_pair t.pairs; artifacts = map seen_artifact t.artifacts; tags = map seen_tag t.tags; uploads = map seen_upload t.uploads; stored = map seen_blob t.blobs }
