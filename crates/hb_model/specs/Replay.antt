-- What an entry changes of what clients see, and what they see after an audit.
use Rattle.std.specs.Prelude.{ℕ, ℤ, Bool, not, ◌&&◌, List, [], ◌∷◌, Option, Some, None, if◌then◌else◌, option_map}
use Rattle.std.specs.List.{filter}
use Rattle.std.specs.Ordering.{nat_cmp}
use Rattle.hb_base.specs.Tables.{with_row, without_key, changed_at}
use Rattle.hb_text.specs.declared.digests.Digest.{Digest}
use Rattle.hb_records.specs.declared.rules.Rules.{Rules}
use Rattle.hb_records.specs.Entries.{AuditEntry}
use Rattle.hb_records.specs.declared.entries.EntryKind.{EntryKind}
use Rattle.hb_records.specs.declared.entries.EntryKind.TheVariants.{ProjectMade, LimitSet, RulesSet, UploadBegun, UploadGrown, UploadEnded, Associated, Touched, Unassociated, ArtifactPut, ArtifactDropped, TagDropped, Pulled, JobQueued, JobClaimed, GcMarked, Taking, Collected, GcSkipped, Adopted, GcDone, RetainBegun, RetainTurn, RetainDone}
use Rattle.hb_text.specs.Orders.{text_cmp, digest_cmp}
use Rattle.hb_records.specs.Orders.{named_digest_cmp, named_tag_cmp}
use Rattle.hb_text.specs.Names.{project_of}
use Rattle.hb_model.specs.Words.{same_text, same_digest}
use Rattle.hb_model.specs.ProjectEffects.{no_rules}
use Rattle.hb_model.specs.RetainEffects.{is_drop}
use Rattle.hb_model.specs.Registry.{Registry, empty_registry, PairItem, ArtifactItem, TagItem, StoredItem, project_name, pair_key, artifact_key, tag_key, upload_key, stored_key, pair_in, artifact_in, stored_in}

abbrev pub make_project : List ℕ → ℤ → Registry → Registry
make_project name limit m = record m { projects = with_row text_cmp project_name (record { name = name; limit = limit; rules = no_rules }) m.projects }

abbrev pub set_limit : List ℕ → ℤ → Registry → Registry
set_limit name limit m = record m { projects = changed_at text_cmp project_name name (λ x. record x { limit = limit }) m.projects }

abbrev pub set_rules : List ℕ → Rules → Registry → Registry
set_rules name rules m = record m { projects = changed_at text_cmp project_name name (λ x. record x { rules = rules }) m.projects }

abbrev pub begin_upload : ℕ → List ℕ → Registry → Registry
begin_upload n name m = record m { uploads = with_row nat_cmp upload_key (record { id = n; name = name; offset = 0 }) m.uploads }

abbrev pub grow_upload : ℕ → ℕ → Registry → Registry
grow_upload upload offset m = record m { uploads = changed_at nat_cmp upload_key upload (λ x. record x { offset = offset }) m.uploads }

abbrev pub end_upload : ℕ → Registry → Registry
end_upload upload m = record m { uploads = without_key nat_cmp upload_key upload m.uploads }

abbrev pub store : Digest → ℕ → Registry → Registry
store digest size m = record m { stored = with_row digest_cmp stored_key (record { digest = digest; size = size }) m.stored }

-- a pair that is there stays as it is
abbrev pub pairs_with : List ℕ → Digest → ℕ → Option PairItem → List PairItem → List PairItem
pairs_with project digest size None items = with_row named_digest_cmp pair_key (record { project = project; digest = digest; size = size }) items
pairs_with project digest size (Some x) items = items

-- the project has the digest, which is stored with this size
abbrev pub associate : List ℕ → Digest → ℕ → Registry → Registry
associate project digest size m = record m {
  pairs = pairs_with project digest size (pair_in m project digest) m.pairs;
  stored = with_row digest_cmp stored_key (record { digest = digest; size = size }) m.stored;
}

abbrev pub unassociate : List ℕ → Digest → Registry → Registry
unassociate project digest m = record m { pairs = without_key named_digest_cmp pair_key (project, digest) m.pairs }

abbrev pub change_artifact : List ℕ → Digest → (ArtifactItem → ArtifactItem) → Registry → Registry
change_artifact name digest change m = record m { artifacts = changed_at named_digest_cmp artifact_key (name, digest) change m.artifacts }

-- a kept artifact keeps all but the moment of its push
abbrev pub artifacts_with : ℕ → List ℕ → Digest → ℕ → List ℕ → List Digest → List Digest → Option ArtifactItem → List ArtifactItem → List ArtifactItem
artifacts_with moment name digest size media refs children None items = with_row named_digest_cmp artifact_key (record { name = name; digest = digest; size = size; media = media; refs = refs; children = children; pushed = moment; pulled = 0 }) items
artifacts_with moment name digest size media refs children (Some x) items = changed_at named_digest_cmp artifact_key (name, digest) (λ x. record x { pushed = moment }) items

abbrev pub tags_with : ℕ → ℕ → List ℕ → Digest → Option (List ℕ) → List TagItem → List TagItem
tags_with n moment name digest None items = items
tags_with n moment name digest (Some tag) items = with_row named_tag_cmp tag_key (record { name = name; tag = tag; digest = digest; put = n; pushed = moment }) items

abbrev pub put_artifact : ℕ → ℕ → List ℕ → Digest → ℕ → List ℕ → List Digest → List Digest → Option (List ℕ) → Registry → Registry
put_artifact n moment name digest size media refs children tag m =
    let own = associate (project_of name) digest size m in
    record own {
      artifacts = artifacts_with moment name digest size media refs children (artifact_in m name digest) m.artifacts;
      tags = tags_with n moment name digest tag m.tags;
    }

abbrev pub names_artifact : List ℕ → Digest → TagItem → Bool
names_artifact name digest x = same_text name x.name && same_digest digest x.digest

-- the tags of an artifact go with it
abbrev pub drop_artifact : List ℕ → Digest → Registry → Registry
drop_artifact name digest m = record m {
  artifacts = without_key named_digest_cmp artifact_key (name, digest) m.artifacts;
  tags = filter (λ x. not (names_artifact name digest x)) m.tags;
}

abbrev pub drop_tag : List ℕ → List ℕ → Registry → Registry
drop_tag name tag m = record m { tags = without_key named_tag_cmp tag_key (name, tag) m.tags }

-- ---- entries
-- what an entry of this number and moment does; those that change only how the rows do it change nothing
abbrev pub step : ℕ → ℕ → EntryKind → Registry → Registry
step n moment (ProjectMade project limit) m = make_project project limit m
step n moment (LimitSet project limit) m = set_limit project limit m
step n moment (RulesSet project rules) m = set_rules project rules m
step n moment (UploadBegun name) m = begin_upload n name m
step n moment (UploadGrown upload offset) m = grow_upload upload offset m
step n moment (UploadEnded job upload) m = end_upload upload m
step n moment (Associated project digest size) m = associate project digest size m
step n moment (Touched project digest) m = m
step n moment (Unassociated job project digest) m = unassociate project digest m
step n moment (ArtifactPut name digest size media refs children tag) m = put_artifact n moment name digest size media refs children tag m
step n moment (ArtifactDropped job name digest) m = drop_artifact name digest m
step n moment (TagDropped name tag) m = drop_tag name tag m
step n moment (Pulled name digest) m = change_artifact name digest (λ x. record x { pulled = moment }) m
step n moment (JobQueued kind) m = m
step n moment (JobClaimed job) m = m
step n moment (GcMarked job digests barred upto last) m = m
step n moment (Taking job digest) m = m
step n moment (Collected job digest) m = record m { stored = without_key digest_cmp stored_key digest m.stored }
step n moment (GcSkipped job digest why) m = m
step n moment (Adopted job digest size) m = store digest size m
step n moment (GcDone job) m = m
step n moment (RetainBegun job) m = m
step n moment (RetainTurn job name tag given) m = record m { tags = if is_drop given then without_key named_tag_cmp tag_key (name, tag) m.tags else m.tags }
step n moment (RetainDone job) m = m

abbrev pub after : Registry → AuditEntry → Registry
after m e = step e.number e.moment e.kind m

-- what clients see after an audit
abbrev pub replay : List AuditEntry → Registry
replay [] = empty_registry
replay (e ∷ j) = after (replay j) e

-- the size of a digest, where it is stored
abbrev pub size_of : List AuditEntry → Digest → Option ℕ
size_of j digest = option_map (λ (x : StoredItem). x.size) (stored_in (replay j) digest)
