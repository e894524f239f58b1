-- What entries about artifacts and tags do to the rows.
use Rattle.std.specs.Prelude.{ℕ, Bool, not, ◌&&◌, List, Option, Some, None, fold}
use Rattle.std.specs.List.{filter}
use Rattle.hb_base.specs.Tables.{with_row, without_key, changed_at}
use Rattle.hb_text.specs.declared.digests.Digest.{Digest}
use Rattle.hb_text.specs.Names.{project_of}
use Rattle.hb_records.specs.declared.records.Artifact.{Artifact}
use Rattle.hb_records.specs.declared.records.TagRow.{TagRow}
use Rattle.hb_records.specs.Orders.{named_digest_cmp, named_tag_cmp, artifact_key, tag_key}
use Rattle.hb_rows.specs.Tables.{Tables, artifact_at}
use Rattle.hb_model.specs.Words.{same_text, same_digest}
use Rattle.hb_model.specs.BlobEffects.{associate, touch_pairs, touch_blobs}

-- what a push makes of an artifact that is there: it keeps all but the moment and the version
abbrev pub pushed_artifact : ℕ → ℕ → Artifact → Artifact
pushed_artifact n moment row = record row { pushed = moment; version = n }

-- the artifact is made, never pulled, or kept
abbrev pub artifacts_with : ℕ → ℕ → List ℕ → Digest → ℕ → List ℕ → List Digest → List Digest → Option Artifact → List Artifact → List Artifact
artifacts_with n moment name digest size media refs children None rows = with_row named_digest_cmp artifact_key (record { name = name; digest = digest; size = size; media = media; refs = refs; children = children; pushed = moment; pulled = 0; version = n }) rows
artifacts_with n moment name digest size media refs children (Some row) rows = changed_at named_digest_cmp artifact_key (name, digest) (pushed_artifact n moment) rows

-- the tag, where there is one, names the digest
abbrev pub tags_with : ℕ → ℕ → List ℕ → Digest → Option (List ℕ) → List TagRow → List TagRow
tags_with n moment name digest None rows = rows
tags_with n moment name digest (Some tag) rows = with_row named_tag_cmp tag_key (record { name = name; tag = tag; digest = digest; pushed = moment; version = n }) rows

-- the references other than the own digest, which the association touches already
abbrev pub other_refs : Digest → List Digest → List Digest
other_refs digest refs = filter (λ ref. not (same_digest digest ref)) refs

abbrev pub put_artifact : ℕ → ℕ → List ℕ → Digest → ℕ → List ℕ → List Digest → List Digest → Option (List ℕ) → Tables → Tables
put_artifact n moment name digest size media refs children tag t =
    let own = associate n moment (project_of name) digest size t in
    record own {
      pairs = fold (λ rows ref. touch_pairs moment (project_of name) ref rows) own.pairs (other_refs digest refs);
      blobs = fold (λ rows ref. touch_blobs n moment ref rows) own.blobs (other_refs digest refs);
      artifacts = artifacts_with n moment name digest size media refs children (artifact_at t name digest) t.artifacts;
      tags = tags_with n moment name digest tag t.tags;
    }

abbrev pub names_artifact : List ℕ → Digest → TagRow → Bool
names_artifact name digest row = same_text name row.name && same_digest digest row.digest

-- the tags of an artifact go with it
abbrev pub drop_artifact : List ℕ → Digest → Tables → Tables
drop_artifact name digest t = record t {
  artifacts = without_key named_digest_cmp artifact_key (name, digest) t.artifacts;
  tags = filter (λ row. not (names_artifact name digest row)) t.tags;
}

abbrev pub drop_tag : List ℕ → List ℕ → Tables → Tables
drop_tag name tag t = record t { tags = without_key named_tag_cmp tag_key (name, tag) t.tags }

abbrev pub pulled_artifact : ℕ → ℕ → Artifact → Artifact
pulled_artifact n moment row = record row { pulled = moment; version = n }

abbrev pub pull : ℕ → ℕ → List ℕ → Digest → Tables → Tables
pull n moment name digest t = record t { artifacts = changed_at named_digest_cmp artifact_key (name, digest) (pulled_artifact n moment) t.artifacts }
