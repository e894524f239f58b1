-- What the definitions mean.
use Rattle.std.specs.Prelude.{◌≡◌, ◌≢◌, ◌≤◌, ◌↔◌, ℕ, List, [], length, codes, Option, Some, IsSome, All, AllPairs, Contains}
use Rattle.serde_json.specs.Data.{Data}
use Rattle.hb_text.specs.declared.digests.Digest.{Digest}
use Rattle.hb_text.specs.Digests.{digest_text, IsDigest}
use Rattle.hb_manifest.specs.declared.media.Kind.{Kind}
use Rattle.hb_manifest.specs.declared.media.Kind.TheVariants.{Image, Index}
use Rattle.hb_manifest.specs.declared.manifests.Manifest.{Manifest}
use Rattle.hb_manifest.specs.Json.{json_of, whole_at}
use Rattle.hb_manifest.specs.MediaTypes.{media_type, kind_of}
use Rattle.hb_manifest.specs.Descriptors.{descriptor}
use Rattle.hb_manifest.specs.Forms.{most_bytes, most_descriptors, listed, needed, subject}

-- the text is the one that is written for this digest, which has 32 bytes
pub record IsTextOf (text : List ℕ) (d : Digest) : Type 0 where
  pub written : text ≡ digest_text d
  pub digest : IsDigest d

-- one of these descriptors names the digest
abbrev pub Names : List Data → Digest → Type 0
Names ds x = (d : Data) × Contains ds d × (descriptor d ≡ Some x)

-- no digest stands twice, and there are exactly those that these descriptors name
pub record HasEachOnce (ds : List Data) (digests : List Digest) : Type 0 where
  pub once : AllPairs (λ a b. a ≢ b) digests
  pub each : (x : Digest) → Contains digests x ↔ Names ds x

-- the descriptors of what an image needs, and of what an index lists
abbrev pub referring : Kind → List Data → List Data
referring Image ds = needed ds
referring Index ds = []

abbrev pub containing : Kind → List Data → List Data
containing Image ds = []
containing Index ds = ds

-- What stands of bytes that are this manifest, beside a Content-Type or without one.
pub record IsManifest (header : Option (List ℕ)) (bytes : List ℕ) (m : Manifest) : Type 0 where
  pub short : length bytes ≤ most_bytes
  pub value : Data
  pub json : json_of bytes ≡ Some value
  pub kind : Kind
  pub media : media_type header value ≡ Some m.media
  pub known : kind_of m.media ≡ Some kind
  pub schema : whole_at (codes "schemaVersion") value ≡ Some 2
  pub descriptors : List Data
  pub lists : listed kind value ≡ Some descriptors
  pub few : length descriptors ≤ most_descriptors
  pub sound : All (λ d. IsSome (descriptor d)) descriptors
  pub refs : HasEachOnce (referring kind descriptors) m.refs
  pub children : HasEachOnce (containing kind descriptors) m.children
  pub about : m.subject ≡ subject value
