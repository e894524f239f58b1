-- What bytes that a client sends are as a manifest (OCI Image Specification 1.1, "OCI Image Manifest
-- Specification" and "OCI Image Index Specification"; Docker, "Image Manifest Version 2, Schema 2").
use Rattle.std.specs.Prelude.{ℕ, Bool, true, false, not, nat_eq, nat_lt, List, [], ◌∷◌, length, codes, filter, filter_map, position, Option, Some, None, is_none, option_map, option_and_then, ok_or, Result, Ok, Err}
use Rattle.std.specs.Option.{option_map_or}
use Rattle.serde_json.specs.Data.{Data}
use Rattle.serde_json.specs.Find.{get}
use Rattle.hb_text.specs.declared.digests.Digest.{Digest}
use Rattle.hb_manifest.specs.declared.media.Kind.{Kind}
use Rattle.hb_manifest.specs.declared.media.Kind.TheVariants.{Image, Index}
use Rattle.hb_manifest.specs.declared.manifests.Manifest.{Manifest}
use Rattle.hb_manifest.specs.declared.manifests.ManifestFault.{ManifestFault}
use Rattle.hb_manifest.specs.declared.manifests.ManifestFault.TheVariants.{MediaUnknown, NotJson, NoSchema, BadDescriptor, TooMany, TooLong}
use Rattle.hb_manifest.specs.Json.{json_of, when_object, whole_at, object_at, list_at}
use Rattle.hb_manifest.specs.MediaTypes.{media_type, kind_of, is_nondistributable}
use Rattle.hb_manifest.specs.Descriptors.{descriptor}
use Rattle.hb_manifest.specs.Lists.{each_once}

-- the most bytes of a manifest, and the most descriptors
abbrev pub most_bytes : ℕ
most_bytes = 4194304

abbrev pub most_descriptors : ℕ
most_descriptors = 1000

-- the next step, where nothing was refused before it
infixl 10 ◌>>=◌
abbrev pub ◌>>=◌ : {A B : Type 0} → Result A ManifestFault → (A → Result B ManifestFault) → Result B ManifestFault
Ok x >>= next = next x
Err e >>= next = Err e

-- refused where the test holds
abbrev pub refused_if : Bool → ManifestFault → Result (Unit {0}) ManifestFault
refused_if true fault = Err fault
refused_if false fault = Ok tt

-- `schemaVersion` is the integer 2
abbrev pub has_schema : Data → Bool
has_schema d = option_map_or (nat_eq 2) (whole_at (codes "schemaVersion") d) false

-- what a manifest of this kind lists: an image its config and then its layers, an index its manifests
abbrev pub listed : Kind → Data → Option (List Data)
listed Image d = option_and_then (λ config. option_map (λ layers. config ∷ layers) (list_at (codes "layers") d)) (object_at (codes "config") d)
listed Index d = list_at (codes "manifests") d

-- the first that is no descriptor, by its place from 0
abbrev pub bad_place : List Data → Option ℕ
bad_place = position (λ d. is_none (descriptor d))

abbrev pub refused_at : Option ℕ → Result (Unit {0}) ManifestFault
refused_at (Some place) = Err (BadDescriptor place)
refused_at None = Ok tt

-- descriptors that aren't too many, each of which is one
abbrev pub checked : List Data → Result (Unit {0}) ManifestFault
checked ds = do
  count ← refused_if (nat_lt most_descriptors (length ds)) TooMany
  refused_at (bad_place ds)

-- what an image needs to be stored: its config, and the layers that may be distributed
abbrev pub needed : List Data → List Data
needed [] = []
needed (config ∷ layers) = config ∷ filter (λ layer. not (is_nondistributable layer)) layers

-- the digests that a manifest refers to, of an image alone
abbrev pub refs : Kind → List Data → List Digest
refs Image ds = each_once (filter_map descriptor (needed ds))
refs Index ds = []

-- the digests of the manifests in it, of an index alone
abbrev pub children : Kind → List Data → List Digest
children Image ds = []
children Index ds = each_once (filter_map descriptor ds)

-- the digest of the manifest that it is about
abbrev pub subject : Data → Option Digest
subject d = option_and_then descriptor (get (codes "subject") d)

-- A JSON object as a manifest, or the first refusal that applies.
abbrev pub object_form : Option (List ℕ) → Data → Result Manifest ManifestFault
object_form header d = do
  media ← ok_or (media_type header d) MediaUnknown
  kind ← ok_or (kind_of media) MediaUnknown
  schema ← refused_if (not (has_schema d)) NoSchema
  ds ← ok_or (listed kind d) NoSchema
  sound ← checked ds
  Ok (record { media = media; refs = refs kind ds; children = children kind ds; subject = subject d })

-- Bytes as a manifest, beside a Content-Type or without one, or the first refusal that applies.
abbrev pub manifest_form : Option (List ℕ) → List ℕ → Result Manifest ManifestFault
manifest_form header bytes = do
  short ← refused_if (nat_lt most_bytes (length bytes)) TooLong
  d ← ok_or (option_and_then when_object (json_of bytes)) NotJson
  object_form header d
