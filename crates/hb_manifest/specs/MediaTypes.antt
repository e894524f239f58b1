-- Media types of manifests and of layers (OCI Image Specification 1.1, "OCI Image Media Types"; Docker,
-- "Image Manifest Version 2, Schema 2"). They are compared byte by byte.
use Rattle.std.specs.Prelude.{◌==◌, ◌||◌, ◌-◌, ℕ, Bool, false, List, [], ◌∷◌, codes, length, take, drop, Option, Some, None, bytes_eq, if◌then◌else◌}
use Rattle.std.specs.List.{list_any, before_first, prefix_len, suffix_len}
use Rattle.std.specs.Option.{option_map_or}
use Rattle.serde_json.specs.Data.{Data}
use Rattle.hb_manifest.specs.declared.media.Kind.{Kind}
use Rattle.hb_manifest.specs.declared.media.Kind.TheVariants.{Image, Index}
use Rattle.hb_manifest.specs.Json.{text_at}

-- a space or a tab
abbrev pub is_blank : ℕ → Bool
is_blank b = b == 32 || b == 9

-- the text without the blanks in front, and without those behind
abbrev pub without_front : List ℕ → List ℕ
without_front text = drop (prefix_len is_blank text) text

abbrev pub without_back : List ℕ → List ℕ
without_back text = take (length text - suffix_len is_blank text) text

-- A Content-Type without its parameters: what stands before the first `;`, without the blanks around it
-- (RFC 9110, section 8.3.1).
abbrev pub essence : List ℕ → List ℕ
essence header = without_back (without_front (before_first (λ b. b == 59) header))

-- the media type of a manifest: what the Content-Type says, and without one its own `mediaType`
abbrev pub media_type : Option (List ℕ) → Data → Option (List ℕ)
media_type (Some header) d = Some (essence header)
media_type None d = text_at (codes "mediaType") d

-- the text is one of these
abbrev pub is_among : List (List ℕ) → List ℕ → Bool
is_among texts text = list_any (λ t. bytes_eq text t) texts

abbrev pub image_types : List (List ℕ)
image_types =
    codes "application/vnd.oci.image.manifest.v1+json"
    ∷ codes "application/vnd.docker.distribution.manifest.v2+json" ∷ []

abbrev pub index_types : List (List ℕ)
index_types =
    codes "application/vnd.oci.image.index.v1+json"
    ∷ codes "application/vnd.docker.distribution.manifest.list.v2+json" ∷ []

-- what a manifest of this media type describes
abbrev pub kind_of : List ℕ → Option Kind
kind_of media =
    if is_among image_types media then Some Image
    else if is_among index_types media then Some Index
    else None

-- types of layers that a registry isn't to hold: those that may not be distributed
abbrev pub nondistributable_types : List (List ℕ)
nondistributable_types =
    codes "application/vnd.oci.image.layer.nondistributable.v1.tar"
    ∷ codes "application/vnd.oci.image.layer.nondistributable.v1.tar+gzip"
    ∷ codes "application/vnd.oci.image.layer.nondistributable.v1.tar+zstd"
    ∷ codes "application/vnd.docker.image.rootfs.foreign.diff.tar.gzip" ∷ []

-- the descriptor says one of them as its `mediaType`, which it may also leave out
abbrev pub is_nondistributable : Data → Bool
is_nondistributable d = option_map_or (is_among nondistributable_types) (text_at (codes "mediaType") d) false
