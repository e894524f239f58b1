-- What the code holds of a manifest while it reads one. No public contract speaks of it.
use Rattle.std.specs.Prelude.{List, ◌∷◌, map}
use Rattle.serde_json.specs.Data.{Data}
use Rattle.serde_json.specs.View.{view}
use Rattle.hb_manifest.specs.declared.media.Kind.{Kind}
use Rattle.hb_manifest.specs.declared.media.Kind.TheVariants as kind
use Rattle.hb_manifest.specs.declared.parts.Parts.{Parts}
use Rattle.hb_manifest.specs.declared.parts.Parts.TheVariants.{Image, Index}

abbrev pub kind_in : Parts → Kind
kind_in (Image config layers) = kind.Image
kind_in (Index manifests) = kind.Index

-- its descriptors, in order
abbrev pub all_of : Parts → List Data
all_of (Image config layers) = view config.now ∷ map view layers.now
all_of (Index manifests) = map view manifests.now
