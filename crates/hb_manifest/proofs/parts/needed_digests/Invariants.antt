use Rattle.std.proofs.Common.{◌≡◌, ◌∷◌, take, map}
use Rattle.std.specs.List.{filter_map}
use Rattle.serde_json.specs.View.{view}
use Rattle.hb_manifest.specs.Descriptors.{descriptor}
use Rattle.hb_manifest.specs.Forms.{needed}
use Rattle.hb_manifest.specs.Lists.{each_once}
use Rattle.hb_manifest.proofs.parts.needed_digests.Given as goal

abbrev pub invariant-layers : goal.invariant-layers
invariant-layers l = l.made ≡ each_once (filter_map descriptor (needed (view l.config ∷ map view (take l.layer-index l.layers))))
