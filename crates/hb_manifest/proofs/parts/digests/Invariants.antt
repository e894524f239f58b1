use Rattle.std.proofs.Common.{◌≡◌, take, map}
use Rattle.std.specs.List.{filter_map}
use Rattle.serde_json.specs.View.{view}
use Rattle.hb_manifest.specs.Descriptors.{descriptor}
use Rattle.hb_manifest.specs.Lists.{each_once}
use Rattle.hb_manifest.proofs.parts.digests.Given as goal

abbrev pub invariant-manifests : goal.invariant-manifests
invariant-manifests l = l.made ≡ each_once (filter_map descriptor (map view (take l.manifest-index l.manifests)))
