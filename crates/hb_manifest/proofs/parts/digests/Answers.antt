use Rattle.std.proofs.Common.{◌∙◌, ap, map, take}
use Rattle.std.specs.List.{filter_map}
use Rattle.serde_json.specs.View.{view}
use Rattle.hb_manifest.specs.Descriptors.{descriptor}
use Rattle.hb_manifest.specs.Lists.{each_once}
use Rattle.hb_manifest.proofs.Listing.{digests-more}
use Rattle.hb_manifest.proofs.parts.digests.Goals as goal

pub manifests-preserved : goal.manifests-preserved
manifests-preserved c =
    let before = filter_map descriptor (map view (take c.manifests.manifest-index c.args.manifests.now)) in
    c.in_ok-add_descriptor.ensures before c.manifests.invariant
    ∙ ap each_once (digests-more c.args.manifests.now c.manifests.manifest-index c.manifest-item.result c.manifests-test.true c.manifest-item.is)
