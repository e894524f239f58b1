use Rattle.std.proofs.Common.{◌∙◌, ◌∷◌, [], sym, ap, map, take}
use Rattle.std.specs.List.{filter_map}
use Rattle.serde_json.specs.View.{view}
use Rattle.hb_manifest.specs.Descriptors.{descriptor}
use Rattle.hb_manifest.specs.Forms.{needed}
use Rattle.hb_manifest.specs.Lists.{each_once}
use Rattle.hb_manifest.proofs.Listing.{needed-more, needed-same}
use Rattle.hb_manifest.proofs.parts.needed_digests.Goals as goal
use Rattle.hb_manifest.proofs.parts.needed_digests.Goals.{then-not-is_nondistributable+in_ok-add_descriptor-2, else-not-is_nondistributable}

pub layers-init : goal.layers-init
layers-init c = c.in_ok-add_descriptor.ensures [] c.new-made.ensures

pub layers-preserved : goal.layers-preserved
layers-preserved c =
    let before = filter_map descriptor (needed (view c.args.config.now ∷ map view (take c.layers.layer-index c.args.layers.now))) in
    elim c.if-not-is_nondistributable.branch [
      | then-not-is_nondistributable+in_ok-add_descriptor-2 w ↦
          w.made-is ∙ w.in_ok-add_descriptor-2.ensures before c.layers.invariant
          ∙ ap each_once (needed-more (view c.args.config.now) c.args.layers.now c.layers.layer-index c.layer-item.result c.layers-test.true c.layer-item.is
          (sym c.is_nondistributable.ensures ∙ w.if-not-is_nondistributable.true))
      | else-not-is_nondistributable w ↦
          w.made-is ∙ c.layers.invariant
          ∙ ap (λ ds. each_once (filter_map descriptor ds)) (needed-same (view c.args.config.now) c.args.layers.now c.layers.layer-index c.layer-item.result c.layers-test.true c.layer-item.is
          (sym c.is_nondistributable.ensures ∙ w.if-not-is_nondistributable.false))
    ]
