use Rattle.std.proofs.Common.{◌≤◌, length, arith}
use Rattle.std.proofs.lemmas.List.Sums.{prefix_len-le-length}
use Rattle.hb_manifest.specs.MediaTypes.{is_blank}
use Rattle.hb_manifest.proofs.media.without_front.Goals as goal

pub slice_bounds-result-count : goal.slice_bounds-result-count
slice_bounds-result-count c = omega (arith, c.blanks_in_front.ensures, prefix_len-le-length is_blank c.args.text.now)

pub slice_bounds-result-start : goal.slice_bounds-result-start
slice_bounds-result-start c =
    let within : c.blanks_in_front.result ≤ length c.args.text.now = omega (arith, c.blanks_in_front.ensures, prefix_len-le-length is_blank c.args.text.now) in
    within
