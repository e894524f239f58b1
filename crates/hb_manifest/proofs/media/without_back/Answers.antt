use Rattle.std.proofs.Common.{arith}
use Rattle.std.proofs.lemmas.List.Sums.{suffix_len-le-length}
use Rattle.hb_manifest.specs.MediaTypes.{is_blank}
use Rattle.hb_manifest.proofs.media.without_back.Goals as goal

pub slice_bounds-result-count : goal.slice_bounds-result-count
slice_bounds-result-count c = omega (arith, c.blanks_behind.ensures, suffix_len-le-length is_blank c.args.text.now)
