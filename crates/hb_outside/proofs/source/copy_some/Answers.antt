use Rattle.std.proofs.Common.{arith}
use Rattle.hb_outside.proofs.Pieces.{drop-copied}
use Rattle.hb_outside.proofs.source.copy_some.Goals as goal

pub returns-clause-bytes : goal.returns-clause-bytes
returns-clause-bytes c = drop-copied c.args.place c.min-count.result c.args.bytes.now c.copy_from_slice.new.self _ (omega arith) c.copy_from_slice.ensures.after
