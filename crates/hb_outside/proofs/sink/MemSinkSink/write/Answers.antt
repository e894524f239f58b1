use Rattle.std.proofs.Common.{arith, ◌∙◌}
use Rattle.hb_outside.proofs.Pieces.{append-filled}
use Rattle.hb_outside.proofs.sink.MemSinkSink.write.Goals as goal

pub returns-then-part-piece-clause-written : goal.returns-then-part-piece-clause-written
returns-then-part-piece-clause-written c = λ _. c.in-Ok.ensures.items ∙ append-filled c.args.self.now.room c.min-part.result c.args.self.now.bytes.items c.args.piece.now (omega arith)
