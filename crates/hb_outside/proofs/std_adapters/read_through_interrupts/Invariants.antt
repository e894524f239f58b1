use Rattle.std.specs.Io.KnownBytes.{Keeps}
use Rattle.hb_outside.proofs.std_adapters.read_through_interrupts.Given as goal

abbrev pub invariant-loop : goal.invariant-loop
invariant-loop g l = Keeps (g.R.Read.remaining l.initial.reader) (g.R.Read.remaining l.reader)
