use Rattle.std.proofs.Common.{◌≡◌, ℕ, List, ◌++◌, length, Some, vec_len}
use Rattle.hb_ops.proofs.reading.read_whole.Given as goal

-- the bytes so far and those that are left are all
abbrev pub invariant-loop-reader : goal.invariant-loop-reader
invariant-loop-reader g l = record {
  piece : vec_len l.piece ≡ 65536;
  all : (bytes : List ℕ) → g.R.Reader.bytes l.initial.reader ≡ Some bytes → length bytes ≡ g.R.Reader.left l.initial.reader
      → (rest : List ℕ) × (g.R.Reader.bytes l.reader ≡ Some rest) × (length rest ≡ g.R.Reader.left l.reader) × (bytes ≡ l.text.items ++ rest);
}

abbrev pub decreases-loop-reader : goal.decreases-loop-reader
decreases-loop-reader g l = g.R.Reader.left l.reader
