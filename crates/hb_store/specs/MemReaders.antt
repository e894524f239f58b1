-- What a reader in memory has left.
use Rattle.std.specs.Prelude.{ℕ, List, drop}
use Rattle.hb_store.specs.declared.mem_reader.MemReader.{MemReader}

abbrev pub bytes_left : MemReader → List ℕ
bytes_left r = drop r.place r.bytes.items
