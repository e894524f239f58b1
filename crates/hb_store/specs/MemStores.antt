-- What a store in memory holds.
use Rattle.std.specs.Prelude.{◌≡◌, []}
use Rattle.hb_store.specs.Contents.{Contents}
use Rattle.hb_store.specs.declared.mem_store.MemStore.{MemStore}

abbrev pub contents_of : MemStore → Contents
contents_of s = record {
  stages = s.stages.items;
  held = s.held.items;
  lapsing = s.lapsing.items;
  clock = s.clock;
  placed = s.placed.items;
}

-- nothing
abbrev pub empty_contents : Contents
empty_contents = record { stages = []; held = []; lapsing = []; clock = 0; placed = [] }

-- the same calls of its stages and of its readers are to fail
abbrev pub SameScripts : MemStore → MemStore → Type 0
SameScripts old new = (new.stage_fails.items ≡ old.stage_fails.items) × (new.reader_fails.items ≡ old.reader_fails.items)
