-- What a source in memory has left, and how much of it the next read gives.
use Rattle.std.specs.Prelude.{◌≡◌, ℕ, ◌+◌, ◌-◌, ◌^◌, List, drop, length, min, max, slice_get, Result, MatchResult}
use Rattle.std.specs.Option.{option_map_or}
use Rattle.hb_outside.specs.declared.source.MemSource.{MemSource}

abbrev pub bytes_left : MemSource → List ℕ
bytes_left s = drop s.place s.bytes.items

-- as many bytes as the next cut says, at least 1, into so much room; past the cuts, all of the room
abbrev pub cut_of : MemSource → ℕ → ℕ
cut_of s room = option_map_or (λ most. min room (max most 1)) (slice_get s.cuts.items s.cut) room

-- a read that doesn't fail gives as much as the cut says and is left, and goes on to the next cut
pub record TakesCut (old new : MemSource) (room n : ℕ) : Type 0 where
  pub amount : n ≡ min (cut_of old room) (length (bytes_left old))
  pub next : new.cut ≡ min (old.cut + 1) (2 ^ 64 - 1)

abbrev pub Cuts : {E : Type 0} → MemSource → MemSource → ℕ → Result ℕ E → Type 0
Cuts old new room result = MatchResult result (λ n. TakesCut old new room n) (λ _. new.cut ≡ old.cut)
