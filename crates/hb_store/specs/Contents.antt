-- What a store holds.
use Rattle.std.specs.Prelude.{◌<◌, ℕ, not, List, [], filter, length, take, Contains, unwrap_or, max, ◌∷◌}
use Rattle.std.specs.declared.option.Option.{Option}
use Rattle.std.specs.Option.{option_map}
use Rattle.std.specs.Ordering.{nat_cmp, is_eq}
use Rattle.std.specs.declared.cmp.Ordering.{Ordering}
use Rattle.std.specs.Cmp.Lexicographic.{slice_cmp}
use Rattle.hb_base.specs.Tables.{row_at, with_row, without_key}
use Rattle.hb_text.specs.declared.digests.Digest.{Digest}
use Rattle.hb_store.specs.declared.rows.StagedBytes.{StagedBytes}
use Rattle.hb_store.specs.declared.rows.HeldBlob.{HeldBlob}
use Rattle.hb_store.specs.declared.rows.Lapsing.{Lapsing}
use Rattle.hb_store.specs.declared.rows.Placed.{Placed}

-- Stages are in the order of their ids, and held blobs in that of their digests.
pub record Contents : Type 0 where
  -- the bytes of each upload that has a stage
  pub stages : List StagedBytes
  -- the bytes held under each digest
  pub held : List HeldBlob
  -- the removals that were sent and not acknowledged, each with the moment from which on it has no effect
  pub lapsing : List Lapsing
  -- the greatest moment that was handed in
  pub clock : ℕ
  -- the digest and the length of every content that was placed so far, or may have been
  pub placed : List Placed

-- digests are ordered by their bytes
abbrev pub digest_cmp : Digest → Digest → Ordering
digest_cmp a b = slice_cmp nat_cmp a.0 b.0

abbrev pub stage_key : StagedBytes → ℕ
stage_key row = row.id

abbrev pub held_key : HeldBlob → Digest
held_key row = row.digest

-- the bytes of an upload's stage, none where it has no stage
abbrev pub staged_in : ℕ → List StagedBytes → List ℕ
staged_in id stages = unwrap_or (option_map (λ row. row.bytes) (row_at nat_cmp stage_key id stages)) []

abbrev pub staged_bytes : Contents → ℕ → List ℕ
staged_bytes c id = staged_in id c.stages

-- the bytes held under a digest
abbrev pub held_in : Digest → List HeldBlob → Option (List ℕ)
held_in d held = option_map (λ row. row.bytes) (row_at digest_cmp held_key d held)

abbrev pub bytes_of : Contents → Digest → Option (List ℕ)
bytes_of c d = held_in d c.held

-- with the first bytes of the upload's stage as its stage
abbrev pub staging : ℕ → ℕ → Contents → Contents
staging id keep c = record {
  stages = with_row nat_cmp stage_key (record { id = id; bytes = take keep (staged_bytes c id) }) c.stages;
  held = c.held;
  lapsing = c.lapsing;
  clock = c.clock;
  placed = c.placed;
}

-- without the upload's stage
abbrev pub unstaged : ℕ → Contents → Contents
unstaged id c = record {
  stages = without_key nat_cmp stage_key id c.stages;
  held = c.held;
  lapsing = c.lapsing;
  clock = c.clock;
  placed = c.placed;
}

-- with these bytes held under the digest
abbrev pub holding : Digest → List ℕ → Contents → Contents
holding d bytes c = record {
  stages = c.stages;
  held = with_row digest_cmp held_key (record { digest = d; bytes = bytes }) c.held;
  lapsing = c.lapsing;
  clock = c.clock;
  placed = c.placed;
}

-- with these bytes counted as placed under the digest
abbrev pub counting : Digest → List ℕ → Contents → Contents
counting d bytes c = record {
  stages = c.stages;
  held = c.held;
  lapsing = c.lapsing;
  clock = c.clock;
  placed = record { digest = d; size = length bytes } ∷ c.placed;
}

-- a removal of the digest may still take effect
abbrev pub IsLapsing : Contents → Digest → Type 0
IsLapsing c d = (until : ℕ) × Contains c.lapsing (record { digest = d; until = until }) × (c.clock < until)

-- a removal of the digest has taken effect: it isn't held, and no removal of it is lapsing
abbrev pub lapsed : Contents → Digest → Contents
lapsed c d = record {
  stages = c.stages;
  held = without_key digest_cmp held_key d c.held;
  lapsing = filter (λ row. not (is_eq (digest_cmp d row.digest))) c.lapsing;
  clock = c.clock;
  placed = c.placed;
}

-- with the clock at the moment, unless it is there or later
abbrev pub at_moment : ℕ → Contents → Contents
at_moment now c = record {
  stages = c.stages;
  held = c.held;
  lapsing = c.lapsing;
  clock = max c.clock now;
  placed = c.placed;
}
