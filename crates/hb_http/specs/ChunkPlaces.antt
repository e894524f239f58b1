-- Where a reader stands in a body in chunks, byte by byte. What this says of whole bodies is said by the
-- laws `chunks_are_read`.
use Rattle.std.specs.Prelude.{◌<◌, ◌≤◌, ◌+◌, ◌-◌, ◌*◌, ◌^◌, ◌==◌, ◌&&◌, nat_lt, nat_le, ℕ, List, [], ◌∷◌, ◌++◌, fold, if◌then◌else◌}
use Rattle.std.specs.Char.{digit_value, is_ascii_hexdigit}
use Rattle.hb_http.specs.declared.TheConstants.{MAX_CHUNK_LINE}
use Rattle.hb_http.specs.declared.chunk_places.ChunkPlace.{ChunkPlace}
use Rattle.hb_http.specs.declared.chunk_places.ChunkPlace.TheVariants.{Size, Extension, LineFeed, Data, DataReturn, DataFeed, TrailerStart, Trailer, TrailerFeed, LastFeed, Over, Bad}

-- the most bytes of a chunk line of this size; behind the last one the empty line has to fit too
abbrev pub line_most : ℕ → ℕ
line_most size = if size == 0 then MAX_CHUNK_LINE - 2 else MAX_CHUNK_LINE

-- in the digits of a chunk line
abbrev pub after_size : ℕ → ℕ → ℕ → ChunkPlace
after_size size digits c =
    if is_ascii_hexdigit c && nat_lt digits 16 then Size (size * 16 + digit_value c) (digits + 1) else (
    if c == 13 && nat_lt 0 digits then LineFeed size (digits + 1) else (
    if c == 59 && nat_lt 0 digits then Extension size (digits + 1) else Bad))

-- in an extension, behind so many bytes of its line
abbrev pub after_extension : ℕ → ℕ → ℕ → ChunkPlace
after_extension size used c =
    if c == 13 then LineFeed size (used + 1) else (
    if c == 10 then Bad else (
    if nat_le (used + 3) (line_most size) then Extension size (used + 1) else Bad))

-- behind a chunk line
abbrev pub after_line : ℕ → ℕ → ChunkPlace
after_line size used = if size == 0 then TrailerStart used else Data size

-- in the data of a chunk, of which so much is left
abbrev pub after_data : ℕ → ChunkPlace
after_data left = if nat_le left 1 then DataReturn else Data (left - 1)

-- at the start of a line behind the last chunk line, or in a trailer line, behind so many bytes of the
-- body's end
abbrev pub after_trailer : ChunkPlace → ℕ → ℕ → ChunkPlace
after_trailer at_return used c =
    if c == 13 then at_return else (
    if c == 10 then Bad else (
    if nat_le (used + 5) MAX_CHUNK_LINE then Trailer (used + 1) else Bad))

-- the place if the byte is this one
abbrev pub after_only : ℕ → ChunkPlace → ℕ → ChunkPlace
after_only wanted place c = if c == wanted then place else Bad

-- the place behind one byte more
abbrev pub chunk_step : ChunkPlace → ℕ → ChunkPlace
chunk_step (Size size digits) c = after_size size digits c
chunk_step (Extension size used) c = after_extension size used c
chunk_step (LineFeed size used) c = after_only 10 (after_line size (used + 1)) c
chunk_step (Data left) c = after_data left
chunk_step DataReturn c = after_only 13 DataFeed c
chunk_step DataFeed c = after_only 10 (Size 0 0) c
chunk_step (TrailerStart used) c = after_trailer LastFeed used c
chunk_step (Trailer used) c = after_trailer (TrailerFeed (used + 1)) used c
chunk_step (TrailerFeed used) c = after_only 10 (TrailerStart (used + 1)) c
chunk_step LastFeed c = after_only 10 Over c
chunk_step Over c = Bad
chunk_step Bad c = Bad

-- the place behind more bytes
abbrev pub place_after : ChunkPlace → List ℕ → ChunkPlace
place_after = fold chunk_step

-- where a body begins
abbrev pub body_start : ChunkPlace
body_start = Size 0 0

-- the data that a byte is, read at a place
abbrev pub data_at : ChunkPlace → ℕ → List ℕ
data_at (Data left) c = c ∷ []
data_at place c = []

-- the data among more bytes
abbrev pub data_after : ChunkPlace → List ℕ → List ℕ
data_after place [] = []
data_after place (c ∷ cs) = data_at place c ++ data_after (chunk_step place c) cs

-- a place that can be come to, by its numbers
abbrev pub IsPlace : ChunkPlace → Type 0
IsPlace (Size size digits) = (digits ≤ 16) × (size < 16 ^ digits)
IsPlace (Extension size used) = used + 2 ≤ line_most size
IsPlace (LineFeed size used) = used + 1 ≤ line_most size
IsPlace (Data left) = 0 < left
IsPlace (TrailerStart used) = used + 2 ≤ MAX_CHUNK_LINE
IsPlace (Trailer used) = used + 4 ≤ MAX_CHUNK_LINE
IsPlace (TrailerFeed used) = used + 3 ≤ MAX_CHUNK_LINE
IsPlace place = Unit {0}

-- data follows, or the body is over or none
abbrev pub IsStop : ChunkPlace → Type 0
IsStop (Data left) = Unit {0}
IsStop Over = Unit {0}
IsStop Bad = Unit {0}
IsStop place = ⊥

-- each byte is read where lines are read on, so none is data, and a body ends with the last or not at all
abbrev pub AreLines : ChunkPlace → List ℕ → Type 0
AreLines place [] = Unit {0}
AreLines place (c ∷ cs) = (¬ (IsStop place)) × AreLines (chunk_step place c) cs
