-- What bytes are over which a reader of chunks came to a place.
use Rattle.std.proofs.Common.{◌≡◌, ◌<◌, ◌≤◌, ◌+◌, ◌-◌, ◌∙◌, ℕ, true, List, [], ◌∷◌, ◌++◌, length, sym, ap, append-nil, lit≤}
use Rattle.std.specs.Prelude.{◌==◌}
use Rattle.std.specs.Char.{is_ascii_hexdigit}
use Rattle.std.specs.List.{AllByRecursion}
use Rattle.std.specs.Str.Parse.{digits_value}
use Rattle.std.proofs.lemmas.Bool.{cond_both}
use Rattle.std.proofs.lemmas.List.Concat.{flat_map-append}
use Rattle.hb_http.proofs.Each.{all_push}
use Rattle.hb_http.specs.Chunks.{IsInline, IsChunkSize, IsExtension, IsChunkLine, IsChunk, IsTrailer, joined, Chunk, texts_of, contents_of, AreChunks, IsChunkedBody}
use Rattle.hb_http.specs.ChunkPlaces.{line_most}
use Rattle.hb_http.specs.declared.TheConstants.{MAX_CHUNK_LINE}
use Rattle.hb_http.specs.declared.chunk_places.ChunkPlace.{ChunkPlace}
use Rattle.hb_http.specs.declared.chunk_places.ChunkPlace.TheVariants.{Size, Extension, LineFeed, Data, DataReturn, DataFeed, TrailerStart, Trailer, TrailerFeed, LastFeed, Over, Bad}

-- Each record says of the bytes b so far that they are whole chunks, whose data is a front of d, and
-- then the beginning of what follows, up to a place.

-- digits of a chunk line
pub record InSize (size digits : ℕ) (b d : List ℕ) : Type 0 where
  pub front : List ℕ
  pub chunks : AreChunks front d
  pub ds : List ℕ
  pub text : b ≡ front ++ ds
  pub count : length ds ≡ digits
  pub few : digits ≤ 16
  pub hex : AllByRecursion (λ c. is_ascii_hexdigit c ≡ true) ds
  pub value : digits_value 16 ds ≡ size

-- a size and a part of an extension
pub record InExtension (size used : ℕ) (b d : List ℕ) : Type 0 where
  pub front : List ℕ
  pub chunks : AreChunks front d
  pub ds : List ℕ
  pub cs : List ℕ
  pub text : b ≡ front ++ (ds ++ 59 ∷ cs)
  pub is_size : IsChunkSize ds size
  pub inline : IsInline cs
  pub count : length ds + length cs + 1 ≡ used
  pub fits : used + 2 ≤ line_most size

-- a chunk line without its LF
pub record InLineEnd (size used : ℕ) (b d : List ℕ) : Type 0 where
  pub front : List ℕ
  pub chunks : AreChunks front d
  pub ds : List ℕ
  pub extension : List ℕ
  pub text : b ≡ front ++ (ds ++ (extension ++ 13 ∷ []))
  pub is_size : IsChunkSize ds size
  pub is_extension : IsExtension extension
  pub count : length ds + length extension + 1 ≡ used
  pub fits : used + 1 ≤ line_most size

-- a chunk line and a part of its data
pub record InData (left : ℕ) (b d : List ℕ) : Type 0 where
  pub front : List ℕ
  pub before : List ℕ
  pub chunks : AreChunks front before
  pub line : List ℕ
  pub piece : List ℕ
  pub text : b ≡ front ++ (line ++ piece)
  pub told : d ≡ before ++ piece
  pub is_line : IsChunkLine line (length piece + left)
  pub short : length line ≤ MAX_CHUNK_LINE
  pub some : 0 < left

-- a chunk line, its data, and a part of the CR LF behind it
pub record InDataEnd (tail b d : List ℕ) : Type 0 where
  pub front : List ℕ
  pub before : List ℕ
  pub chunks : AreChunks front before
  pub line : List ℕ
  pub piece : List ℕ
  pub text : b ≡ front ++ (line ++ (piece ++ tail))
  pub told : d ≡ before ++ piece
  pub is_line : IsChunkLine line (length piece)
  pub short : length line ≤ MAX_CHUNK_LINE
  pub some : 0 < length piece

-- the last chunk line and trailer lines
pub record InTrailers (used : ℕ) (b d : List ℕ) : Type 0 where
  pub front : List ℕ
  pub chunks : AreChunks front d
  pub line : List ℕ
  pub lines : List (List ℕ)
  pub text : b ≡ front ++ (line ++ joined lines)
  pub is_line : IsChunkLine line 0
  pub each : AllByRecursion IsTrailer lines
  pub count : length line + length (joined lines) ≡ used
  pub fits : used + 2 ≤ MAX_CHUNK_LINE

-- those, a part of a trailer line, and maybe its CR
pub record InTrailer (used : ℕ) (tail b d : List ℕ) : Type 0 where
  pub begun : List ℕ
  pub lines : ℕ
  pub trailers : InTrailers lines begun d
  pub content : List ℕ
  pub text : b ≡ begun ++ (content ++ tail)
  pub some : 0 < length content
  pub inline : IsInline content
  pub count : lines + length content ≡ used
  pub fits : used + 4 ≤ MAX_CHUNK_LINE

-- all but the last LF
pub record InLast (b d : List ℕ) : Type 0 where
  pub begun : List ℕ
  pub lines : ℕ
  pub trailers : InTrailers lines begun d
  pub text : b ≡ begun ++ 13 ∷ []

-- what bytes with this data are, up to a place
abbrev pub IsFront : ChunkPlace → List ℕ → List ℕ → Type 0
IsFront (Size size digits) b d = InSize size digits b d
IsFront (Extension size used) b d = InExtension size used b d
IsFront (LineFeed size used) b d = InLineEnd size used b d
IsFront (Data left) b d = InData left b d
IsFront DataReturn b d = InDataEnd [] b d
IsFront DataFeed b d = InDataEnd (13 ∷ []) b d
IsFront (TrailerStart used) b d = InTrailers used b d
IsFront (Trailer used) b d = InTrailer used [] b d
IsFront (TrailerFeed used) b d = (begun : ℕ) × (begun + 1 ≡ used) × InTrailer begun (13 ∷ []) b d
IsFront LastFeed b d = InLast b d
IsFront Over b d = IsChunkedBody b d
IsFront Bad b d = Unit {0}

-- a front that is longer by a byte
pub longer : (b t : List ℕ) (c : ℕ) → b ≡ t → b ++ c ∷ [] ≡ t ++ c ∷ []
longer b t c e = ap (λ (s : List ℕ). s ++ c ∷ []) e

-- no line is bounded by less
pub least_most : (size : ℕ) → MAX_CHUNK_LINE - 2 ≤ line_most size
least_most size = cond_both (size == 0) (MAX_CHUNK_LINE - 2) MAX_CHUNK_LINE (λ (n : ℕ). MAX_CHUNK_LINE - 2 ≤ n) (λ t. lit≤ tt) (λ t. lit≤ tt)

-- nor by more
pub most_most : (size : ℕ) → line_most size ≤ MAX_CHUNK_LINE
most_most size = cond_both (size == 0) (MAX_CHUNK_LINE - 2) MAX_CHUNK_LINE (λ (n : ℕ). n ≤ MAX_CHUNK_LINE) (λ t. lit≤ tt) (λ t. lit≤ tt)

-- chunks and one more
pub chunks_push : (front d chunk piece : List ℕ) → AreChunks front d → IsChunk chunk piece → AreChunks (front ++ chunk) (d ++ piece)
chunks_push front d chunk piece are is =
    let one : Chunk = record { text = chunk; content = piece } in
    record {
      chunks = are.chunks ++ one ∷ [];
      each = all_push (λ c. IsChunk c.text c.content) are.chunks one are.each is;
      text = ap (λ (t : List ℕ). t ++ chunk) are.text ∙ (ap (λ (t : List ℕ). texts_of are.chunks ++ t) (sym (append-nil chunk)) ∙ sym (flat_map-append (λ c. c.text) are.chunks (one ∷ [])));
      joins = ap (λ (t : List ℕ). t ++ piece) are.joins ∙ (ap (λ (t : List ℕ). contents_of are.chunks ++ t) (sym (append-nil piece)) ∙ sym (flat_map-append (λ c. c.content) are.chunks (one ∷ [])));
    }
