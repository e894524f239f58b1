-- Bodies in chunks (RFC 9112, section 7.1): chunks, a last line, trailer lines and an empty line. Each
-- line ends with CR LF. Extensions of chunks and trailer lines are read over.
use Rattle.std.specs.Prelude.{◌≡◌, ◌<◌, ◌≤◌, ℕ, true, false, List, [], ◌∷◌, ◌++◌, length}
use Rattle.std.specs.Char.{is_ascii_hexdigit}
use Rattle.std.specs.List.{AllByRecursion, flat_map}
use Rattle.std.specs.Str.Parse.{digits_value}
use Rattle.hb_http.specs.WholeLines.{is_newline}
use Rattle.hb_http.specs.declared.TheConstants.{MAX_CHUNK_LINE}

abbrev pub crlf : List ℕ
crlf = 13 ∷ 10 ∷ []

-- no byte is a CR or an LF
abbrev pub IsInline : List ℕ → Type 0
IsInline = AllByRecursion (λ c. is_newline c ≡ false)

-- 1 to 16 hexadecimal digits of either case, which may begin with zeros, write this size
pub record IsChunkSize (digits : List ℕ) (size : ℕ) : Type 0 where
  pub some : 0 < length digits
  pub few : length digits ≤ 16
  pub hex : AllByRecursion (λ c. is_ascii_hexdigit c ≡ true) digits
  pub value : digits_value 16 digits ≡ size

-- nothing, or `;` and any bytes that don't end the line
abbrev pub IsExtension : List ℕ → Type 0
IsExtension [] = Unit {0}
IsExtension (c ∷ cs) = (c ≡ 59) × IsInline cs

-- a chunk line: a size, and maybe an extension
pub record IsChunkLine (line : List ℕ) (size : ℕ) : Type 0 where
  pub digits : List ℕ
  pub extension : List ℕ
  pub text : line ≡ digits ++ (extension ++ crlf)
  pub is_size : IsChunkSize digits size
  pub is_extension : IsExtension extension

-- a chunk: a line with a size above 0, as many bytes, and CR LF
pub record IsChunk (chunk content : List ℕ) : Type 0 where
  pub line : List ℕ
  pub is_line : IsChunkLine line (length content)
  pub some : 0 < length content
  pub short : length line ≤ MAX_CHUNK_LINE
  pub text : chunk ≡ line ++ (content ++ crlf)

-- a trailer line has at least one byte
pub record IsTrailer (line : List ℕ) : Type 0 where
  pub content : List ℕ
  pub some : 0 < length content
  pub inline : IsInline content
  pub text : line ≡ content ++ crlf

abbrev pub joined : List (List ℕ) → List ℕ
joined = flat_map (λ line. line)

-- the end of a body: a chunk line of size 0, trailer lines and an empty line
pub record IsBodyEnd (ending : List ℕ) : Type 0 where
  pub line : List ℕ
  pub trailers : List (List ℕ)
  pub is_line : IsChunkLine line 0
  pub each : AllByRecursion IsTrailer trailers
  pub text : ending ≡ line ++ (joined trailers ++ crlf)
  pub short : length ending ≤ MAX_CHUNK_LINE

-- a chunk's text, and its data
pub record Chunk : Type 0 where
  pub text : List ℕ
  pub content : List ℕ

abbrev pub texts_of : List Chunk → List ℕ
texts_of = flat_map (λ c. c.text)

abbrev pub contents_of : List Chunk → List ℕ
contents_of = flat_map (λ c. c.content)

-- the bytes are chunks, which have this data
pub record AreChunks (bytes content : List ℕ) : Type 0 where
  pub chunks : List Chunk
  pub each : AllByRecursion (λ c. IsChunk c.text c.content) chunks
  pub text : bytes ≡ texts_of chunks
  pub joins : content ≡ contents_of chunks

-- the bytes are a body in chunks, whose data is this
pub record IsChunkedBody (bytes content : List ℕ) : Type 0 where
  pub chunks : List ℕ
  pub end : List ℕ
  pub are_chunks : AreChunks chunks content
  pub is_end : IsBodyEnd end
  pub text : bytes ≡ chunks ++ end

-- no bytes can follow that make a body in chunks of these
abbrev pub NeverIsChunkedBody : List ℕ → Type 0
NeverIsChunkedBody bytes = (more content : List ℕ) → ¬ (IsChunkedBody (bytes ++ more) content)
