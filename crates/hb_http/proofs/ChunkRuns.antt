-- What a reader of chunks comes to over the texts of their grammar.
use Rattle.std.proofs.Common.{◌≡◌, ◌<◌, ◌≤◌, ◌+◌, ◌-◌, ◌*◌, ◌∙◌, ℕ, true, false, List, [], ◌∷◌, ◌++◌, length, take, get_or, refl, sym, ap, subst, arith, append_assoc, append-nil, length-append, add-zero}
use Rattle.std.specs.Prelude.{◌==◌}
use Rattle.std.specs.Char.{digit_value, is_ascii_hexdigit}
use Rattle.std.specs.List.{AllByRecursion}
use Rattle.std.specs.Str.Parse.{digits_value_after}
use Rattle.std.proofs.lemmas.Bool.{and_from, cond-true, cond-false, ne_eqb, lt-ltb, le-leb, lt-leb, or_parts}
use Rattle.std.proofs.lemmas.List.{take_more}
use Rattle.std.proofs.lemmas.List.Sums.{fold-append, fold_push}
use Rattle.hb_http.specs.Chunks.{crlf, IsInline, IsExtension, IsChunkLine, IsChunk, IsTrailer, joined, IsBodyEnd, Chunk, texts_of, contents_of, IsChunkedBody}
use Rattle.hb_http.specs.ChunkPlaces.{line_most, after_size, after_extension, after_line, after_data, chunk_step, place_after, body_start, data_at, data_after, AreLines, IsStop}
use Rattle.hb_http.specs.WholeLines.{is_newline}
use Rattle.hb_http.specs.declared.TheConstants.{MAX_CHUNK_LINE}
use Rattle.hb_http.specs.declared.chunk_places.ChunkPlace.{ChunkPlace}
use Rattle.hb_http.specs.declared.chunk_places.ChunkPlace.TheVariants.{Size, Extension, LineFeed, Data, DataReturn, TrailerStart, Trailer, Over}

-- from a place over bytes, among which is this data, to a place
pub record Runs (from : ChunkPlace) (bytes content : List ℕ) (to : ChunkPlace) : Type 0 where
  pub arrives : place_after from bytes ≡ to
  pub gives : data_after from bytes ≡ content

-- the data of bytes and of more behind them
pub data_after-append : (p : ChunkPlace) (xs ys : List ℕ) → data_after p (xs ++ ys) ≡ data_after p xs ++ data_after (place_after p xs) ys
data_after-append p [] ys = refl
data_after-append p (x ∷ xs) ys =
    ap (λ (t : List ℕ). data_at p x ++ t) (data_after-append (chunk_step p x) xs ys)
    ∙ sym (append_assoc (data_at p x) (data_after (chunk_step p x) xs) (data_after (place_after (chunk_step p x) xs) ys))

-- one run behind another
pub run_on : {p q r : ChunkPlace} {a b x y : List ℕ} → Runs p a x q → Runs q b y r → Runs p (a ++ b) (x ++ y) r
run_on {p} {q} {r} {a} {b} {x} {y} first second = record {
  arrives = fold-append chunk_step p a b ∙ (ap (λ (s : ChunkPlace). place_after s b) first.arrives ∙ second.arrives);
  gives = data_after-append p a b ∙ ((λ i. first.gives i ++ data_after (first.arrives i) b) ∙ ap (λ (t : List ℕ). x ++ t) second.gives);
}

-- no bytes
pub run_none : (p : ChunkPlace) → Runs p [] [] p
run_none p = record { arrives = refl; gives = refl }

-- one byte that is no data
run_byte : (p q : ChunkPlace) (c : ℕ) → data_at p c ≡ [] → chunk_step p c ≡ q → Runs p (c ∷ []) [] q
run_byte p q c quiet step = record { arrives = step; gives = ap (λ (t : List ℕ). t ++ []) quiet }

-- one byte of data
run_datum : (left : ℕ) (q : ChunkPlace) (c : ℕ) → after_data left ≡ q → Runs (Data left) (c ∷ []) (c ∷ []) q
run_datum left q c step = record { arrives = step; gives = refl }

-- a run may be said to come elsewhere, if that is the same place
run_to : {p q r : ChunkPlace} {a x : List ℕ} → Runs p a x q → q ≡ r → Runs p a x r
run_to {p} {q} {r} {a} {x} run same = subst (Runs p a x) same run

-- digits
digit_step : (size n d : ℕ) → is_ascii_hexdigit d ≡ true → n < 16 → after_size size n d ≡ Size (size * 16 + digit_value d) (n + 1)
digit_step size n d hex few = cond-true _ _ _ (and_from _ _ hex (lt-ltb n 16 few))

run_digits : (ds : List ℕ) (size n : ℕ) → AllByRecursion (λ c. is_ascii_hexdigit c ≡ true) ds → n + length ds ≤ 16
    → Runs (Size size n) ds [] (Size (digits_value_after 16 size ds) (n + length ds))
run_digits [] size n hex few = run_to (run_none (Size size n)) (ap (λ (k : ℕ). Size size k) (sym (add-zero n)))
run_digits (d ∷ ds) size n hex few =
    let more : n < 16 = omega arith in
    let rest : (n + 1) + length ds ≤ 16 = omega arith in
    let count : (n + 1) + length ds ≡ n + length (d ∷ ds) = omega arith in
    run_to
    (run_on (run_byte (Size size n) _ d refl (digit_step size n d hex.0 more)) (run_digits ds (size * 16 + digit_value d) (n + 1) hex.1 rest))
    (ap (λ (k : ℕ). Size (digits_value_after 16 size (d ∷ ds)) k) count)

-- a byte that isn't a line end
not_return : (c : ℕ) → is_newline c ≡ false → (c == 13) ≡ false
not_return c inline = (or_parts (c == 10) (c == 13) inline).1

not_feed : (c : ℕ) → is_newline c ≡ false → (c == 10) ≡ false
not_feed c inline = (or_parts (c == 10) (c == 13) inline).0

-- an extension
run_extension : (cs : List ℕ) (size used : ℕ) → IsInline cs → used + length cs + 2 ≤ line_most size → Runs (Extension size used) cs [] (Extension size (used + length cs))
run_extension [] size used inline fits = run_to (run_none (Extension size used)) (ap (λ (k : ℕ). Extension size k) (sym (add-zero used)))
run_extension (c ∷ cs) size used inline fits =
    let room : used + 3 ≤ line_most size = omega arith in
    let step : after_extension size used c ≡ Extension size (used + 1) =
    cond-false _ _ _ (not_return c inline.0) ∙ (cond-false _ _ _ (not_feed c inline.0) ∙ cond-true _ _ _ (le-leb (used + 3) (line_most size) room)) in
    let rest : (used + 1) + length cs + 2 ≤ line_most size = omega arith in
    let count : (used + 1) + length cs ≡ used + length (c ∷ cs) = omega arith in
    run_to (run_on (run_byte (Extension size used) _ c refl step) (run_extension cs size (used + 1) inline.1 rest)) (ap (λ (k : ℕ). Extension size k) count)

-- where lines are read on there is no data
no_data : (p : ChunkPlace) (c : ℕ) → ¬ (IsStop p) → data_at p c ≡ []
no_data (Data left) c on = absurd (on tt)
no_data p c on = refl

-- among lines there is no data
pub lines_no_data : (p : ChunkPlace) (lines : List ℕ) → AreLines p lines → data_after p lines ≡ []
lines_no_data p [] are = refl
lines_no_data p (c ∷ cs) are = λ i. no_data p c are.0 i ++ lines_no_data (chunk_step p c) cs are.1 i

-- lines with one byte more
lines_push : (p : ChunkPlace) (lines : List ℕ) (c : ℕ) → AreLines p lines → ¬ (IsStop (place_after p lines)) → AreLines p (lines ++ c ∷ [])
lines_push p [] c are on = (on, tt)
lines_push p (b ∷ lines) c are on = (are.0, lines_push (chunk_step p b) lines c are.1 on)

-- one byte more of the lines of a text
pub one_more : (start now next : ChunkPlace) (bytes : List ℕ) (n : ℕ) → n < length bytes → now ≡ place_after start (take n bytes) → AreLines start (take n bytes)
    → ¬ (IsStop now) → next ≡ chunk_step now (get_or bytes n 0)
    → (next ≡ place_after start (take (n + 1) bytes)) × AreLines start (take (n + 1) bytes)
one_more start now next bytes n within here are on step =
    let byte : ℕ = get_or bytes n 0 in
    let more : take (n + 1) bytes ≡ take n bytes ++ byte ∷ [] = take_more bytes n 0 within in (
      step ∙ (ap (λ (p : ChunkPlace). chunk_step p byte) here ∙ sym (ap (place_after start) more ∙ fold_push chunk_step start (take n bytes) byte)),
      subst (AreLines start) (sym more) (lines_push start (take n bytes) byte are (λ stop. on (subst IsStop (sym here) stop))),
    )

-- the CR LF behind a chunk line
run_line_end : (size used : ℕ) (p : ChunkPlace) → after_line size (used + 2) ≡ p → Runs (LineFeed size (used + 1)) (10 ∷ []) [] p
run_line_end size used p is = run_byte (LineFeed size (used + 1)) p 10 refl ((let e : (used + 1) + 1 ≡ used + 2 = omega arith in ap (after_line size) e) ∙ is)

-- nothing or an extension, and the end of the line
run_line_rest : (extension : List ℕ) (size digits : ℕ) → IsExtension extension → 0 < digits → digits + length extension + 2 ≤ line_most size
    → Runs (Size size digits) (extension ++ crlf) [] (after_line size (digits + length extension + 2))
run_line_rest [] size digits is some fits =
    let step : after_size size digits 13 ≡ LineFeed size (digits + 1) = cond-true _ _ _ (lt-ltb 0 digits some) in
    let count : digits + 2 ≡ digits + 0 + 2 = omega arith in
    run_on (run_byte (Size size digits) _ 13 refl step) (run_line_end size digits _ (ap (after_line size) count))
run_line_rest (c ∷ cs) size digits is some fits =
    let step : after_size size digits 59 ≡ Extension size (digits + 1) = cond-true _ _ _ (lt-ltb 0 digits some) in
    let room : (digits + 1) + length cs + 2 ≤ line_most size = omega arith in
    let count : ((digits + 1) + length cs) + 2 ≡ digits + length (c ∷ cs) + 2 = omega arith in
    let line : Runs (Size size digits) (59 ∷ (cs ++ crlf)) [] (after_line size (digits + length (c ∷ cs) + 2)) =
    run_on (run_byte (Size size digits) _ 59 refl step) (run_on (run_extension cs size (digits + 1) is.1 room)
    (run_on (run_byte (Extension size ((digits + 1) + length cs)) _ 13 refl refl) (run_line_end size ((digits + 1) + length cs) _ (ap (after_line size) count)))) in
    subst (λ (b : ℕ). Runs (Size size digits) (b ∷ (cs ++ crlf)) [] (after_line size (digits + length (c ∷ cs) + 2))) (sym is.0) line

-- a chunk line
pub run_line : (line : List ℕ) (size : ℕ) → IsChunkLine line size → length line ≤ line_most size → Runs body_start line [] (after_line size (length line))
run_line line size is short =
    let ds : List ℕ = is.digits in
    let ext : List ℕ = is.extension in
    let sizes : length line ≡ length ds + length ext + 2 = (let e = ap length is.text in omega (arith, length-append ds (ext ++ crlf), length-append ext crlf)) in
    let some : 0 < length ds = is.is_size.some in
    let few : 0 + length ds ≤ 16 = (let f = is.is_size.few in omega arith) in
    let digits : Runs body_start ds [] (Size size (length ds)) = run_to (run_digits ds 0 0 is.is_size.hex few)
    (λ i. Size (is.is_size.value i) ((let e : 0 + length ds ≡ length ds = omega arith in e) i)) in
    let fits : length ds + length ext + 2 ≤ line_most size = omega arith in
    let whole = run_on digits (run_line_rest ext size (length ds) is.is_extension some fits) in
    subst (λ (l : List ℕ). Runs body_start l [] (after_line size (length line))) (sym is.text) (run_to whole (ap (after_line size) (sym sizes)))

-- data of which more is left
pub run_some : (xs : List ℕ) (left : ℕ) → length xs < left → Runs (Data left) xs xs (Data (left - length xs))
run_some [] left less = run_to (run_none (Data left)) (ap Data (let e : left ≡ left - 0 = omega arith in e))
run_some (x ∷ xs) left less =
    let more : 1 < left = omega arith in
    let step : after_data left ≡ Data (left - 1) = cond-false _ _ _ (lt-leb left 1 more) in
    let rest : length xs < left - 1 = omega arith in
    let count : (left - 1) - length xs ≡ left - length (x ∷ xs) = omega arith in
    run_to (run_on (run_datum left _ x step) (run_some xs (left - 1) rest)) (ap Data count)

-- all that is left
pub run_all : (xs : List ℕ) (left : ℕ) → length xs ≡ left → 0 < left → Runs (Data left) xs xs DataReturn
run_all [] left is some = absurd (omega arith)
run_all (x ∷ []) left is some =
    let one : left ≤ 1 = omega arith in run_datum left _ x (cond-true _ _ _ (le-leb left 1 one))
run_all (x ∷ y ∷ ys) left is some =
    let more : 1 < left = omega arith in
    let step : after_data left ≡ Data (left - 1) = cond-false _ _ _ (lt-leb left 1 more) in
    let rest : length (y ∷ ys) ≡ left - 1 = omega arith in
    let left_over : 0 < left - 1 = omega arith in
    run_on (run_datum left _ x step) (run_all (y ∷ ys) (left - 1) rest left_over)

-- a chunk
run_chunk : (chunk content : List ℕ) → IsChunk chunk content → Runs body_start chunk content body_start
run_chunk chunk content is =
    let size : ℕ = length content in
    let not_zero : (size == 0) ≡ false = ne_eqb size 0 (λ e. (let some = is.some in omega arith)) in
    let most : line_most size ≡ MAX_CHUNK_LINE = cond-false _ _ _ not_zero in
    let short : length is.line ≤ line_most size = (let s = is.short in omega arith) in
    let line : Runs body_start is.line [] (Data size) = run_to (run_line is.line size is.is_line short) (cond-false _ _ _ not_zero) in
    let rest : Runs DataReturn crlf [] body_start = record { arrives = refl; gives = refl } in
    let whole : Runs body_start (is.line ++ (content ++ crlf)) (content ++ []) body_start = run_on line (run_on (run_all content size refl is.some) rest) in
    subst (λ (t : List ℕ). Runs body_start t content body_start) (sym is.text) (subst (λ (t : List ℕ). Runs body_start (is.line ++ (content ++ crlf)) t body_start) (append-nil content) whole)

-- chunks
pub run_chunks : (chunks : List Chunk) → AllByRecursion (λ c. IsChunk c.text c.content) chunks → Runs body_start (texts_of chunks) (contents_of chunks) body_start
run_chunks [] all = run_none body_start
run_chunks (c ∷ cs) all = run_on (run_chunk c.text c.content all.0) (run_chunks cs all.1)

-- the content of a trailer line
run_content : (cs : List ℕ) (used : ℕ) → IsInline cs → used + length cs + 4 ≤ MAX_CHUNK_LINE → Runs (Trailer used) cs [] (Trailer (used + length cs))
run_content [] used inline fits = run_to (run_none (Trailer used)) (ap Trailer (sym (add-zero used)))
run_content (c ∷ cs) used inline fits =
    let room : used + 5 ≤ MAX_CHUNK_LINE = omega arith in
    let step : chunk_step (Trailer used) c ≡ Trailer (used + 1) =
    cond-false _ _ _ (not_return c inline.0) ∙ (cond-false _ _ _ (not_feed c inline.0) ∙ cond-true _ _ _ (le-leb (used + 5) MAX_CHUNK_LINE room)) in
    let rest : (used + 1) + length cs + 4 ≤ MAX_CHUNK_LINE = omega arith in
    let count : (used + 1) + length cs ≡ used + length (c ∷ cs) = omega arith in
    run_to (run_on (run_byte (Trailer used) _ c refl step) (run_content cs (used + 1) inline.1 rest)) (ap Trailer count)

-- the text of a trailer line
run_trailer_text : (content : List ℕ) (used : ℕ) → 0 < length content → IsInline content → used + length content + 4 ≤ MAX_CHUNK_LINE
    → Runs (TrailerStart used) (content ++ crlf) [] (TrailerStart (used + length content + 2))
run_trailer_text [] used some inline fits = absurd (omega arith)
run_trailer_text (c ∷ cs) used some inline fits =
    let room : used + 5 ≤ MAX_CHUNK_LINE = omega arith in
    let step : chunk_step (TrailerStart used) c ≡ Trailer (used + 1) =
    cond-false _ _ _ (not_return c inline.0) ∙ (cond-false _ _ _ (not_feed c inline.0) ∙ cond-true _ _ _ (le-leb (used + 5) MAX_CHUNK_LINE room)) in
    let rest : (used + 1) + length cs + 4 ≤ MAX_CHUNK_LINE = omega arith in
    let count : (((used + 1) + length cs) + 1) + 1 ≡ used + length (c ∷ cs) + 2 = omega arith in
    let end : Runs (Trailer ((used + 1) + length cs)) crlf [] (TrailerStart ((((used + 1) + length cs) + 1) + 1)) = record { arrives = refl; gives = refl } in
    run_on (run_byte (TrailerStart used) _ c refl step) (run_on (run_content cs (used + 1) inline.1 rest) (run_to end (ap TrailerStart count)))

-- a trailer line
run_trailer : (line : List ℕ) (used : ℕ) → IsTrailer line → used + length line + 2 ≤ MAX_CHUNK_LINE → Runs (TrailerStart used) line [] (TrailerStart (used + length line))
run_trailer line used is fits =
    let size : length line ≡ length is.content + 2 = (let e = ap length is.text in omega (arith, length-append is.content crlf)) in
    let room : used + length is.content + 4 ≤ MAX_CHUNK_LINE = omega arith in
    let count : used + length is.content + 2 ≡ used + length line = omega arith in
    subst (λ (l : List ℕ). Runs (TrailerStart used) l [] (TrailerStart (used + length line))) (sym is.text)
    (run_to (run_trailer_text is.content used is.some is.inline room) (ap TrailerStart count))

-- trailer lines
run_trailers : (lines : List (List ℕ)) (used : ℕ) → AllByRecursion IsTrailer lines → used + length (joined lines) + 2 ≤ MAX_CHUNK_LINE
    → Runs (TrailerStart used) (joined lines) [] (TrailerStart (used + length (joined lines)))
run_trailers [] used all fits = run_to (run_none (TrailerStart used)) (ap TrailerStart (sym (add-zero used)))
run_trailers (line ∷ lines) used all fits =
    let size : length (line ++ joined lines) ≡ length line + length (joined lines) = length-append line (joined lines) in
    let here : used + length line + 2 ≤ MAX_CHUNK_LINE = omega arith in
    let rest : (used + length line) + length (joined lines) + 2 ≤ MAX_CHUNK_LINE = omega arith in
    let count : (used + length line) + length (joined lines) ≡ used + length (line ++ joined lines) = omega arith in
    run_to (run_on (run_trailer line used all.0 here) (run_trailers lines (used + length line) all.1 rest)) (ap TrailerStart count)

-- the end of a body
run_end : (ending : List ℕ) → IsBodyEnd ending → Runs body_start ending [] Over
run_end ending is =
    let line : List ℕ = is.line in
    let lines : List ℕ = joined is.trailers in
    let sizes : length ending ≡ length line + length lines + 2 = (let e = ap length is.text in omega (arith, length-append line (lines ++ crlf), length-append lines crlf)) in
    let all : length ending ≤ MAX_CHUNK_LINE = is.short in
    let short : length line ≤ MAX_CHUNK_LINE - 2 = omega arith in
    let room : length line + length lines + 2 ≤ MAX_CHUNK_LINE = omega arith in
    let last : Runs (TrailerStart (length line + length lines)) crlf [] Over = record { arrives = refl; gives = refl } in
    subst (λ (t : List ℕ). Runs body_start t [] Over) (sym is.text)
    (run_on (run_line line 0 is.is_line short) (run_on (run_trailers is.trailers (length line) is.each room) last))

-- a body
pub run_body : (bytes content : List ℕ) → IsChunkedBody bytes content → Runs body_start bytes content Over
run_body bytes content is =
    let all : List Chunk = is.are_chunks.chunks in
    let chunks : Runs body_start (texts_of all) (contents_of all) body_start = run_chunks all is.are_chunks.each in
    let whole : Runs body_start (texts_of all ++ is.end) (contents_of all ++ []) Over = run_on chunks (run_end is.end is.is_end) in
    let text : texts_of all ++ is.end ≡ bytes = ap (λ (t : List ℕ). t ++ is.end) (sym is.are_chunks.text) ∙ sym is.text in
    let told : contents_of all ++ [] ≡ content = append-nil (contents_of all) ∙ sym is.are_chunks.joins in
    subst (λ (t : List ℕ). Runs body_start bytes t Over) told (subst (λ (t : List ℕ). Runs body_start t (contents_of all ++ []) Over) text whole)
