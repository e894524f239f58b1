-- What bytes are over which a reader of chunks came to a place, one byte further.
use Rattle.std.proofs.Common.{◌≡◌, ◌<◌, ◌≤◌, ◌+◌, ◌-◌, ◌*◌, ◌∙◌, ⊎_elim, ℕ, true, false, List, [], ◌∷◌, ◌++◌, length, refl, sym, ap, subst, arith, append_assoc, append-nil, length-append, lit<, lit≤}
use Rattle.std.specs.Prelude.{◌==◌, nat_le, nat_lt, ◌&&◌}
use Rattle.std.specs.Char.{digit_value, is_ascii_hexdigit}
use Rattle.std.proofs.lemmas.Bool.{and_parts, both_ways, cases_eq, cond_both, cond-true, eq-eqb, eqb-true, leb-false, leb-true, ltb-true, or_from}
use Rattle.std.proofs.lemmas.Int.Digits.{digits_value_push}
use Rattle.std.proofs.lemmas.List.{length_push}
use Rattle.std.proofs.lemmas.List.Concat.{flat_map-append}
use Rattle.hb_http.specs.Chunks.{crlf, IsChunkSize, IsChunkLine, IsChunk, IsTrailer, joined, AreChunks, IsChunkedBody}
use Rattle.hb_http.specs.ChunkPlaces.{line_most, after_line, after_data, chunk_step, place_after, body_start, data_at, data_after}
use Rattle.hb_http.specs.WholeLines.{is_newline}
use Rattle.hb_http.specs.declared.TheConstants.{MAX_CHUNK_LINE}
use Rattle.hb_http.specs.declared.chunk_places.ChunkPlace.{ChunkPlace}
use Rattle.hb_http.specs.declared.chunk_places.ChunkPlace.TheVariants.{Size, Extension, LineFeed, Data, DataReturn, DataFeed, TrailerStart, Trailer, TrailerFeed, LastFeed, Over, Bad}
use Rattle.hb_http.proofs.Each.{all_push}
use Rattle.hb_http.proofs.ChunkFronts.{IsFront, InSize, InExtension, InLineEnd, InData, InDataEnd, InTrailers, InTrailer, InLast, chunks_push, least_most, longer, most_most}

-- what holds for a byte that a test found
at_byte : (c k : ℕ) (P : ℕ → Type 0) → (c == k) ≡ true → P k → P c
at_byte c k P found holds = subst P (sym (eqb-true c k found)) holds

-- a byte that is neither CR nor LF
in_line : (c : ℕ) → (c == 13) ≡ false → (c == 10) ≡ false → is_newline c ≡ false
in_line c a b = or_from (c == 10) (c == 13) b a

-- a size whose digits are whole
is_size : (size digits : ℕ) (b d : List ℕ) → (s : InSize size digits b d) → 0 < digits → IsChunkSize s.ds size
is_size size digits b d s some =
    let count = s.count in
    let few = s.few in
    record { some = omega arith; few = omega arith; hex = s.hex; value = s.value }

step_size : (size digits c : ℕ) (b d : List ℕ) → InSize size digits b d → IsFront (chunk_step (Size size digits) c) (b ++ c ∷ []) d
step_size size digits c b d s =
    cond_both (is_ascii_hexdigit c && nat_lt digits 16) _ _ (λ (p : ChunkPlace). IsFront p (b ++ c ∷ []) d) more
    (λ _. cond_both (c == 13 && nat_lt 0 digits) _ _ (λ (p : ChunkPlace). IsFront p (b ++ c ∷ []) d) line_end
    (λ _. cond_both (c == 59 && nat_lt 0 digits) _ _ (λ (p : ChunkPlace). IsFront p (b ++ c ∷ []) d) extension (λ _. tt)))
  where
    low : MAX_CHUNK_LINE - 2 ≤ line_most size
    low = least_most size

    more : (is_ascii_hexdigit c && nat_lt digits 16) ≡ true → InSize (size * 16 + digit_value c) (digits + 1) (b ++ c ∷ []) d
    more t =
        let parts = and_parts _ _ t in
        let few : digits < 16 = ltb-true digits 16 parts.1 in
        let count = s.count in
        record {
          front = s.front;
          chunks = s.chunks;
          ds = s.ds ++ c ∷ [];
          text = longer b _ c s.text ∙ append_assoc s.front s.ds (c ∷ []);
          count = omega (arith, length_push s.ds c);
          few = omega arith;
          hex = all_push (λ k. is_ascii_hexdigit k ≡ true) s.ds c s.hex parts.0;
          value = digits_value_push 16 s.ds c ∙ ap (λ (n : ℕ). n * 16 + digit_value c) s.value;
        }

    line_end : (c == 13 && nat_lt 0 digits) ≡ true → InLineEnd size (digits + 1) (b ++ c ∷ []) d
    line_end t =
        let parts = and_parts _ _ t in
        let some : 0 < digits = ltb-true 0 digits parts.1 in
        let count = s.count in
        let few = s.few in
        at_byte c 13 (λ k. InLineEnd size (digits + 1) (b ++ k ∷ []) d) parts.0 (record {
          front = s.front;
          chunks = s.chunks;
          ds = s.ds;
          extension = [];
          text = longer b _ 13 s.text ∙ append_assoc s.front s.ds (13 ∷ []);
          is_size = is_size size digits b d s some;
          is_extension = tt;
          count = omega arith;
          fits = omega (arith, low);
        })

    extension : (c == 59 && nat_lt 0 digits) ≡ true → InExtension size (digits + 1) (b ++ c ∷ []) d
    extension t =
        let parts = and_parts _ _ t in
        let some : 0 < digits = ltb-true 0 digits parts.1 in
        let count = s.count in
        let few = s.few in
        at_byte c 59 (λ k. InExtension size (digits + 1) (b ++ k ∷ []) d) parts.0 (record {
          front = s.front;
          chunks = s.chunks;
          ds = s.ds;
          cs = [];
          text = longer b _ 59 s.text ∙ append_assoc s.front s.ds (59 ∷ []);
          is_size = is_size size digits b d s some;
          inline = tt;
          count = omega arith;
          fits = omega (arith, low);
        })

step_extension : (size used c : ℕ) (b d : List ℕ) → InExtension size used b d → IsFront (chunk_step (Extension size used) c) (b ++ c ∷ []) d
step_extension size used c b d s =
    cond_both (c == 13) _ _ (λ (p : ChunkPlace). IsFront p (b ++ c ∷ []) d) line_end
    (λ other. cond_both (c == 10) _ _ (λ (p : ChunkPlace). IsFront p (b ++ c ∷ []) d) (λ _. tt)
    (λ apart. cond_both (nat_le (used + 3) (line_most size)) _ _ (λ (p : ChunkPlace). IsFront p (b ++ c ∷ []) d) (more (in_line c other apart)) (λ _. tt)))
  where
    line_end : (c == 13) ≡ true → InLineEnd size (used + 1) (b ++ c ∷ []) d
    line_end t =
        let count = s.count in
        let fits = s.fits in
        at_byte c 13 (λ k. InLineEnd size (used + 1) (b ++ k ∷ []) d) t (record {
          front = s.front;
          chunks = s.chunks;
          ds = s.ds;
          extension = 59 ∷ s.cs;
          text = longer b _ 13 s.text ∙ simp append_assoc;
          is_size = s.is_size;
          is_extension = (refl, s.inline);
          count = (let e : length (59 ∷ s.cs) ≡ length s.cs + 1 = omega arith in omega arith);
          fits = omega arith;
        })

    more : is_newline c ≡ false → nat_le (used + 3) (line_most size) ≡ true → InExtension size (used + 1) (b ++ c ∷ []) d
    more inline t =
        let room : used + 3 ≤ line_most size = leb-true (used + 3) (line_most size) t in
        let count = s.count in
        record {
          front = s.front;
          chunks = s.chunks;
          ds = s.ds;
          cs = s.cs ++ c ∷ [];
          text = longer b _ c s.text ∙ simp append_assoc;
          is_size = s.is_size;
          inline = all_push (λ k. is_newline k ≡ false) s.cs c s.inline inline;
          count = omega (arith, length_push s.cs c);
          fits = omega arith;
        }

-- the chunk line that a CR stood in, with its LF
whole_line : (size used : ℕ) (b d : List ℕ) → (s : InLineEnd size used b d) → IsChunkLine (s.ds ++ (s.extension ++ crlf)) size
whole_line size used b d s = record { digits = s.ds; extension = s.extension; text = refl; is_size = s.is_size; is_extension = s.is_extension }

step_line_end : (size used c : ℕ) (b d : List ℕ) → InLineEnd size used b d → IsFront (chunk_step (LineFeed size used) c) (b ++ c ∷ []) d
step_line_end size used c b d s =
    cond_both (c == 10) _ _ (λ (p : ChunkPlace). IsFront p (b ++ c ∷ []) d)
    (λ t. at_byte c 10 (λ k. IsFront (after_line size (used + 1)) (b ++ k ∷ []) d) t
    (cond_both (size == 0) _ _ (λ (p : ChunkPlace). IsFront p (b ++ 10 ∷ []) d) trailers content))
    (λ _. tt)
  where
    long : length (s.ds ++ (s.extension ++ crlf)) ≡ used + 1
    long = let count = s.count in omega (arith, length-append s.ds (s.extension ++ crlf), length-append s.extension crlf)

    trailers : (size == 0) ≡ true → InTrailers (used + 1) (b ++ 10 ∷ []) d
    trailers t =
        let most : line_most size ≡ MAX_CHUNK_LINE - 2 = cond-true _ _ _ t in
        let fits = s.fits in
        record {
          front = s.front;
          chunks = s.chunks;
          line = s.ds ++ (s.extension ++ crlf);
          lines = [];
          text = longer b _ 10 s.text ∙ (simp append_assoc);
          is_line = subst (IsChunkLine (s.ds ++ (s.extension ++ crlf))) (eqb-true size 0 t) (whole_line size used b d s);
          each = tt;
          count = omega (arith, long);
          fits = omega arith;
        }

    content : (size == 0) ≡ false → InData size (b ++ 10 ∷ []) d
    content t =
        let fits = s.fits in
        let some : 0 < size = ⊎_elim (λ (e : size ≡ 0). absurd (both_ways (size == 0) t (eq-eqb size 0 e))) (λ apart. omega (arith, apart)) (cases_eq size 0) in
        record {
          front = s.front;
          before = d;
          chunks = s.chunks;
          line = s.ds ++ (s.extension ++ crlf);
          piece = [];
          text = longer b _ 10 s.text ∙ (simp append_assoc);
          told = sym (append-nil d);
          is_line = (let e : size ≡ 0 + size = omega arith in subst (IsChunkLine (s.ds ++ (s.extension ++ crlf))) e (whole_line size used b d s));
          short = omega (arith, long, most_most size);
          some = some;
        }

step_data : (left c : ℕ) (b d : List ℕ) → InData left b d → IsFront (after_data left) (b ++ c ∷ []) (d ++ c ∷ [])
step_data left c b d s =
    cond_both (nat_le left 1) _ _ (λ (p : ChunkPlace). IsFront p (b ++ c ∷ []) (d ++ c ∷ [])) end more
  where
    text : b ++ c ∷ [] ≡ s.front ++ (s.line ++ (s.piece ++ c ∷ []))
    text = longer b _ c s.text ∙ simp append_assoc

    told : d ++ c ∷ [] ≡ s.before ++ (s.piece ++ c ∷ [])
    told = longer d _ c s.told ∙ append_assoc s.before s.piece (c ∷ [])

    end : nat_le left 1 ≡ true → InDataEnd [] (b ++ c ∷ []) (d ++ c ∷ [])
    end t =
        let few : left ≤ 1 = leb-true left 1 t in
        let some : 0 < left = s.some in
        let size : length s.piece + left ≡ length (s.piece ++ c ∷ []) = omega (arith, length_push s.piece c) in
        record {
          front = s.front;
          before = s.before;
          chunks = s.chunks;
          line = s.line;
          piece = s.piece ++ c ∷ [];
          text = text ∙ ap (λ (t : List ℕ). s.front ++ (s.line ++ t)) (sym (append-nil (s.piece ++ c ∷ [])));
          told = told;
          is_line = subst (IsChunkLine s.line) size s.is_line;
          short = s.short;
          some = omega arith;
        }

    more : nat_le left 1 ≡ false → InData (left - 1) (b ++ c ∷ []) (d ++ c ∷ [])
    more t =
        let many : 1 < left = leb-false left 1 t in
        let size : length s.piece + left ≡ length (s.piece ++ c ∷ []) + (left - 1) = omega (arith, length_push s.piece c) in
        record {
          front = s.front;
          before = s.before;
          chunks = s.chunks;
          line = s.line;
          piece = s.piece ++ c ∷ [];
          text = text;
          told = told;
          is_line = subst (IsChunkLine s.line) size s.is_line;
          short = s.short;
          some = omega arith;
        }

step_data_return : (c : ℕ) (b d : List ℕ) → InDataEnd [] b d → IsFront (chunk_step DataReturn c) (b ++ c ∷ []) d
step_data_return c b d s =
    cond_both (c == 13) _ _ (λ (p : ChunkPlace). IsFront p (b ++ c ∷ []) d)
    (λ t. at_byte c 13 (λ k. InDataEnd (13 ∷ []) (b ++ k ∷ []) d) t (record {
      front = s.front;
      before = s.before;
      chunks = s.chunks;
      line = s.line;
      piece = s.piece;
      text = longer b _ 13 s.text ∙ simp append_assoc;
      told = s.told;
      is_line = s.is_line;
      short = s.short;
      some = s.some;
    }))
    (λ _. tt)

step_data_feed : (c : ℕ) (b d : List ℕ) → InDataEnd (13 ∷ []) b d → IsFront (chunk_step DataFeed c) (b ++ c ∷ []) d
step_data_feed c b d s =
    cond_both (c == 10) _ _ (λ (p : ChunkPlace). IsFront p (b ++ c ∷ []) d)
    (λ t. at_byte c 10 (λ k. InSize 0 0 (b ++ k ∷ []) d) t (record {
      front = s.front ++ (s.line ++ (s.piece ++ crlf));
      chunks = subst (AreChunks (s.front ++ (s.line ++ (s.piece ++ crlf)))) (sym s.told)
          (chunks_push s.front s.before (s.line ++ (s.piece ++ crlf)) s.piece s.chunks chunk);
      ds = [];
      text = longer b _ 10 s.text ∙ simp append_assoc;
      count = refl;
      few = lit≤ tt;
      hex = tt;
      value = refl;
    }))
    (λ _. tt)
  where
    chunk : IsChunk (s.line ++ (s.piece ++ crlf)) s.piece
    chunk = record { line = s.line; is_line = s.is_line; some = s.some; short = s.short; text = refl }

step_trailers : (used c : ℕ) (b d : List ℕ) → InTrailers used b d → IsFront (chunk_step (TrailerStart used) c) (b ++ c ∷ []) d
step_trailers used c b d s =
    cond_both (c == 13) _ _ (λ (p : ChunkPlace). IsFront p (b ++ c ∷ []) d)
    (λ t. at_byte c 13 (λ k. InLast (b ++ k ∷ []) d) t (record { begun = b; lines = used; trailers = s; text = refl }))
    (λ other. cond_both (c == 10) _ _ (λ (p : ChunkPlace). IsFront p (b ++ c ∷ []) d) (λ _. tt)
    (λ apart. cond_both (nat_le (used + 5) MAX_CHUNK_LINE) _ _ (λ (p : ChunkPlace). IsFront p (b ++ c ∷ []) d)
    (λ t.
    let room : used + 5 ≤ MAX_CHUNK_LINE = leb-true (used + 5) MAX_CHUNK_LINE t in
    record {
      begun = b;
      lines = used;
      trailers = s;
      content = c ∷ [];
      text = refl;
      some = lit< tt;
      inline = (in_line c other apart, tt);
      count = refl;
      fits = omega arith;
    })
    (λ _. tt)))

step_trailer : (used c : ℕ) (b d : List ℕ) → InTrailer used [] b d → IsFront (chunk_step (Trailer used) c) (b ++ c ∷ []) d
step_trailer used c b d s =
    cond_both (c == 13) _ _ (λ (p : ChunkPlace). IsFront p (b ++ c ∷ []) d)
    (λ t. at_byte c 13 (λ k. (begun : ℕ) × (begun + 1 ≡ used + 1) × InTrailer begun (13 ∷ []) (b ++ k ∷ []) d) t (
      used,
      refl,
      record {
        begun = s.begun;
        lines = s.lines;
        trailers = s.trailers;
        content = s.content;
        text = longer b _ 13 s.text ∙ simp append_assoc;
        some = s.some;
        inline = s.inline;
        count = s.count;
        fits = s.fits;
      },
    ))
    (λ other. cond_both (c == 10) _ _ (λ (p : ChunkPlace). IsFront p (b ++ c ∷ []) d) (λ _. tt)
    (λ apart. cond_both (nat_le (used + 5) MAX_CHUNK_LINE) _ _ (λ (p : ChunkPlace). IsFront p (b ++ c ∷ []) d)
    (λ t.
    let room : used + 5 ≤ MAX_CHUNK_LINE = leb-true (used + 5) MAX_CHUNK_LINE t in
    let count = s.count in
    record {
      begun = s.begun;
      lines = s.lines;
      trailers = s.trailers;
      content = s.content ++ c ∷ [];
      text = longer b _ c s.text ∙ simp append_assoc;
      some = omega (arith, length_push s.content c);
      inline = all_push (λ k. is_newline k ≡ false) s.content c s.inline (in_line c other apart);
      count = omega (arith, length_push s.content c);
      fits = omega arith;
    })
    (λ _. tt)))

step_trailer_feed : (used c : ℕ) (b d : List ℕ) → (begun : ℕ) × (begun + 1 ≡ used) × InTrailer begun (13 ∷ []) b d → IsFront (chunk_step (TrailerFeed used) c) (b ++ c ∷ []) d
step_trailer_feed used c b d p =
    cond_both (c == 10) _ _ (λ (q : ChunkPlace). IsFront q (b ++ c ∷ []) d)
    (λ t. at_byte c 10 (λ k. InTrailers (used + 1) (b ++ k ∷ []) d) t (record {
      front = before.front;
      chunks = before.chunks;
      line = before.line;
      lines = before.lines ++ line ∷ [];
      text = longer b _ 10 s.text ∙ (ap (λ (u : List ℕ). (u ++ (s.content ++ 13 ∷ [])) ++ 10 ∷ []) before.text ∙ (grouped ∙ ap (λ (u : List ℕ). before.front ++ (before.line ++ u)) (sym all)));
      is_line = before.is_line;
      each = all_push IsTrailer before.lines line before.each (record { content = s.content; some = s.some; inline = s.inline; text = refl });
      count = (
          let sizes = ap length all in
          let first = before.count in
          let then_ = s.count in
          let last = p.1 in
          omega (arith, length-append (joined before.lines) line, length-append s.content crlf)
          );
      fits = (let fits = s.fits in let last = p.1 in omega arith);
    }))
    (λ _. tt)
  where
    s : InTrailer p.0 (13 ∷ []) b d
    s = p.2

    before : InTrailers s.lines s.begun d
    before = s.trailers

    line : List ℕ
    line = s.content ++ crlf

    grouped : ((before.front ++ (before.line ++ joined before.lines)) ++ (s.content ++ 13 ∷ [])) ++ 10 ∷ [] ≡ before.front ++ (before.line ++ (joined before.lines ++ (s.content ++ crlf)))
    grouped = simp append_assoc

    all : joined (before.lines ++ line ∷ []) ≡ joined before.lines ++ line
    all = flat_map-append (λ l. l) before.lines (line ∷ []) ∙ ap (λ (u : List ℕ). joined before.lines ++ u) (append-nil line)

step_last : (c : ℕ) (b d : List ℕ) → InLast b d → IsFront (chunk_step LastFeed c) (b ++ c ∷ []) d
step_last c b d s =
    cond_both (c == 10) _ _ (λ (p : ChunkPlace). IsFront p (b ++ c ∷ []) d)
    (λ t. at_byte c 10 (λ k. IsChunkedBody (b ++ k ∷ []) d) t (record {
      chunks = s.trailers.front;
      end = s.trailers.line ++ (joined s.trailers.lines ++ crlf);
      are_chunks = s.trailers.chunks;
      is_end = record {
        line = s.trailers.line;
        trailers = s.trailers.lines;
        is_line = s.trailers.is_line;
        each = s.trailers.each;
        text = refl;
        short = (
            let count = s.trailers.count in
            let fits = s.trailers.fits in
            omega (arith, length-append s.trailers.line (joined s.trailers.lines ++ crlf), length-append (joined s.trailers.lines) crlf)
            );
      };
      text = longer b _ 10 s.text ∙ (ap (λ (u : List ℕ). (u ++ 13 ∷ []) ++ 10 ∷ []) s.trailers.text ∙ simp append_assoc);
    }))
    (λ _. tt)

-- a byte that is no data leaves the data as it is
quiet : (p : ChunkPlace) (b d : List ℕ) → IsFront p b d → IsFront p b (d ++ [])
quiet p b d is = subst (IsFront p b) (sym (append-nil d)) is

-- one byte further
pub front_step : (p : ChunkPlace) (c : ℕ) (b d : List ℕ) → IsFront p b d → IsFront (chunk_step p c) (b ++ c ∷ []) (d ++ data_at p c)
front_step (Size size digits) c b d is = quiet _ _ _ (step_size size digits c b d is)
front_step (Extension size used) c b d is = quiet _ _ _ (step_extension size used c b d is)
front_step (LineFeed size used) c b d is = quiet _ _ _ (step_line_end size used c b d is)
front_step (Data left) c b d is = step_data left c b d is
front_step DataReturn c b d is = quiet _ _ _ (step_data_return c b d is)
front_step DataFeed c b d is = quiet _ _ _ (step_data_feed c b d is)
front_step (TrailerStart used) c b d is = quiet _ _ _ (step_trailers used c b d is)
front_step (Trailer used) c b d is = quiet _ _ _ (step_trailer used c b d is)
front_step (TrailerFeed used) c b d is = quiet _ _ _ (step_trailer_feed used c b d is)
front_step LastFeed c b d is = quiet _ _ _ (step_last c b d is)
front_step Over c b d is = tt
front_step Bad c b d is = tt

-- more bytes further
front_on : (more : List ℕ) (p : ChunkPlace) (b d : List ℕ) → IsFront p b d → IsFront (place_after p more) (b ++ more) (d ++ data_after p more)
front_on [] p b d is = quiet p (b ++ []) d (subst (λ (t : List ℕ). IsFront p t d) (sym (append-nil b)) is)
front_on (c ∷ more) p b d is =
    let on = front_on more (chunk_step p c) (b ++ c ∷ []) (d ++ data_at p c) (front_step p c b d is) in
    subst (λ (t : List ℕ). IsFront (place_after p (c ∷ more)) t (d ++ data_after p (c ∷ more))) (append_assoc b (c ∷ []) more)
    (subst (IsFront (place_after p (c ∷ more)) ((b ++ c ∷ []) ++ more)) (append_assoc d (data_at p c) (data_after (chunk_step p c) more)) on)

-- where a body begins there is nothing yet
nothing : IsFront body_start [] []
nothing = record { front = []; chunks = record { chunks = []; each = tt; text = refl; joins = refl }; ds = []; text = refl; count = refl; few = lit≤ tt; hex = tt; value = refl }

-- what bytes are from the start of a body on
pub front_of : (bytes : List ℕ) → IsFront (place_after body_start bytes) bytes (data_after body_start bytes)
front_of bytes = front_on bytes body_start [] [] nothing
