-- What was given says what the bytes are that were taken, with each part.
use Rattle.std.proofs.Common.{◌≡◌, ◌≢◌, ◌≤◌, ◌+◌, ◌-◌, ◌∙◌, inl, inr, min, ℕ, Bool, true, false, cond, List, [], ◌∷◌, ◌++◌, length, drop, Some, None, Ok, Err, refl, sym, ap, subst, arith, append_assoc, append-nil, length-append, length-take, take-append-drop}
use Rattle.std.specs.Prelude.{◌==◌, Option, Result, MatchOption}
use Rattle.httparse.specs.Grammar.{RequestHead, print_request}
use Rattle.hb_http.specs.ChunkPlaces.{body_start, place_after}
use Rattle.hb_http.specs.Chunks.{IsChunkedBody}
use Rattle.hb_http.specs.Framing.{HasLength, IsChunked}
use Rattle.hb_http.specs.Headers.{headers_of}
use Rattle.hb_http.specs.Heads.{IsHead}
use Rattle.hb_http.specs.Parts.{EndsBody, Gives, GivesBody, GivesChunked, GivesCounted, GivesHead, HoldsNoPart, body_place, piece_of, read_through}
use Rattle.hb_http.specs.Readings.{AreWhole, Follows, Given, HasRead, IsBegun, IsBegunInChunks, IsWhole, ReadsOn}
use Rattle.hb_http.specs.Standing.{Standing, at_rest}
use Rattle.hb_http.specs.declared.TheConstants.{MAX_PIECE}
use Rattle.hb_http.specs.declared.chunk_places.ChunkPlace.{ChunkPlace}
use Rattle.hb_http.specs.declared.chunk_places.ChunkPlace.TheVariants.{Data, DataReturn, Over, Bad as BadBody}
use Rattle.hb_http.specs.declared.parts.Head.{Head}
use Rattle.hb_http.specs.declared.parts.Part.{Part}
use Rattle.hb_http.specs.declared.parts.Part.TheVariants.{NeedInput, Head as HeadPart, Body, BodyEnd, InputEnd}
use Rattle.hb_http.specs.declared.parts.HttpFault.{HttpFault}
use Rattle.hb_http.specs.declared.parts.HttpFault.TheVariants.{Bad, HeadTooLong, TooManyHeaders, Cut, Memory}
use Rattle.hb_http.specs.declared.places.Place.{Place}
use Rattle.hb_http.specs.declared.places.Place.TheVariants.{Between, Counted, Chunked}
use Rattle.hb_http.proofs.ChunkLaws.{whole_body}
use Rattle.hb_http.proofs.ChunkRuns.{Runs, lines_no_data, run_on}
use Rattle.hb_http.proofs.HeadLaws.{IsHead-append}
use Rattle.hb_http.proofs.PartLemmas.{piece_run}

-- one request more
AreWhole-push : (gs : List Given) (g : Given) (bytes text : List ℕ) → AreWhole gs bytes → IsWhole g text → AreWhole (gs ++ g ∷ []) (bytes ++ text)
AreWhole-push [] g bytes text all is = (text, [], ap (λ (t : List ℕ). t ++ text) all ∙ sym (append-nil text), is, refl)
AreWhole-push (h ∷ hs) g bytes text all is = (all.0, all.1 ++ text, ap (λ (t : List ℕ). t ++ text) all.2 ∙ append_assoc all.0 all.1 text, all.3, AreWhole-push hs g all.1 text all.4 is)

-- the text of a head is that head and nothing
head_alone : (bytes : List ℕ) (h : RequestHead) (rest : List ℕ) → IsHead bytes h rest → IsHead (print_request h) h []
head_alone bytes h rest is = record { reads = (is.reads.0, sym (append-nil (print_request h))); few = is.few; short = is.short }

-- a request is begun by its head
begun_by_head : (h : RequestHead) (length : Option ℕ) → IsHead (print_request h) h [] → MatchOption length (IsChunked (headers_of h)) (HasLength (headers_of h))
    → IsBegun (body_place length) (Some (record { head = h; content = [] })) (print_request h)
begun_by_head h None is chunked = record { begun = []; is_head = is; chunked = chunked; arrives = refl; content = refl; not_over = λ e. cc; not_bad = λ e. cc }
begun_by_head h (Some n) is counted = (is, subst (HasLength (headers_of h)) (let e : n ≡ 0 + n = omega arith in e) counted)

head_on : (done : List Given) (now : Option Given) (taken : List ℕ) (s s' : Standing) (told : Head) (place : Place) → s.place ≡ place
    → GivesHead s told s' → HasRead done now taken place → ReadsOn done now taken s (Ok (HeadPart told)) s'
head_on done now taken s s' told (Counted left) at gives read = absurd (let clash : Counted left ≡ Between = sym at ∙ gives.at in cc)
head_on done now taken s s' told (Chunked place) at gives read = absurd (let clash : Chunked place ≡ Between = sym at ∙ gives.at in cc)
head_on done (Some g) taken s s' told Between at gives read = absurd read.is_begun
head_on done None taken s s' told Between at gives read =
    let h : RequestHead = gives.head in
    let text : taken ≡ read.whole = read.text ∙ (ap (λ (t : List ℕ). read.whole ++ t) read.is_begun ∙ append-nil read.whole) in
    record {
      gone = print_request h;
      done' = done;
      now' = Some (record { head = h; content = [] });
      text = gives.is_head.reads.1;
      follows = (refl, refl, h, gives.is_told, refl);
      reads = record {
        whole = read.whole;
        begun = print_request h;
        text = ap (λ (t : List ℕ). t ++ print_request h) text;
        are_whole = read.are_whole;
        is_begun = subst (λ (p : Place). IsBegun p (Some (record { head = h; content = [] })) (print_request h)) (sym (ap (λ (t : Standing). t.place) gives.after))
            (begun_by_head h told.length (head_alone s.waiting h s'.waiting gives.is_head) gives.is_told.length);
      };
    }

-- what was taken, and more behind it
pub taken_on : (taken whole begun more : List ℕ) → taken ≡ whole ++ begun → taken ++ more ≡ whole ++ (begun ++ more)
taken_on taken whole begun more e = ap (λ (t : List ℕ). t ++ more) e ∙ append_assoc whole begun more

counted_on : (done : List Given) (g : Given) (taken : List ℕ) (s s' : Standing) (left : ℕ)
    → GivesCounted left s s' → HasRead done (Some g) taken (Counted left) → ReadsOn done (Some g) taken s (Ok Body) s'
counted_on done g taken s s' left gives read =
    let now : Given = record { head = g.head; content = g.content ++ piece_of left s.waiting } in
    let fits : length (piece_of left s.waiting) ≤ left = omega (arith, length-take (min left MAX_PIECE) s.waiting) in
    let size : length g.content + left ≡ length (g.content ++ piece_of left s.waiting) + (left - length (piece_of left s.waiting)) = omega (arith, length-append g.content (piece_of left s.waiting)) in
    record {
      gone = piece_of left s.waiting;
      done' = done;
      now' = Some now;
      text = sym (take-append-drop (min left MAX_PIECE) s.waiting) ∙ ap (λ (t : List ℕ). piece_of left s.waiting ++ t) (sym (ap (λ (t : Standing). t.waiting) gives.after));
      follows = (g, refl, refl, (let body : s'.body ≡ piece_of left s.waiting = ap (λ (t : Standing). t.body) gives.after in λ i. Some (record { head = g.head; content = g.content ++ sym body i })));
      reads = record {
        whole = read.whole;
        begun = read.begun ++ piece_of left s.waiting;
        text = taken_on taken read.whole read.begun (piece_of left s.waiting) read.text;
        are_whole = read.are_whole;
        is_begun = subst (λ (p : Place). IsBegun p (Some now) (read.begun ++ piece_of left s.waiting)) (sym (ap (λ (t : Standing). t.place) gives.after)) (
          IsHead-append read.begun (piece_of left s.waiting) g.head g.content read.is_begun.0,
          subst (HasLength (headers_of g.head)) size read.is_begun.1,
        );
      };
    }

-- a place in data, or behind it, is neither the end of a body nor none
not_end : (b : Bool) (n : ℕ) → (cond b DataReturn (Data n) ≢ Over) × (cond b DataReturn (Data n) ≢ BadBody)
not_end true n = (λ e. cc, λ e. cc)
not_end false n = (λ e. cc, λ e. cc)

chunked_on : (done : List Given) (g : Given) (taken : List ℕ) (s s' : Standing) (place : ChunkPlace)
    → GivesChunked place s s' → HasRead done (Some g) taken (Chunked place) → ReadsOn done (Some g) taken s (Ok Body) s'
chunked_on done g taken s s' place gives read =
    let now : Given = record { head = g.head; content = g.content ++ piece_of gives.left gives.rest } in
    let body : s'.body ≡ piece_of gives.left gives.rest = ap (λ (t : Standing). t.body) gives.after in
    let told = piece_run gives.left gives.rest (λ none. gives.some (body ∙ none)) in
    let ends = not_end (length (piece_of gives.left gives.rest) == gives.left) (gives.left - length (piece_of gives.left gives.rest)) in
    let begun : IsBegunInChunks place g read.begun = read.is_begun in
    let before : Runs body_start begun.begun g.content place = record { arrives = begun.arrives; gives = begun.content } in
    let over : Runs place gives.lines [] (Data gives.left) = record { arrives = gives.reads.arrives; gives = lines_no_data place gives.lines gives.reads.are_lines } in
    let here : Runs (Data gives.left) (piece_of gives.left gives.rest) (piece_of gives.left gives.rest) (place_after (Data gives.left) (piece_of gives.left gives.rest)) = record { arrives = refl; gives = told.gives } in
    let all = run_on before (run_on over here) in
    record {
      gone = gives.lines ++ piece_of gives.left gives.rest;
      done' = done;
      now' = Some now;
      text = gives.text ∙ (ap (λ (t : List ℕ). gives.lines ++ t) (sym (take-append-drop (min gives.left MAX_PIECE) gives.rest)) ∙ (sym (append_assoc gives.lines (piece_of gives.left gives.rest) (drop (min gives.left MAX_PIECE) gives.rest))
          ∙ ap (λ (t : List ℕ). (gives.lines ++ piece_of gives.left gives.rest) ++ t) (sym (ap (λ (t : Standing). t.waiting) gives.after))));
      follows = (g, refl, refl, λ i. Some (record { head = g.head; content = g.content ++ sym body i }));
      reads = record {
        whole = read.whole;
        begun = read.begun ++ (gives.lines ++ piece_of gives.left gives.rest);
        text = taken_on taken read.whole read.begun (gives.lines ++ piece_of gives.left gives.rest) read.text;
        are_whole = read.are_whole;
        is_begun = subst (λ (p : Place). IsBegun p (Some now) (read.begun ++ (gives.lines ++ piece_of gives.left gives.rest))) (sym (ap (λ (t : Standing). t.place) gives.after)) (record {
          begun = begun.begun ++ (gives.lines ++ piece_of gives.left gives.rest);
          is_head = IsHead-append read.begun (gives.lines ++ piece_of gives.left gives.rest) g.head begun.begun begun.is_head;
          chunked = begun.chunked;
          arrives = all.arrives;
          content = all.gives;
          not_over = λ e. ends.0 (sym told.arrives ∙ e);
          not_bad = λ e. ends.1 (sym told.arrives ∙ e);
        });
      };
    }

body_on : (done : List Given) (now : Option Given) (taken : List ℕ) (s s' : Standing) (place : Place)
    → GivesBody place s s' → HasRead done now taken place → ReadsOn done now taken s (Ok Body) s'
body_on done now taken s s' Between gives read = absurd gives
body_on done None taken s s' (Counted left) gives read = absurd read.is_begun
body_on done (Some g) taken s s' (Counted left) gives read = counted_on done g taken s s' left gives read
body_on done None taken s s' (Chunked place) gives read = absurd read.is_begun
body_on done (Some g) taken s s' (Chunked place) gives read = chunked_on done g taken s s' place gives read

-- a request is whole behind more bytes
ends_on : (done : List Given) (g : Given) (taken gone : List ℕ) (s s' : Standing) (whole begun : List ℕ) → taken ≡ whole ++ begun → AreWhole done whole
    → s.waiting ≡ gone ++ s'.waiting → s'.place ≡ Between → IsWhole g (begun ++ gone) → ReadsOn done (Some g) taken s (Ok BodyEnd) s'
ends_on done g taken gone s s' whole begun text all waits at is = record {
  gone = gone;
  done' = done ++ g ∷ [];
  now' = None;
  text = waits;
  follows = (g, refl, refl, refl);
  reads = record {
    whole = whole ++ (begun ++ gone);
    begun = [];
    text = taken_on taken whole begun gone text ∙ sym (append-nil (whole ++ (begun ++ gone)));
    are_whole = AreWhole-push done g whole (begun ++ gone) all is;
    is_begun = subst (λ (p : Place). IsBegun p None []) (sym at) refl;
  };
}

end_on : (done : List Given) (now : Option Given) (taken : List ℕ) (s s' : Standing) (place : Place)
    → EndsBody place s s' → HasRead done now taken place → ReadsOn done now taken s (Ok BodyEnd) s'
end_on done now taken s s' Between ends read = absurd ends
end_on done None taken s s' (Counted left) ends read = absurd read.is_begun
end_on done (Some g) taken s s' (Counted left) ends read =
    let waits : s.waiting ≡ [] ++ s'.waiting = sym (ap (λ (t : Standing). t.waiting) ends.1) in
    let size : length g.content + left ≡ length g.content = (let none = ends.0 in omega arith) in
    let is : IsWhole g read.begun = record { body = g.content; is_head = read.is_begun.0; is_body = inl (subst (HasLength (headers_of g.head)) size read.is_begun.1, refl) } in
    ends_on done g taken [] s s' read.whole read.begun read.text read.are_whole waits (ap (λ (t : Standing). t.place) ends.1) (subst (IsWhole g) (sym (append-nil read.begun)) is)
end_on done None taken s s' (Chunked place) ends read = absurd read.is_begun
end_on done (Some g) taken s s' (Chunked place) ends read =
    let begun : IsBegunInChunks place g read.begun = read.is_begun in
    let before : Runs body_start begun.begun g.content place = record { arrives = begun.arrives; gives = begun.content } in
    let over : Runs place ends.lines [] Over = record { arrives = ends.reads.arrives; gives = lines_no_data place ends.lines ends.reads.are_lines } in
    let all = run_on before over in
    let body : IsChunkedBody (begun.begun ++ ends.lines) g.content = subst (IsChunkedBody (begun.begun ++ ends.lines)) (all.gives ∙ append-nil g.content) (whole_body (begun.begun ++ ends.lines) all.arrives) in
    let is : IsWhole g (read.begun ++ ends.lines) = record {
      body = begun.begun ++ ends.lines;
      is_head = IsHead-append read.begun ends.lines g.head begun.begun begun.is_head;
      is_body = inr (begun.chunked, body);
    } in
    ends_on done g taken ends.lines s s' read.whole read.begun read.text read.are_whole ends.text (ap (λ (t : Standing). t.place) ends.after) is

-- a call that takes nothing leaves what was read
same_read : (done : List Given) (now : Option Given) (taken : List ℕ) (s s' : Standing) → s' ≡ at_rest s → HasRead done now taken s.place → HasRead done now (taken ++ []) s'.place
same_read done now taken s s' e read =
    subst (λ (p : Place). HasRead done now (taken ++ []) p) (sym (ap (λ (t : Standing). t.place) e)) (subst (λ (t : List ℕ). HasRead done now t s.place) (sym (append-nil taken)) read)

-- nor does it give anything
stay_on : (done : List Given) (now : Option Given) (taken : List ℕ) (s s' : Standing) (result : Result Part HttpFault) → s' ≡ at_rest s → Follows result s'.body done now done now
    → HasRead done now taken s.place → ReadsOn done now taken s result s'
stay_on done now taken s s' result e follows read = record {
  gone = [];
  done' = done;
  now' = now;
  text = sym (ap (λ (t : Standing). t.waiting) e);
  follows = follows;
  reads = same_read done now taken s s' e read;
}

-- a request that is begun in chunks goes on through lines
pub begun_through : (place : ChunkPlace) (g : Given) (begun waiting : List ℕ) → IsBegunInChunks place g begun → HoldsNoPart (Chunked place) waiting
    → IsBegunInChunks (place_after place waiting) g (begun ++ waiting)
begun_through place g begun waiting is none =
    let before : Runs body_start is.begun g.content place = record { arrives = is.arrives; gives = is.content } in
    let over : Runs place waiting [] (place_after place waiting) = record { arrives = refl; gives = lines_no_data place waiting none.1.are_lines } in
    let all = run_on before over in
    record {
      begun = is.begun ++ waiting;
      is_head = IsHead-append begun waiting g.head is.begun is.is_head;
      chunked = is.chunked;
      arrives = all.arrives;
      content = all.gives ∙ append-nil g.content;
      not_over = λ o. none.2 (sym none.1.arrives ∙ o);
      not_bad = λ o. none.3 (sym none.1.arrives ∙ o);
    }

need_on : (done : List Given) (now : Option Given) (taken : List ℕ) (s s' : Standing) (place : Place) → s.place ≡ place
    → HoldsNoPart place s.waiting → s' ≡ read_through place s → HasRead done now taken place → ReadsOn done now taken s (Ok NeedInput) s'
need_on done now taken s s' Between at none e read = stay_on done now taken s s' (Ok NeedInput) e (refl, refl) (subst (HasRead done now taken) (sym at) read)
need_on done now taken s s' (Counted left) at none e read = stay_on done now taken s s' (Ok NeedInput) e (refl, refl) (subst (HasRead done now taken) (sym at) read)
need_on done None taken s s' (Chunked place) at none e read = absurd read.is_begun
need_on done (Some g) taken s s' (Chunked place) at none e read = record {
  gone = s.waiting;
  done' = done;
  now' = Some g;
  text = sym (append-nil s.waiting) ∙ ap (λ (t : List ℕ). s.waiting ++ t) (sym (ap (λ (t : Standing). t.waiting) e));
  follows = (refl, refl);
  reads = record {
    whole = read.whole;
    begun = read.begun ++ s.waiting;
    text = taken_on taken read.whole read.begun s.waiting read.text;
    are_whole = read.are_whole;
    is_begun = subst (λ (p : Place). IsBegun p (Some g) (read.begun ++ s.waiting)) (sym (ap (λ (t : Standing). t.place) e)) (begun_through place g read.begun s.waiting read.is_begun none);
  };
}

-- each part
pub reads_on : (done : List Given) (now : Option Given) (taken : List ℕ) (s : Standing) (result : Result Part HttpFault) (s' : Standing)
    → Gives s result s' → HasRead done now taken s.place → ReadsOn done now taken s result s'
reads_on done now taken s (Ok (HeadPart told)) s' gives read = head_on done now taken s s' told s.place refl gives read
reads_on done now taken s (Ok Body) s' gives read = body_on done now taken s s' s.place gives read
reads_on done now taken s (Ok BodyEnd) s' gives read = end_on done now taken s s' s.place gives read
reads_on done now taken s (Ok NeedInput) s' gives read = need_on done now taken s s' s.place refl gives.1 gives.2 read
reads_on done now taken s (Ok InputEnd) s' gives read = stay_on done now taken s s' (Ok InputEnd) gives.4 (refl, refl) read
reads_on done now taken s (Err Cut) s' gives read = stay_on done now taken s s' (Err Cut) gives.3 (refl, refl) read
reads_on done now taken s (Err Bad) s' gives read = stay_on done now taken s s' (Err Bad) gives.1 (refl, refl) read
reads_on done now taken s (Err TooManyHeaders) s' gives read = stay_on done now taken s s' (Err TooManyHeaders) gives.2 (refl, refl) read
reads_on done now taken s (Err HeadTooLong) s' gives read = stay_on done now taken s s' (Err HeadTooLong) gives.4 (refl, refl) read
reads_on done now taken s (Err Memory) s' gives read = stay_on done now taken s s' (Err Memory) gives (refl, refl) read
