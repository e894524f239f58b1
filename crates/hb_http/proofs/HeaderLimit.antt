-- Too many headers, by the count of whole lines.
use Rattle.std.proofs.Common.{◌≡◌, ◌<◌, ◌≤◌, ◌+◌, ℕ, List, [], ◌∷◌, ◌++◌, length, take, drop, Bool, true, false, refl, sym, ap, ◌∙◌, ⊎_elim, arith, append_assoc, append-nil, length-append, length-take, take-append-drop, fold}
use Rattle.std.proofs.lemmas.List.Concat.{flat_map-append}
use Rattle.std.specs.List.{flat_map}
use Rattle.std.proofs.lemmas.List.Elements.{All-take}
use mathlib.Core.Logic.{dite}
use native.Mathlib.Decide.{dec_le}
use Rattle.httparse.specs.Grammar.{is_uri_byte, LineEnd, crlf, lf, print_end, print_blank, print_field, IsField, RequestHead, print_request, IsRequestHead, ReadsRequest, HasNoRequest, NeverHasRequest, MayBecomeRequest, EndsInTarget}
use Rattle.httparse.specs.Spans.{RequestExceeds}
use Rattle.httparse.proofs.GrammarLemmas.{request_unique}
use Rattle.hb_http.specs.WholeLines.{after_byte, whole_lines, EndsLine}
use Rattle.hb_http.proofs.LineCounts.{start_line, start_and_fields, print_is, print_ends, fronts, ends_fields, start_ends, ends_feed, cut_end, one_front, more_lines, all_lines, none_in, uri_feed}

module _ (room : ℕ) where
  -- the start line and the lines of one header more than the room
  abbrev pub first_lines : RequestHead → List ℕ
  first_lines h = start_line h ++ flat_map print_field (take (room + 1) h.fields)

  -- the head of these lines alone
  abbrev pub cut_head : RequestHead → RequestHead
  cut_head h = record h { fields = take (room + 1) h.fields; last = lf }

  -- its text
  pub print_cut : (h : RequestHead) → print_request (cut_head h) ≡ first_lines h ++ 10 ∷ []
  print_cut h = print_is (cut_head h) ∙ sym (append_assoc (start_line h) (flat_map print_field (take (room + 1) h.fields)) (10 ∷ []))

  -- the whole text, behind these lines
  pub print_split : (h : RequestHead) → print_request h ≡ first_lines h ++ (flat_map print_field (drop (room + 1) h.fields) ++ print_end h.last)
  print_split h =
      let all : flat_map print_field h.fields ≡ flat_map print_field (take (room + 1) h.fields) ++ flat_map print_field (drop (room + 1) h.fields) =
      ap (flat_map print_field) (sym (take-append-drop (room + 1) h.fields)) ∙ flat_map-append print_field (take (room + 1) h.fields) (drop (room + 1) h.fields) in
      print_is h ∙ (ap (λ (r : List ℕ). start_line h ++ (r ++ print_end h.last)) all ∙ regroup_parts (start_line h) (flat_map print_field (take (room + 1) h.fields)) (flat_map print_field (drop (room + 1) h.fields)) (print_end h.last))
    where
      regroup_parts : (s a b e : List ℕ) → s ++ ((a ++ b) ++ e) ≡ (s ++ a) ++ (b ++ e)
      regroup_parts s a b e = simp append_assoc

  -- cut so, a head is a head
  pub cut_valid : (h : RequestHead) → IsRequestHead h → IsRequestHead (cut_head h)
  cut_valid h is = record { method = is.method; target = is.target; target_text = is.target_text; minor = is.minor; fields = All-take IsField (room + 1) h.fields is.fields }

  -- these lines are whole
  pub front_ends : (h : RequestHead) → EndsLine (first_lines h)
  front_ends h = ends_fields (start_line h) (take (room + 1) h.fields) (start_ends h)

  -- and so many
  pub front_lines : (h : RequestHead) → IsRequestHead h → room < length h.fields → fold after_byte (false, 0) (first_lines h) ≡ (true, room + 2)
  front_lines h is many =
      let size : length (take (room + 1) h.fields) ≡ room + 1 = omega (arith, length-take (room + 1) h.fields) in
      let count : 1 + length (take (room + 1) h.fields) ≡ room + 2 = omega arith in
      start_and_fields h is (take (room + 1) h.fields) (All-take IsField (room + 1) h.fields is.fields) ∙ (λ i. (true, count i))

  -- a text that has too many headers begins with such lines
  pub exceeds_front : (b : List ℕ) → RequestExceeds room b → (h : RequestHead) × (IsRequestHead h) × (room < length h.fields) × ((e : List ℕ) × (first_lines h ++ e ≡ b))
  exceeds_front b x =
      let front : List ℕ = x.0 in
      let h : RequestHead = x.3 in
      let tail : List ℕ = flat_map print_field (drop (room + 1) h.fields) ++ print_end h.last in
      let whole : front ++ 10 ∷ [] ≡ first_lines h ++ tail = x.4.1 ∙ (append-nil (print_request h) ∙ print_split h) in
      let reach : (e : List ℕ) × (first_lines h ++ e ≡ front) = ⊎_elim
      (λ (t : (e : List ℕ) × (front ++ e ≡ first_lines h)).
      let some : 1 ≤ length (print_end h.last) = end_some h.last in
      let sizes : length front + 1 ≡ length (first_lines h) + length tail = sym (length-append front (10 ∷ [])) ∙ (ap length whole ∙ length-append (first_lines h) tail) in
      let none : length t.0 ≡ 0 = omega (arith, length-append front t.0, ap length t.1, length-append (flat_map print_field (drop (room + 1) h.fields)) (print_end h.last)) in
      ([], append-nil (first_lines h) ∙ (sym t.1 ∙ (ap (λ (r : List ℕ). front ++ r) (nil_of t.0 none) ∙ append-nil front))))
      (λ (t : (e : List ℕ) × (first_lines h ++ e ≡ front)). t)
      (fronts front (10 ∷ []) (first_lines h) tail whole) in
      (h, x.4.0, x.5, (reach.0 ++ x.1, sym (append_assoc (first_lines h) reach.0 x.1) ∙ (ap (λ (r : List ℕ). r ++ x.1) reach.1 ∙ sym x.2)))
    where
      end_some : (e : LineEnd) → 1 ≤ length (print_end e)
      end_some crlf = omega arith
      end_some lf = omega arith

      nil_of : (e : List ℕ) → length e ≡ 0 → e ≡ []
      nil_of [] z = refl
      nil_of (c ∷ cs) z = absurd (omega arith)

  -- a text of fewer whole lines hasn't too many headers
  pub few_lines : (b : List ℕ) → whole_lines b < room + 2 → ¬ (RequestExceeds room b)
  few_lines b few x =
      let f = exceeds_front b x in
      let count : whole_lines (first_lines f.0) ≡ room + 2 = ap (λ (s : Bool × ℕ). s.1) (front_lines f.0 f.1 f.2) in
      let less : whole_lines (first_lines f.0) ≤ whole_lines (first_lines f.0 ++ f.3.0) = more_lines (first_lines f.0) f.3.0 in
      let same : whole_lines (first_lines f.0 ++ f.3.0) ≡ whole_lines b = ap whole_lines f.3.1 in omega arith

  -- where so many whole lines can never be a head, no longer text has too many headers
  pub never_exceeds : (seen rest : List ℕ) → fold after_byte (false, 0) seen ≡ (true, room + 2) → EndsLine seen → NeverHasRequest seen → ¬ (RequestExceeds room (seen ++ rest))
  never_exceeds seen rest whole ends never x =
      let f = exceeds_front (seen ++ rest) x in
      let same : first_lines f.0 ≡ seen = one_front (room + 2) (first_lines f.0) f.3.0 seen rest f.3.1 (front_lines f.0 f.1 f.2) whole (front_ends f.0) ends in
      never (10 ∷ []) (cut_head f.0) [] (cut_valid f.0 f.1, ap (λ (r : List ℕ). r ++ 10 ∷ []) (sym same) ∙ (sym (print_cut f.0) ∙ sym (append-nil (print_request (cut_head f.0)))))

  -- where so many whole lines are no head and can become one, they have too many headers
  pub may_exceeds : (seen : List ℕ) → fold after_byte (false, 0) seen ≡ (true, room + 2) → EndsLine seen → HasNoRequest seen → MayBecomeRequest seen → RequestExceeds room seen
  may_exceeds seen whole ends none may = ⊎_elim (becomes seen whole ends none) (λ t. absurd (no_target seen ends t)) may
    where
      no_target : (seen : List ℕ) → EndsLine seen → EndsInTarget seen → ⊥
      no_target seen ends t = ⊎_elim
          (λ (empty : 32 ∷ t.2 ≡ []). cc)
          (λ (end : EndsLine (32 ∷ t.2)). let some = ends_feed (32 ∷ t.2) end in let none = none_in is_uri_byte uri_feed t.2 t.4 in omega arith)
          (cut_end (print_blank t.0 ++ t.1) (32 ∷ t.2) seen (sym t.5) ends)

      becomes : (seen : List ℕ) → fold after_byte (false, 0) seen ≡ (true, room + 2) → EndsLine seen → HasNoRequest seen
          → (more : List ℕ) × (h : RequestHead) × ReadsRequest (seen ++ more) h [] → RequestExceeds room seen
      becomes seen whole ends none m =
          let more : List ℕ = m.0 in
          let h : RequestHead = m.1 in
          let is : IsRequestHead h = m.2.0 in
          let text : seen ++ more ≡ print_request h = m.2.1 ∙ append-nil (print_request h) in
          dite (dec_le (room + 1) (length h.fields))
          (λ reached.
          let many : room < length h.fields = omega arith in
          let same : seen ≡ first_lines h = one_front (room + 2) seen more (first_lines h) _ (text ∙ print_split h) whole (front_lines h is many) ends (front_ends h) in
          let size : length (take (room + 1) h.fields) ≡ room + 1 = omega (arith, length-take (room + 1) h.fields) in
          (seen, [], sym (append-nil seen), cut_head h, (cut_valid h is, ap (λ (r : List ℕ). r ++ 10 ∷ []) same ∙ (sym (print_cut h) ∙ sym (append-nil (print_request (cut_head h))))), omega arith))
          (λ few.
          let all = all_lines h is in
          let size : whole_lines (seen ++ more) ≡ 2 + length h.fields = ap whole_lines text ∙ ap (λ (s : Bool × ℕ). s.1) all in
          let had : whole_lines seen ≡ room + 2 = ap (λ (s : Bool × ℕ). s.1) whole in
          let full : 2 + length h.fields ≡ room + 2 = omega (arith, more_lines seen more) in
          let same : seen ≡ print_request h = one_front (room + 2) seen more (print_request h) [] (text ∙ sym (append-nil (print_request h))) whole (all ∙ (λ i. (true, full i))) ends (print_ends h) in
          absurd (none h [] (is, same ∙ sym (append-nil (print_request h)))))

  -- a longer text has too many headers too
  pub exceeds_more : (a b c : List ℕ) → a ++ b ≡ c → RequestExceeds room a → RequestExceeds room c
  exceeds_more a b c same x = (x.0, x.1 ++ b, sym same ∙ (ap (λ (r : List ℕ). r ++ b) x.2 ∙ append_assoc x.0 x.1 b), x.3, x.4, x.5)

  -- a head of no more headers than the room hasn't too many
  pub head_not_exceeds : (w : List ℕ) (h : RequestHead) (q : List ℕ) → ReadsRequest w h q → length h.fields ≤ room → ¬ (RequestExceeds room w)
  head_not_exceeds w h q reads few x =
      let f = exceeds_front w x in
      ⊎_elim
      (λ (t : (e : List ℕ) × (print_request h ++ e ≡ first_lines f.0)). within h reads.0 few f.0 f.1 f.2 t.0 t.1)
      (λ (t : (e : List ℕ) × (first_lines f.0 ++ e ≡ print_request h)).
      let all = all_lines h reads.0 in
      let count : whole_lines (first_lines f.0) ≡ room + 2 = ap (λ (s : Bool × ℕ). s.1) (front_lines f.0 f.1 f.2) in
      let less : whole_lines (first_lines f.0) ≤ whole_lines (first_lines f.0 ++ t.0) = more_lines (first_lines f.0) t.0 in
      let size : whole_lines (first_lines f.0 ++ t.0) ≡ 2 + length h.fields = ap whole_lines t.1 ∙ ap (λ (s : Bool × ℕ). s.1) all in
      let full : 2 + length h.fields ≡ room + 2 = omega arith in
      let same : print_request h ≡ first_lines f.0 = one_front (room + 2) (print_request h) [] (first_lines f.0) t.0 (append-nil (print_request h) ∙ sym t.1) (all ∙ (λ i. (true, full i))) (front_lines f.0 f.1 f.2) (print_ends h) (front_ends f.0) in
      within h reads.0 few f.0 f.1 f.2 [] (append-nil (print_request h) ∙ same))
      (fronts (print_request h) q (first_lines f.0) f.3.0 (sym reads.1 ∙ sym f.3.1))
    where
      within : (h : RequestHead) → IsRequestHead h → length h.fields ≤ room → (k : RequestHead) → IsRequestHead k → room < length k.fields
          → (e : List ℕ) → print_request h ++ e ≡ first_lines k → ⊥
      within h is_h few k is_k many e text =
          let longer : first_lines k ++ 10 ∷ [] ≡ print_request h ++ (e ++ 10 ∷ []) = ap (λ (r : List ℕ). r ++ 10 ∷ []) (sym text) ∙ append_assoc (print_request h) e (10 ∷ []) in
          let cut : first_lines k ++ 10 ∷ [] ≡ print_request (cut_head k) ++ [] = sym (print_cut k) ∙ sym (append-nil (print_request (cut_head k))) in
          let same = request_unique (first_lines k ++ 10 ∷ []) h (cut_head k) (e ++ 10 ∷ []) [] (is_h, longer) (cut_valid k is_k, cut) in
          let sizes : length h.fields ≡ length (take (room + 1) k.fields) = ap (λ (r : RequestHead). length r.fields) same.0 in
          omega (arith, length-take (room + 1) k.fields)

  -- what can never be a head and hasn't too many headers doesn't get them
  pub never_gets_many : (w e t : List ℕ) → w ++ e ≡ t → NeverHasRequest w → ¬ (RequestExceeds room w) → ¬ (RequestExceeds room t)
  never_gets_many w e t same never few x =
      let f = exceeds_front t x in
      let cut : first_lines f.0 ++ 10 ∷ [] ≡ print_request (cut_head f.0) ++ [] = sym (print_cut f.0) ∙ sym (append-nil (print_request (cut_head f.0))) in
      let many : room < length f.0.fields = f.2 in
      let size : length (take (room + 1) f.0.fields) ≡ room + 1 = omega (arith, length-take (room + 1) f.0.fields) in
      ⊎_elim
      (λ (p : (y : List ℕ) × (w ++ y ≡ first_lines f.0)).
      never (p.0 ++ 10 ∷ []) (cut_head f.0) [] (cut_valid f.0 f.1, sym (append_assoc w p.0 (10 ∷ [])) ∙ (ap (λ (r : List ℕ). r ++ 10 ∷ []) p.1 ∙ cut)))
      (λ (p : (y : List ℕ) × (first_lines f.0 ++ y ≡ w)).
      few (first_lines f.0, p.0, sym p.1, cut_head f.0, (cut_valid f.0 f.1, cut), omega arith))
      (fronts w e (first_lines f.0) f.3.0 (same ∙ sym f.3.1))
