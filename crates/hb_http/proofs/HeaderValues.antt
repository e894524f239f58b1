-- The values of a name among the headers of a request, as they are read one after another.
use Rattle.std.proofs.Common.{◌≡◌, ◌<◌, ◌+◌, ◌∙◌, ℕ, Bool, true, false, List, [], ◌∷◌, ◌++◌, length, take, map, get_or, ap, append-nil}
use Rattle.std.proofs.lemmas.List.{map_more, map-append}
use Rattle.std.proofs.lemmas.List.Elements.{filter-append}
use Rattle.std.specs.List.{filter}
use mathlib.Core.Bool.{cond}
use Rattle.httparse.specs.declared.spans.HeaderSpan.{HeaderSpan}
use Rattle.httparse.specs.Spans.{header_bytes}
use Rattle.hb_http.specs.Headers.{same_ignoring_case, values_of}

-- the values of two lists of headers stand behind one another
pub values_of-append : (name : List ℕ) (xs ys : List (List ℕ × List ℕ)) → values_of name (xs ++ ys) ≡ values_of name xs ++ values_of name ys
values_of-append name xs ys =
    ap (map (λ (h : List ℕ × List ℕ). h.1)) (filter-append (λ h. same_ignoring_case h.0 name) xs ys)
    ∙ map-append (λ (h : List ℕ × List ℕ). h.1) (filter (λ h. same_ignoring_case h.0 name) xs) (filter (λ h. same_ignoring_case h.0 name) ys)

-- the values with one header more
one_more : (name b : List ℕ) (hs : List HeaderSpan) (i : ℕ) (d : HeaderSpan) → i < length hs
    → values_of name (map (header_bytes b) (take (i + 1) hs)) ≡ values_of name (map (header_bytes b) (take i hs)) ++ values_of name (header_bytes b (get_or hs i d) ∷ [])
one_more name b hs i d less =
    ap (values_of name) (map_more (header_bytes b) hs i d less) ∙ values_of-append name (map (header_bytes b) (take i hs)) (header_bytes b (get_or hs i d) ∷ [])

-- the next header has the name: its value comes last
pub values_named : (name b : List ℕ) (hs : List HeaderSpan) (i : ℕ) (d : HeaderSpan) → i < length hs
    → same_ignoring_case (header_bytes b (get_or hs i d)).0 name ≡ true
    → values_of name (map (header_bytes b) (take (i + 1) hs)) ≡ values_of name (map (header_bytes b) (take i hs)) ++ (header_bytes b (get_or hs i d)).1 ∷ []
values_named name b hs i d less same =
    let x : List ℕ × List ℕ = header_bytes b (get_or hs i d) in
    one_more name b hs i d less ∙ ap (λ (t : Bool). values_of name (map (header_bytes b) (take i hs)) ++ map (λ (h : List ℕ × List ℕ). h.1) (cond t (x ∷ []) [])) same

-- the next header has another name: no value comes
pub values_other : (name b : List ℕ) (hs : List HeaderSpan) (i : ℕ) (d : HeaderSpan) → i < length hs
    → same_ignoring_case (header_bytes b (get_or hs i d)).0 name ≡ false
    → values_of name (map (header_bytes b) (take (i + 1) hs)) ≡ values_of name (map (header_bytes b) (take i hs))
values_other name b hs i d less same =
    let x : List ℕ × List ℕ = header_bytes b (get_or hs i d) in
    one_more name b hs i d less ∙ (ap (λ (t : Bool). values_of name (map (header_bytes b) (take i hs)) ++ map (λ (h : List ℕ × List ℕ). h.1) (cond t (x ∷ []) [])) same ∙ append-nil (values_of name (map (header_bytes b) (take i hs))))
