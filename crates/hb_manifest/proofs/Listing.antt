-- Descriptors among values that are looked at one after another.
use Rattle.std.proofs.Common.{◌≡◌, ◌∙◌, ◌+◌, ◌<◌, ◌≤◌, ◌++◌, ℕ, Bool, true, false, not, cond, nat_lt, List, [], ◌∷◌, length, take, drop, map, get_or, Some, None, sym, ap, arith, append-nil, add-one, drop-cons}
use Rattle.std.specs.List.{filter, filter_map, position, position_or_len}
use Rattle.std.proofs.lemmas.Bool.{lt-ltb, le-ltb}
use Rattle.std.proofs.lemmas.List.{map_more, length-map}
use Rattle.std.proofs.lemmas.List.Elements.{filter-append, filter_map-append}
use Rattle.serde_json.specs.Data.{Data}
use Rattle.serde_json.specs.View.{view}
use Rattle.serde_json.specs.declared.value.Value.{Value}
use Rattle.hb_manifest.specs.MediaTypes.{is_nondistributable}
use Rattle.hb_manifest.specs.Descriptors.{descriptor}
use Rattle.hb_manifest.specs.Forms.{needed}

-- the values, and one more
more : (vs : List Value) (i : ℕ) (v : Value) → i < length vs → v ≡ get_or vs i v
    → map view (take (i + 1) vs) ≡ map view (take i vs) ++ view v ∷ []
more vs i v less is = map_more view vs i v less ∙ ap (λ x. map view (take i vs) ++ view x ∷ []) (sym is)

-- the digests of the values, and of one more
pub digests-more : (vs : List Value) (i : ℕ) (v : Value) → i < length vs → v ≡ get_or vs i v
    → filter_map descriptor (map view (take i vs)) ++ filter_map descriptor (view v ∷ []) ≡ filter_map descriptor (map view (take (i + 1) vs))
digests-more vs i v less is =
    sym (filter_map-append descriptor (map view (take i vs)) (view v ∷ [])) ∙ ap (filter_map descriptor) (sym (more vs i v less is))

-- the layers that may be distributed, with one more
layers-more : (vs : List Value) (i : ℕ) (v : Value) → i < length vs → v ≡ get_or vs i v
    → filter (λ layer. not (is_nondistributable layer)) (map view (take (i + 1) vs))
    ≡ filter (λ layer. not (is_nondistributable layer)) (map view (take i vs)) ++ cond (not (is_nondistributable (view v))) (view v ∷ []) []
layers-more vs i v less is =
    ap (filter (λ layer. not (is_nondistributable layer))) (more vs i v less is)
    ∙ filter-append (λ layer. not (is_nondistributable layer)) (map view (take i vs)) (view v ∷ [])

-- a layer that may be distributed is needed
pub needed-more : (config : Data) (vs : List Value) (i : ℕ) (v : Value) → i < length vs → v ≡ get_or vs i v → is_nondistributable (view v) ≡ false
    → filter_map descriptor (needed (config ∷ map view (take i vs))) ++ filter_map descriptor (view v ∷ []) ≡ filter_map descriptor (needed (config ∷ map view (take (i + 1) vs)))
needed-more config vs i v less is may =
    let before : List Data = filter (λ layer. not (is_nondistributable layer)) (map view (take i vs)) in
    sym (filter_map-append descriptor (config ∷ before) (view v ∷ []))
    ∙ ap (λ ls. filter_map descriptor (config ∷ ls)) (sym (layers-more vs i v less is ∙ ap (λ b. before ++ cond (not b) (view v ∷ []) []) may))

-- another layer isn't
pub needed-same : (config : Data) (vs : List Value) (i : ℕ) (v : Value) → i < length vs → v ≡ get_or vs i v → is_nondistributable (view v) ≡ true
    → needed (config ∷ map view (take i vs)) ≡ needed (config ∷ map view (take (i + 1) vs))
needed-same config vs i v less is no_need =
    let before : List Data = filter (λ layer. not (is_nondistributable layer)) (map view (take i vs)) in
    ap (λ ls. config ∷ ls) (sym (layers-more vs i v less is ∙ ap (λ b. before ++ cond (not b) (view v ∷ []) []) no_need ∙ append-nil before))

-- what is left, and the next of it
next : (vs : List Value) (i : ℕ) (v : Value) → i < length vs → drop i vs ≡ get_or vs i v ∷ drop (i + 1) vs
next vs i v less = drop-cons vs i v less ∙ ap (λ n. get_or vs i v ∷ drop n vs) (sym (add-one i))

-- the first that passes stands here
pub first-here : (p : Data → Bool) (vs : List Value) (i : ℕ) (v : Value) → i < length vs → v ≡ get_or vs i v → p (view v) ≡ true
    → i + position_or_len p (map view (drop i vs)) ≡ position_or_len p (map view vs) → Some i ≡ position p (map view vs)
first-here p vs i v less is passes reached =
    let none_between : position_or_len p (map view (drop i vs)) ≡ 0 =
    ap (λ xs. position_or_len p (map view xs)) (next vs i v less) ∙ ap (λ x. position_or_len p (view x ∷ map view (drop (i + 1) vs))) (sym is)
    ∙ ap (λ b. cond (not b) (1 + position_or_len p (map view (drop (i + 1) vs))) 0) passes in
    let here : position_or_len p (map view vs) ≡ i = omega (arith, reached, none_between) in
    let long : length (map view vs) ≡ length vs = length-map vs view in
    sym (ap (λ n. cond (nat_lt n (length (map view vs))) (Some n) None) here ∙ ap (λ b. cond b (Some i) None) (lt-ltb i (length (map view vs)) (omega arith)))

-- none passes
pub first-nowhere : (p : Data → Bool) (vs : List Value) (i : ℕ) → length vs ≤ i
    → i + position_or_len p (map view (drop i vs)) ≡ position_or_len p (map view vs) → None ≡ position p (map view vs)
first-nowhere p vs i past reached =
    let long : length (map view vs) ≡ length vs = length-map vs view in
    sym (ap (λ b. cond b (Some (position_or_len p (map view vs))) None) (le-ltb (position_or_len p (map view vs)) (length (map view vs)) (omega arith)))

-- the next doesn't pass
pub first-later : (p : Data → Bool) (vs : List Value) (i : ℕ) (v : Value) → i < length vs → v ≡ get_or vs i v → p (view v) ≡ false
    → i + position_or_len p (map view (drop i vs)) ≡ position_or_len p (map view vs)
    → i + 1 + position_or_len p (map view (drop (i + 1) vs)) ≡ position_or_len p (map view vs)
first-later p vs i v less is fails reached =
    let next : position_or_len p (map view (drop i vs)) ≡ 1 + position_or_len p (map view (drop (i + 1) vs)) =
    ap (λ xs. position_or_len p (map view xs)) (next vs i v less) ∙ ap (λ x. position_or_len p (view x ∷ map view (drop (i + 1) vs))) (sym is)
    ∙ ap (λ b. cond (not b) (1 + position_or_len p (map view (drop (i + 1) vs))) 0) fails in
    omega (arith, reached, next)
