use Rattle.std.proofs.Common.{◌≡◌, true, false, Bool, ◌&&◌, refl, sym, ap, ◌∙◌, ◌∷◌, [], ◌++◌, codes, List, ℕ}
use Rattle.hb_routes.specs.Cuts.{is_same}
use Rattle.hb_routes.specs.Resources.{by_ending}
use Rattle.hb_routes.proofs.Endings.{tags-named, blob-named, manifest-named, none-named, same_text}
use Rattle.hb_routes.proofs.Comparisons.{same-said}
use Rattle.hb_routes.proofs.registry_paths.resource_at.Goals as goal
use Rattle.hb_routes.proofs.registry_paths.resource_at.Goals.{else-eq-4-via-then-eq-4+else-eq-5, else-eq-4-via-else-eq-4}

pub returns-then-eq-2 : goal.returns-then-eq-2
returns-then-eq-2 c = λ before of_front.
    let is = same_text c.args.kind.now (codes "blobs") (same-said c.eq-else-eq.result true c.args.kind.now c.as_slice-else-eq.result.now (codes "blobs") c.as_slice-else-eq.ensures c.eq-else-eq.ensures c.if-eq-2.true) in
    sym (ap (λ (k : List ℕ). by_ending (before ++ k ∷ c.args.last.now ∷ [])) is ∙ blob-named before c.args.front.now of_front c.args.last.now)

pub returns-then-eq-3 : goal.returns-then-eq-3
returns-then-eq-3 c = λ before of_front.
    let is = same_text c.args.kind.now (codes "manifests") (same-said c.eq-else-eq-2.result true c.args.kind.now c.as_slice-else-eq-2.result.now (codes "manifests") c.as_slice-else-eq-2.ensures c.eq-else-eq-2.ensures c.if-eq-3.true) in
    sym (ap (λ (k : List ℕ). by_ending (before ++ k ∷ c.args.last.now ∷ [])) is ∙ manifest-named before c.args.front.now of_front c.args.last.now)

pub returns-then-eq-5 : goal.returns-then-eq-5
returns-then-eq-5 c = λ before of_front.
    let kind = same_text c.args.kind.now (codes "tags") (same-said c.eq-else-eq-3.result true c.args.kind.now c.as_slice-else-eq-3.result.now (codes "tags") c.as_slice-else-eq-3.ensures c.eq-else-eq-3.ensures c.if-eq-4.true) in
    let last = same_text c.args.last.now (codes "list") (same-said c.eq-then-eq-4.result true c.args.last.now c.as_slice-then-eq-4.result.now (codes "list") c.as_slice-then-eq-4.ensures c.eq-then-eq-4.ensures c.if-eq-5.true) in
    sym (ap (λ (k : List ℕ). by_ending (before ++ k ∷ c.args.last.now ∷ [])) kind ∙ ap (λ (l : List ℕ). by_ending (before ++ codes "tags" ∷ l ∷ [])) last ∙ tags-named before c.args.front.now of_front)

pub returns-else-eq-4 : goal.returns-else-eq-4
returns-else-eq-4 c = λ before of_front.
    let uploads = same-said c.eq.result false c.args.kind.now c.as_slice.result.now (codes "uploads") c.as_slice.ensures c.eq.ensures c.if-eq.false in
    let blobs = same-said c.eq-else-eq.result false c.args.kind.now c.as_slice-else-eq.result.now (codes "blobs") c.as_slice-else-eq.ensures c.eq-else-eq.ensures c.if-eq-2.false in
    let manifests = same-said c.eq-else-eq-2.result false c.args.kind.now c.as_slice-else-eq-2.result.now (codes "manifests") c.as_slice-else-eq-2.ensures c.eq-else-eq-2.ensures c.if-eq-3.false in
    let tags : (is_same c.args.kind.now (codes "tags") && (is_same c.args.last.now (codes "list") && true)) ≡ false =
    elim c.else-eq-4.branch [
      | else-eq-4-via-then-eq-4+else-eq-5 w ↦
          not-both (is_same c.args.kind.now (codes "tags")) (is_same c.args.last.now (codes "list")) (same-said w.eq-then-eq-4.result false c.args.last.now w.as_slice-then-eq-4.result.now (codes "list") w.as_slice-then-eq-4.ensures w.eq-then-eq-4.ensures w.if-eq-5.false)
      | else-eq-4-via-else-eq-4 w ↦
          ap (λ (t : Bool). t && (is_same c.args.last.now (codes "list") && true)) (same-said c.eq-else-eq-3.result false c.args.kind.now c.as_slice-else-eq-3.result.now (codes "tags") c.as_slice-else-eq-3.ensures c.eq-else-eq-3.ensures w.if-eq-4.false)
    ] in
    sym (none-named before c.args.kind.now c.args.last.now tags uploads blobs manifests)
  where
    not-both : (a b : Bool) → b ≡ false → (a && (b && true)) ≡ false
    not-both true b e = ap (λ z. z && true) e
    not-both false b e = refl
