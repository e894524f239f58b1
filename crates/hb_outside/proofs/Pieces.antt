-- Pieces of a list, one behind another.
use Rattle.std.proofs.Common.{◌≡◌, ◌+◌, ◌-◌, ◌≤◌, ℕ, List, ◌++◌, length, take, drop, sym, ap, ap₂, ◌∙◌, arith, length-take, length-drop}
use Rattle.std.proofs.Math.Seq.{take-append-add}
use Rattle.std.proofs.lemmas.List.{take-append-drop, drop-drop, take_at}

-- what a list has from a place on is the piece that was copied from there, and what it has behind that
pub drop-copied : (place count : ℕ) (bytes piece rest : List ℕ) → place + count ≤ length bytes → piece ≡ take (place + count - place) (drop place bytes) → drop place bytes ≡ take count (piece ++ rest) ++ drop (place + count) bytes
drop-copied place count bytes piece rest within is =
    let same : place + count - place ≡ count = omega arith in
    let long : length piece ≡ count = ap length is ∙ omega (arith, length-take (place + count - place) (drop place bytes), length-drop place bytes) in
    sym (take-append-drop count (drop place bytes))
    ∙ ap₂ (λ front back. front ++ back) (ap (λ n. take n (drop place bytes)) (sym same) ∙ sym is ∙ sym (take_at piece rest count long)) (drop-drop count place bytes)

-- what is held and the part of a piece that fills the room
pub append-filled : (room part : ℕ) (held piece : List ℕ) → length held + part ≡ room → held ++ take part piece ≡ take room (held ++ piece)
append-filled room part held piece e = sym (take-append-add held piece part) ∙ ap (λ n. take n (held ++ piece)) e
