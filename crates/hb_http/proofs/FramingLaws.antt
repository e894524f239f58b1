-- Headers frame a body in one way at most.
use Rattle.std.proofs.Common.{◌≡◌, ◌∙◌, ℕ, List, sym}
use Rattle.hb_http.specs.Framing.{HasLength, IsChunked, lengths}
use Rattle.hb_http.proofs.Said.{one_length}

-- two lengths of one head are the same
pub HasLength-unique : (headers : List (List ℕ × List ℕ)) (n m : ℕ) → HasLength headers n → HasLength headers m → n ≡ m
HasLength-unique headers n m a b = one_length (lengths headers) n m (λ e. a.none e ∙ sym (b.none e)) a.each b.each

-- a head of some length isn't chunked
pub HasLength-not_chunked : (headers : List (List ℕ × List ℕ)) (n : ℕ) → HasLength headers n → ¬ (IsChunked headers)
HasLength-not_chunked headers n a b = let none = a.plain in let one = b.one in cc
