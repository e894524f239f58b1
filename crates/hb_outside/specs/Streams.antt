-- Bytes that a source has left and that a sink holds, where they are told.
use Rattle.std.specs.Prelude.{◌≡◌, ◌<◌, ℕ, Bool, true, List, [], ◌++◌, take, Some, None, IfSome, Result, MatchResult}
use Rattle.std.specs.declared.option.Option.{Option}
use Rattle.std.specs.Option.{option_map}

-- what is left begins with the piece, which is taken; what isn't told stays untold
abbrev pub Gives : Option (List ℕ) → Option (List ℕ) → List ℕ → Type 0
Gives None rest piece = rest ≡ None
Gives (Some bytes) rest piece = (more : List ℕ) × (bytes ≡ piece ++ more) × (rest ≡ Some more)

-- what is held grows by the piece, at its end; what isn't told stays untold
abbrev pub Writes : Option (List ℕ) → Option (List ℕ) → List ℕ → Type 0
Writes held now piece = now ≡ option_map (λ bytes. bytes ++ piece) held

-- a part of the piece, from its front on
abbrev pub WritesPart : Option (List ℕ) → Option (List ℕ) → List ℕ → Type 0
WritesPart held now piece = (n : ℕ) × Writes held now (take n piece)

-- a read gives the next bytes, or fails and takes none
abbrev pub ReadGives : {E : Type 0} → Option (List ℕ) → Option (List ℕ) → Result ℕ E → List ℕ → Type 0
ReadGives left rest result into = MatchResult result (λ n. Gives left rest (take n into)) (λ _. rest ≡ left)

-- only a read of no bytes sets the mark of the end, and then none is left
pub record AtEnd (ended ended' : Bool) (rest : Option (List ℕ)) (n : ℕ) : Type 0 where
  pub end : n ≡ 0 → (ended' ≡ true) × IfSome rest (λ bytes. bytes ≡ [])
  pub before : 0 < n → ended' ≡ ended

abbrev pub ReadEnds : {E : Type 0} → Bool → Bool → Option (List ℕ) → Result ℕ E → Type 0
ReadEnds ended ended' rest result = MatchResult result (λ n. AtEnd ended ended' rest n) (λ _. ended' ≡ ended)

-- a write writes all of the piece, or fails behind a part of it
abbrev pub WriteAdds : {T E : Type 0} → Option (List ℕ) → Option (List ℕ) → Result T E → List ℕ → Type 0
WriteAdds held now result piece = MatchResult result (λ _. Writes held now piece) (λ _. WritesPart held now piece)
