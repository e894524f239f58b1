-- How the code takes the parts of a path from its end. No public contract speaks of it.
use Rattle.std.specs.Prelude.{◌≡◌, ◌⊎◌, ◌++◌, ℕ, List, [], ◌∷◌}
use Rattle.hb_routes.specs.Resources.{parts}

-- these parts stand in the text, or there are none and the text is empty
abbrev pub AreOf : List (List ℕ) → List ℕ → Type 0
AreOf before text = (before ≡ parts text) ⊎ ((before ≡ []) × (text ≡ []))

-- the last part of a text, and the text of the parts before it
pub record IsLastPart (text front last : List ℕ) : Type 0 where
  pub before : List (List ℕ)
  pub of_front : AreOf before front
  pub whole : parts text ≡ before ++ last ∷ []
