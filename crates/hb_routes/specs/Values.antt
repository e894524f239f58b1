-- Which values texts stand for. Each of these relations says of a text and a value that the text stands
-- for the value; a text stands for one value at most.
use Rattle.std.specs.Prelude.{◌≡◌, ◌<◌, ◌≤◌, ◌^◌, ◌⊎◌, ℕ, Bool, ℤ, pos, negsuc, List, Option, Some, None, nat_eq, codes}
use Rattle.std.specs.List.{list_any}
use Rattle.hb_text.specs.Names.{IsName, IsProjectName}
use Rattle.hb_text.specs.Tags.{IsTag}
use Rattle.hb_text.specs.Numbers.{IsNumber}
use Rattle.hb_text.specs.Digests.{IsDigest, digest_text}
use Rattle.hb_text.specs.declared.digests.Digest.{Digest}
use Rattle.hb_routes.specs.declared.routes.Given.{Given}
use Rattle.hb_routes.specs.declared.routes.Given.TheVariants.{Absent, Invalid, Value}

-- ---- the grammars
abbrev pub StandsForName : List ℕ → List ℕ → Type 0
StandsForName text name = (name ≡ text) × IsName text

abbrev pub StandsForProject : List ℕ → List ℕ → Type 0
StandsForProject text name = (name ≡ text) × IsProjectName text

abbrev pub StandsForTag : List ℕ → List ℕ → Type 0
StandsForTag text tag = (tag ≡ text) × IsTag text

abbrev pub StandsForDigest : List ℕ → Digest → Type 0
StandsForDigest text digest = (text ≡ digest_text digest) × IsDigest digest

abbrev pub has_colon : List ℕ → Bool
has_colon = list_any (nat_eq 58)

-- a limit of a project: -1, for none, or a number of at most 2^63 - 1
abbrev pub StandsForLimit : List ℕ → ℤ → Type 0
StandsForLimit text limit =
    ((text ≡ codes "-1") × (limit ≡ negsuc 0)) ⊎ ((n : ℕ) × IsNumber text n × (n < 2 ^ 63) × (limit ≡ pos n))

-- ---- what was given
module _ {T : Type 0} (StandsFor : List ℕ → T → Type 0) where
  -- the text stands for no value
  abbrev pub IsOutside : List ℕ → Type 0
  IsOutside text = (value : T) → ¬ (StandsFor text value)

  -- the value that a text stands for, if it stands for one
  abbrev pub IsValueOf : List ℕ → Option T → Type 0
  IsValueOf text None = IsOutside text
  IsValueOf text (Some value) = StandsFor text value

  -- the same, where nothing may be given: that counts as a text outside the grammar
  abbrev pub IsTaken : Option (List ℕ) → Option T → Type 0
  IsTaken text None = (given : List ℕ) → text ≡ Some given → IsOutside given
  IsTaken text (Some value) = (given : List ℕ) × (text ≡ Some given) × StandsFor given value

  -- the same, where what is absent is told from what is outside the grammar
  abbrev pub IsGiven : Option (List ℕ) → Given T → Type 0
  IsGiven text Absent = text ≡ None
  IsGiven text Invalid = (given : List ℕ) × (text ≡ Some given) × IsOutside given
  IsGiven text (Value value) = (given : List ℕ) × (text ≡ Some given) × StandsFor given value

-- how many tags a list has at most: the number that is given where it is below 1,000, and else 1,000
abbrev pub IsMost : Option (List ℕ) → ℕ → Type 0
IsMost text most =
    ((given : List ℕ) × (text ≡ Some given) × IsNumber given most × (most < 1000))
    ⊎ (((given : List ℕ) (n : ℕ) → text ≡ Some given → IsNumber given n → 1000 ≤ n) × (most ≡ 1000))
