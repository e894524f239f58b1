-- The names of repositories and of projects: the grammar of `<name>` in the OCI Distribution
-- Specification 1.1, "Pulling manifests",
--     [a-z0-9]+((\.|_|__|-+)[a-z0-9]+)*(\/[a-z0-9]+((\.|_|__|-+)[a-z0-9]+)*)*
-- and what this registry asks beside it.
use Rattle.std.specs.Prelude.{◌≤◌, ◌==◌, ℕ, List, length, IsTrue, nat_eq}
use Rattle.std.specs.List.{list_any, before_first, after_first}
use Rattle.hb_text.specs.Grammar.{Grammar, Matches, byte, some, is_lower_or_digit}
use Rattle.hb_text.specs.Grammar.Grammar.{Byte, Then, Or, Many}

-- [a-z0-9]+
abbrev pub word : Grammar
word = some (Byte is_lower_or_digit)

-- \.|_|__|-+
abbrev pub separator : Grammar
separator = Or (byte 46) (Or (byte 95) (Or (Then (byte 95) (byte 95)) (some (byte 45))))

-- a word, and further words behind separators
abbrev pub component : Grammar
component = Then word (Many (Then separator word))

-- components between slashes
abbrev pub path : Grammar
path = Then component (Many (Then (byte 47) component))

-- A project's name is one component, of at most 255 bytes.
pub record IsProjectName (s : List ℕ) : Type 0 where
  pub short : length s ≤ 255
  pub matches : Matches component s

-- A repository's name has at most 255 bytes, and a slash: of its two components or more the first is
-- the name of its project.
pub record IsName (s : List ℕ) : Type 0 where
  pub short : length s ≤ 255
  pub matches : Matches path s
  pub parts : IsTrue (list_any (nat_eq 47) s)

-- what stands before the first slash
abbrev pub project_of : List ℕ → List ℕ
project_of = before_first (λ b. b == 47)

-- what stands behind the first slash
abbrev pub repository_of : List ℕ → List ℕ
repository_of = after_first (λ b. b == 47)
