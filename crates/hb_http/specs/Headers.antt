-- The headers of a request, by their names.
use Rattle.std.specs.Prelude.{ℕ, Bool, List, map, filter, nat_eq}
use Rattle.std.specs.Char.{to_ascii_lowercase}
use Rattle.std.specs.Cmp.Lexicographic.{pointwise}
use Rattle.httparse.specs.Grammar.{RequestHead}
use Rattle.httparse.specs.Spans.{name_and_value}

-- a header's name, and its value without the blanks and tabs around it
abbrev pub headers_of : RequestHead → List (List ℕ × List ℕ)
headers_of h = map name_and_value h.fields

-- the same text but for the case of ASCII letters
abbrev pub same_ignoring_case : List ℕ → List ℕ → Bool
same_ignoring_case a b = pointwise nat_eq (map to_ascii_lowercase a) (map to_ascii_lowercase b)

-- the values of the headers of a name, in order (RFC 9110, section 5.1: names compare without case)
abbrev pub values_of : List ℕ → List (List ℕ × List ℕ) → List (List ℕ)
values_of name headers = map (λ header. header.1) (filter (λ header. same_ignoring_case header.0 name) headers)
