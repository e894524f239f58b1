-- Targets of requests and their queries: `PATH?NAME=VALUE&NAME=VALUE`.
use Rattle.std.specs.Prelude.{ℕ, Bool, true, false, ◌&&◌, ◌||◌, ◌==◌, List, [], ◌∷◌, Option, option_map, find, not, unwrap_or, if◌then◌else◌}
use Rattle.std.specs.Char.{is_ascii_hexdigit}
use Rattle.percent_encoding.specs.Percent.{percent_decode}
use Rattle.hb_routes.specs.Cuts.{is_same, cut_at, before, behind}

-- the path stands before the first `?`
abbrev pub path_of : List ℕ → List ℕ
path_of = before 63

-- the query stands behind the first `?`
abbrev pub query_of : List ℕ → List ℕ
query_of = behind 63

-- two hexadecimal digits stand at the front
abbrev pub begins_with_digits : List ℕ → Bool
begins_with_digits [] = false
begins_with_digits (high ∷ []) = false
begins_with_digits (high ∷ low ∷ rest) = is_ascii_hexdigit high && is_ascii_hexdigit low

-- each `%` begins an escape: two hexadecimal digits follow it (RFC 3986, section 2.1)
abbrev pub has_whole_escapes : List ℕ → Bool
has_whole_escapes [] = true
has_whole_escapes (b ∷ rest) = (not (b == 37) || begins_with_digits rest) && has_whole_escapes rest

-- the value with its escapes decoded; one bad escape leaves the whole value as it is
abbrev pub decoded : List ℕ → List ℕ
decoded value = if has_whole_escapes value then percent_decode value else value

-- the name that a piece of a query has
abbrev pub name_in : List ℕ → List ℕ
name_in = before 61

-- the value that a piece of a query has, which is empty where the piece has no `=`
abbrev pub value_in : List ℕ → List ℕ
value_in = behind 61

-- the value of a name, decoded: of the pieces of that name the first counts. Names aren't decoded.
abbrev pub value_of : List ℕ → List ℕ → Option (List ℕ)
value_of name query = option_map (λ piece. decoded (value_in piece)) (find (λ piece. is_same (name_in piece) name) (cut_at 38 query))

-- the same, and the empty text where no piece has the name
abbrev pub value_or_empty : List ℕ → List ℕ → List ℕ
value_or_empty name query = unwrap_or (value_of name query) []
