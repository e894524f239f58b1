-- What the path of a request names. Paths under `/v2/` are those of the OCI Distribution Specification
-- 1.1, "Endpoints"; those under `/harbor/` control the registry. No path is percent-decoded.
use Rattle.std.specs.Prelude.{◌-◌, ◌&&◌, ℕ, Bool, true, List, [], ◌∷◌, length, take, drop, slice_index_or, Option, Some, None, option_and_then, find, not, nat_eq, codes, if◌then◌else◌}
use Rattle.std.specs.List.{join_with_byte, list_any}
use Rattle.std.specs.Option.{option_map}
use Rattle.std.specs.Cmp.Lexicographic.{pointwise}
use Rattle.std.specs.Str.{is_utf8}
use Rattle.hb_routes.specs.Cuts.{is_same, cut_at, behind_front, before_end}

-- what paths name, by the texts that stand in them
pub data Resource : Type 0 where
  Base : Resource
  Tags : (name : List ℕ) → Resource
  Uploads : (name : List ℕ) → Resource
  Upload : (name : List ℕ) → (id : List ℕ) → Resource
  Blob : (name : List ℕ) → (digest : List ℕ) → Resource
  Manifest : (name : List ℕ) → (reference : List ℕ) → Resource
  Project : (name : List ℕ) → Resource
  Rules : (name : List ℕ) → Resource
  Jobs : Resource
  Job : (id : List ℕ) → Resource

-- ---- under /v2/
-- the parts of a text between its slashes
abbrev pub parts : List ℕ → List (List ℕ)
parts = cut_at 47

abbrev pub is_empty : List ℕ → Bool
is_empty text = is_same text []

-- what a part has to be: this word, nothing, or anything
pub data Shape : Type 0 where
  Word : List ℕ → Shape
  Nothing : Shape
  Any : Shape

abbrev pub fits : Shape → List ℕ → Bool
fits (Word word) part = is_same part word
fits Nothing part = is_empty part
fits Any part = true

-- An ending: what the last parts have to be, and what the path names then, by the text before the ending
-- and by the last part.
pub record Ending : Type 0 where
  pub shapes : List Shape
  pub names : List ℕ → List ℕ → Resource

abbrev pub ending : List Shape → (List ℕ → List ℕ → Resource) → Ending
ending shapes names = record { shapes = shapes; names = names }

-- Of the endings the first that fits counts. The referrers of a manifest aren't served yet, so a path
-- that ends with `referrers` and a part names nothing.
abbrev pub endings : List Ending
endings =
    ending (Word (codes "tags") ∷ Word (codes "list") ∷ []) (λ name last. Tags name)
    ∷ ending (Word (codes "blobs") ∷ Word (codes "uploads") ∷ Nothing ∷ []) (λ name last. Uploads name)
    ∷ ending (Word (codes "blobs") ∷ Word (codes "uploads") ∷ Any ∷ []) (λ name id. Upload name id)
    ∷ ending (Word (codes "blobs") ∷ Any ∷ []) (λ name digest. Blob name digest)
    ∷ ending (Word (codes "manifests") ∷ Any ∷ []) (λ name reference. Manifest name reference)
    ∷ []

-- the last parts, as many as there are shapes, have these shapes
abbrev pub ends_in : List Shape → List (List ℕ) → Bool
ends_in shapes ps = pointwise fits shapes (drop (length ps - length shapes) ps)

-- what a path with this ending names; nothing may stand before the ending
abbrev pub named_by : Ending → List (List ℕ) → Resource
named_by e ps = e.names (join_with_byte 47 (take (length ps - length e.shapes) ps)) (slice_index_or ps (length ps - 1) [])

abbrev pub by_ending : List (List ℕ) → Option Resource
by_ending ps = option_map (λ e. named_by e ps) (find (λ e. ends_in e.shapes ps) endings)

-- what a path names, by its text behind `/v2/`
abbrev pub registry_resource : List ℕ → Option Resource
registry_resource text = if is_empty text then Some Base else by_ending (parts text)

-- ---- under /harbor/
-- the text is one part: it isn't empty and has no slash
abbrev pub is_part : List ℕ → Bool
is_part text = not (is_empty text) && not (list_any (nat_eq 47) text)

-- the one part that stands between this front and this end
abbrev pub part_between : List ℕ → List ℕ → List ℕ → Option (List ℕ)
part_between front end path =
    option_and_then (λ rest. option_and_then (λ part. if is_part part then Some part else None) (before_end end rest)) (behind_front front path)

-- the one that is there; no path has two
abbrev pub either : Option Resource → Option Resource → Option Resource
either None other = other
either (Some resource) other = Some resource

abbrev pub control_named : List ℕ → Option Resource
control_named path =
    either (option_map (λ name. Project name) (part_between (codes "/harbor/projects/") [] path))
    (either (option_map (λ name. Rules name) (part_between (codes "/harbor/projects/") (codes "/rules") path))
    (either (if is_same path (codes "/harbor/jobs") then Some Jobs else None)
    (option_map (λ id. Job id) (part_between (codes "/harbor/jobs/") [] path))))

-- what a path that isn't under `/v2/` names; one that isn't UTF-8 names nothing
abbrev pub control_resource : List ℕ → Option Resource
control_resource path = if is_utf8 path then control_named path else None

-- ---- all paths
abbrev pub behind_v2 : Option (List ℕ) → List ℕ → Option Resource
behind_v2 (Some text) path = registry_resource text
behind_v2 None path = control_resource path

-- what a path names
abbrev pub resource_of : List ℕ → Option Resource
resource_of path = behind_v2 (behind_front (codes "/v2/") path) path
