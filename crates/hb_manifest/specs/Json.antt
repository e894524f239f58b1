-- The JSON that bytes are, and members of an object by their names. A member that isn't there, one of
-- another sort, and a member of what is no object are all `None`.
use Rattle.std.specs.Prelude.{ℕ, List, [], ◌∷◌, Option, None, option_map, option_and_then, if◌then◌else◌}
use Rattle.std.specs.Str.{is_utf8}
use Rattle.serde_json.specs.Data.{Data, Items, no_items, item}
use Rattle.serde_json.specs.Read.{read}
use Rattle.serde_json.specs.Find.{get, as_number, as_u64, as_str, as_array, as_object}

-- the value that the bytes are, where they are UTF-8 and JSON
abbrev pub json_of : List ℕ → Option Data
json_of bytes = if is_utf8 bytes then read bytes else None

-- the value, where it is an object
abbrev pub when_object : Data → Option Data
when_object d = option_map (λ _. d) (as_object d)

-- a member that is an integer of at least 0 and below 2^64
abbrev pub whole_at : List ℕ → Data → Option ℕ
whole_at name d = option_and_then as_u64 (option_and_then as_number (get name d))

-- a member that is a string, as its bytes
abbrev pub text_at : List ℕ → Data → Option (List ℕ)
text_at name d = option_and_then as_str (get name d)

-- a member that is an object
abbrev pub object_at : List ℕ → Data → Option Data
object_at name d = option_and_then when_object (get name d)

-- the items of an array, as a list
abbrev pub items_list : Items → List Data
items_list no_items = []
items_list (item d ds) = d ∷ items_list ds

-- a member that is an array
abbrev pub list_at : List ℕ → Data → Option (List Data)
list_at name d = option_map items_list (option_and_then as_array (get name d))
