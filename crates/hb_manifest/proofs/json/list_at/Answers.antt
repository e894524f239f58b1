use Rattle.std.proofs.Common.{◌∙◌, Some, ap, sym, map}
use Rattle.std.specs.Prelude.{option_map, option_and_then}
use Rattle.serde_json.specs.Find.{as_array}
use Rattle.serde_json.specs.View.{view}
use Rattle.hb_manifest.specs.Json.{items_list}
use Rattle.hb_manifest.proofs.JsonLists.{items_list-items_of}
use Rattle.hb_manifest.proofs.json.list_at.Goals as goal

pub returns-in-Some-as_array : goal.returns-in-Some-as_array
returns-in-Some-as_array c =
    ap (λ vs. Some (map view vs)) c.as_slice.ensures.value
    ∙ ap Some (sym (items_list-items_of (map view c.in-Some-as_array.items.now.items)))
    ∙ ap (option_map items_list) c.in-Some-as_array.ensures
    ∙ ap (λ o. option_map items_list (option_and_then as_array o)) c.in-Some.ensures
