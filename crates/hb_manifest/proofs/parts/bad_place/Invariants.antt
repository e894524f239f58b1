use Rattle.std.proofs.Common.{◌≡◌, ◌+◌, drop, map}
use Rattle.std.specs.Prelude.{is_none}
use Rattle.std.specs.List.{position_or_len}
use Rattle.serde_json.specs.View.{view}
use Rattle.hb_manifest.specs.Descriptors.{descriptor}
use Rattle.hb_manifest.proofs.parts.bad_place.Given as goal

-- each before this place is a descriptor
abbrev pub invariant-items : goal.invariant-items
invariant-items l =
    l.place + position_or_len (λ d. is_none (descriptor d)) (map view (drop l.place l.items)) ≡ position_or_len (λ d. is_none (descriptor d)) (map view l.items)
