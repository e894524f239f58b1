-- What a world remembers: of uploads alone, so far.
use Rattle.std.specs.Prelude.{ℕ, List, []}
use Rattle.hb_records.specs.declared.notes.Notes.{Notes}
use Rattle.hb_records.specs.declared.notes.Placement.{Placement}
use Rattle.hb_records.specs.declared.notes.Sealed.{Sealed}

abbrev pub notes_of : List ℕ → List Sealed → List Placement → Notes
notes_of out sealed placements = record { out = out; sealed = sealed; placements = placements; spells = []; sightings = []; claims = [] }
