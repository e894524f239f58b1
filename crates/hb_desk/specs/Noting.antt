-- What the world remembers after an event. What ends a note ends it whatever the event answered.
use Rattle.std.specs.Prelude.{ℕ, ◌||◌, Bool, true, false, List, ◌∷◌, map, length, Option, Some, None, Ok, Err, if◌then◌else◌}
use Rattle.hb_records.specs.declared.entries.EntryKind.{EntryKind}
use Rattle.hb_records.specs.declared.notes.Notes.{Notes}
use Rattle.hb_records.specs.declared.notes.Sealed.{Sealed}
use Rattle.hb_records.specs.declared.notes.Placement.{Placement}
use Rattle.hb_model.specs.Moves.{takes_digest, collects}
use Rattle.hb_desk.specs.Calls.{Call, Asked, StageTaken, StagePlaced, StageDropped, Outcome}
use Rattle.hb_desk.specs.Notes.{sealed_at, without_out, without_sealed, without_placement}
use Rattle.hb_desk.specs.State.{State}
use Rattle.hb_desk.specs.declared.asks.Ask.{Ask}
use Rattle.hb_desk.specs.declared.asks.Ask.TheVariants.{Seal, SealManifest, Settle, PutArtifact}

-- what an ask seals where it is Ok
abbrev pub seal_of : Ask → Option Sealed
seal_of (Seal upload d size) = Some (record { upload = upload; digest = d; size = size })
seal_of (SealManifest upload put) = Some (record { upload = upload; digest = put.digest; size = put.size })
seal_of ask = None

abbrev pub with_seal : Option Sealed → List Sealed → List Sealed
with_seal None sealed = sealed
with_seal (Some x) sealed = x ∷ sealed

-- an Ok seals the upload
abbrev pub sealing : Sealed → Outcome → Notes → Notes
sealing x (Ok gave) n = record n { sealed = x ∷ n.sealed }
sealing x (Err refusal) n = n

abbrev pub settling : ℕ → Notes → Notes
settling upload n = record n { placements = without_placement upload n.placements }

abbrev pub noted_ask : Ask → Notes → Outcome → Notes
noted_ask (Seal upload d size) n outcome = sealing (record { upload = upload; digest = d; size = size }) outcome n
noted_ask (SealManifest upload put) n outcome = sealing (record { upload = upload; digest = put.digest; size = put.size }) outcome n
noted_ask (Settle name upload d) n outcome = settling upload n
noted_ask (PutArtifact upload put) n outcome = settling upload n
noted_ask ask n outcome = n

-- a stage is out from an Ok on
abbrev pub taking_out : ℕ → Outcome → Notes → Notes
taking_out upload (Ok gave) n = record n { out = upload ∷ n.out }
taking_out upload (Err refusal) n = n

abbrev pub handed_back : ℕ → Bool → Notes → Notes
handed_back upload true n = record n { out = without_out upload n.out }
handed_back upload false n = n

-- an Ok places what the upload sealed, at an audit of so many entries
abbrev pub placed_with : ℕ → Option Sealed → Outcome → List Placement → List Placement
placed_with entries (Some x) (Ok gave) placements = record { upload = x.upload; digest = x.digest; size = x.size; placed = entries; gone = 0 } ∷ placements
placed_with entries x outcome placements = placements

abbrev pub placing : ℕ → ℕ → Outcome → Notes → Notes
placing upload entries outcome n = record n {
  out = without_out upload n.out;
  sealed = without_sealed upload n.sealed;
  placements = placed_with entries (sealed_at upload n.sealed) outcome n.placements;
}

abbrev pub noted : Call → State → Outcome → Notes
noted (Asked ask) s outcome = noted_ask ask s.notes outcome
noted (StageTaken name upload start) s outcome = taking_out upload outcome s.notes
noted (StagePlaced upload d) s outcome = placing upload (length s.audit) outcome s.notes
noted (StageDropped upload handed) s outcome = handed_back upload handed s.notes
noted call s outcome = s.notes

-- a placement of a digest that an entry takes or collects is gone by it
abbrev pub gone_by : ℕ → Option EntryKind → Notes → Notes
gone_by n None notes = notes
gone_by n (Some kind) notes = record notes { placements = map (λ (x : Placement). if takes_digest x.digest kind || collects x.digest kind then record x { gone = n } else x) notes.placements }
