-- What the events that call the store make of a world: each is answered by the reply that the rows give, or by a fault.
use Rattle.std.specs.Prelude.{◌≡◌, ◌⊎◌, ℕ, false, List, Option, IfSome}
use Rattle.hb_records.specs.declared.notes.Notes.{Notes}
use Rattle.hb_rows.specs.Tables.{Tables, upload_at}
use Rattle.hb_desk.specs.Calls.{Call, Outcome}
use Rattle.hb_desk.specs.Clause.{is_fault}
use Rattle.hb_desk.specs.declared.refusals.Refusal.{Refusal}
use Rattle.hb_desk.specs.declared.refusals.Refusal.TheVariants.{Memory, Storage}
use Rattle.hb_desk.specs.Reply.{Reply, refuse}
use Rattle.hb_plan.specs.RowRefusals.{no_upload_row_of}
use Rattle.hb_plan.specs.RowReplies.{row_reply, take_over}

abbrev pub IsStoreFault : Refusal → Type 0
IsStoreFault refusal = (refusal ≡ Memory) ⊎ (refusal ≡ Storage)

-- where the rows are told
abbrev pub RowsReply : Option Tables → Notes → Call → Outcome → Type 0
RowsReply rows n call outcome = IfSome rows (λ r. is_fault false outcome ≡ false → outcome ≡ (row_reply call r n).outcome)

-- the upload's row has the offset, where the rows are told and have one
abbrev pub HasOffset : Option Tables → ℕ → ℕ → Type 0
HasOffset rows upload keep = IfSome rows (λ r. IfSome (upload_at r upload) (λ x. x.offset ≡ keep))

-- the reply to a stage that is taken, where the project is there
abbrev pub upload_over : Tables → Notes → List ℕ → ℕ → Option ℕ → Reply
upload_over r n name upload start = refuse (no_upload_row_of r name upload) (take_over n upload start (upload_at r upload))
