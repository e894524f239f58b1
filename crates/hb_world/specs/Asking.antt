-- What an ask makes of the rows of a world.
use Rattle.std.specs.Prelude.{◌≡◌, ℕ, suc, false, length, Some, None, is_some, if◌then◌else◌}
use Rattle.std.specs.declared.option.Option.{Option}
use Rattle.std.specs.Option.{option_map}
use Rattle.hb_records.specs.Entries.{AuditEntry}
use Rattle.hb_records.specs.declared.batches.Batch.{Batch}
use Rattle.hb_records.specs.declared.entries.EntryKind.{EntryKind}
use Rattle.hb_records.specs.declared.notes.Notes.{Notes}
use Rattle.hb_rows.specs.Batches.{after_batch}
use Rattle.hb_rows.specs.Tables.{Tables}
use Rattle.hb_model.specs.Changes.{changes_of}
use Rattle.hb_desk.specs.Calls.{Outcome}
use Rattle.hb_desk.specs.Clause.{is_fault}
use Rattle.hb_desk.specs.Events.{acknowledged}
use Rattle.hb_desk.specs.Noting.{settling}
use Rattle.hb_desk.specs.Reply.{Reply}
use Rattle.hb_desk.specs.declared.asks.Ask.{Ask}
use Rattle.hb_desk.specs.declared.asks.Ask.TheVariants.{Settle, PutArtifact}

-- the rows with the batch, where there is one
abbrev pub with_batch : Option Batch → Option Tables → Option Tables
with_batch None rows = rows
with_batch (Some b) rows = option_map (λ r. after_batch r b) rows

-- the number of entries with it
abbrev pub count_with : Option Batch → ℕ → ℕ
count_with batch entries = if is_some batch then suc entries else entries

-- the number of the last entry since the start, with it
abbrev pub last_with : Option Batch → ℕ → ℕ → ℕ
last_with batch entries last = if is_some batch then suc entries else last

-- the batch of an entry, over these rows
abbrev pub batch_of : Tables → AuditEntry → Batch
batch_of r e = record { changes = changes_of r e; entry = e }

-- the rows with the batch of an entry of this kind, where one is made
abbrev pub with_entry : ℕ → Option EntryKind → Tables → Tables
with_entry t None r = r
with_entry t (Some kind) r = after_batch r (batch_of r (record { number = suc (length r.audit); moment = t; kind = kind }))

abbrev pub count_after : Option EntryKind → ℕ → ℕ
count_after None entries = entries
count_after (Some kind) entries = suc entries

abbrev pub last_after : Option EntryKind → ℕ → ℕ → ℕ
last_after None entries last = last
last_after (Some kind) entries last = suc entries

-- An ask over rows that are told: it is answered by the reply or by a fault, and an Ok commits the entry.
pub record AskFits (r : Tables) (reply : Reply) (t : ℕ) (rows' : Option Tables) (entries' own own' : ℕ) (outcome : Outcome) : Type 0 where
  pub answered : is_fault false outcome ≡ false → outcome ≡ reply.outcome
  pub rows : rows' ≡ Some (with_entry t (acknowledged outcome reply.entry) r)
  pub count : entries' ≡ count_after (acknowledged outcome reply.entry) (length r.audit)
  pub last : own' ≡ last_after (acknowledged outcome reply.entry) (length r.audit) own

-- the upload whose placement an ask ends
abbrev pub settled_by : Ask → Option ℕ
settled_by (Settle name upload d) = Some upload
settled_by (PutArtifact upload put) = Some upload
settled_by ask = None

-- the notes without it
abbrev pub without_settled : Option ℕ → Notes → Notes
without_settled None n = n
without_settled (Some upload) n = settling upload n

abbrev pub settles : Ask → Notes → Notes
settles ask n = without_settled (settled_by ask) n
