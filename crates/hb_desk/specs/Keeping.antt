-- The rows after an event, and what an ask keeps.
use Rattle.std.specs.Prelude.{◌≤◌, ℕ, suc, false, length, Option, Some, None}
use Rattle.hb_records.specs.declared.entries.EntryKind.{EntryKind}
use Rattle.hb_rows.specs.Tables.{Tables}
use Rattle.hb_store.specs.Contents.{Contents}
use Rattle.hb_records.specs.declared.notes.Notes.{Notes}
use Rattle.hb_model.specs.Effects.{after_entry}
use Rattle.hb_model.specs.Whole.{IsWhole}
use Rattle.hb_desk.specs.Calls.{Asked, Outcome}
use Rattle.hb_desk.specs.Clause.{Fits}
use Rattle.hb_desk.specs.Events.{Event, entry_of, happens}
use Rattle.hb_desk.specs.State.{State}
use Rattle.hb_desk.specs.declared.asks.Ask.{Ask}

-- the rows with the entry that was made, at this moment
abbrev pub rows_with : ℕ → Option EntryKind → Tables → Tables
rows_with t None rows = rows
rows_with t (Some kind) rows = after_entry rows (record { number = suc (length rows.audit); moment = t; kind = kind })

abbrev pub state_of : Tables → Notes → State
state_of rows n = record { audit = rows.audit; notes = n }

abbrev pub asked_at : ℕ → Ask → Outcome → Event
asked_at t ask outcome = record { call = Asked ask; moment = t; outcome = outcome }

-- An ask that is answered by its reply or by a fault leaves rows, notes and store that fit one another.
abbrev pub AsksKeepWhole : Type 0
AsksKeepWhole = (rows : Tables) (n : Notes) (c : Contents) (before t : ℕ) (ask : Ask) (outcome : Outcome) → IsWhole rows n c before → before ≤ t
    → Fits false (asked_at t ask outcome) (state_of rows n)
    → IsWhole (rows_with t (entry_of (asked_at t ask outcome) (state_of rows n)) rows) (happens (asked_at t ask outcome) (state_of rows n)).notes c t
