-- Events, and what a list of them makes of a state. The newest event stands first.
use Rattle.std.specs.Prelude.{ℕ, suc, List, [], ◌∷◌, length, Option, Some, None, Ok, Err}
use Rattle.hb_records.specs.Entries.{AuditEntry}
use Rattle.hb_records.specs.declared.entries.EntryKind.{EntryKind}
use Rattle.hb_desk.specs.Calls.{Call, Outcome}
use Rattle.hb_desk.specs.Noting.{noted, gone_by}
use Rattle.hb_desk.specs.Reply.{reply}
use Rattle.hb_desk.specs.State.{State}

pub record Event : Type 0 where
  pub call : Call
  pub moment : ℕ
  pub outcome : Outcome

-- the entry that an outcome acknowledges
abbrev pub acknowledged : Outcome → Option EntryKind → Option EntryKind
acknowledged (Ok gave) kind = kind
acknowledged (Err refusal) kind = None

abbrev pub entry_of : Event → State → Option EntryKind
entry_of ev s = acknowledged ev.outcome (reply ev.call s ev.moment).entry

abbrev pub entered : ℕ → Option EntryKind → List AuditEntry → List AuditEntry
entered t None audit = audit
entered t (Some kind) audit = record { number = suc (length audit); moment = t; kind = kind } ∷ audit

abbrev pub happens : Event → State → State
happens ev s = record {
  audit = entered ev.moment (entry_of ev s) s.audit;
  notes = gone_by (suc (length s.audit)) (entry_of ev s) (noted ev.call s ev.outcome);
}

abbrev pub after : List Event → State → State
after [] s = s
after (ev ∷ events) s = happens ev (after events s)
