-- Events make a history of a history, and only add entries.
use Rattle.std.proofs.Common.{◌≡◌, ◌≤◌, ℕ, suc, List, [], ◌∷◌, ◌++◌, length, Option, Some, None, Ok, Err, refl, sym, ap, ◌∙◌, append_assoc}
use Rattle.hb_records.specs.Entries.{AuditEntry}
use Rattle.hb_records.specs.declared.entries.EntryKind.{EntryKind}
use Rattle.hb_model.specs.History.{History, latest}
use Rattle.hb_desk.specs.Calls.{Outcome}
use Rattle.hb_desk.specs.Clause.{AllFit}
use Rattle.hb_desk.specs.Events.{Event, happens, after, entered, entry_of, acknowledged}
use Rattle.hb_desk.specs.Prefix.{GoesOn}
use Rattle.hb_desk.specs.Reply.{reply}
use Rattle.hb_desk.specs.State.{State}
use Rattle.hb_desk.proofs.LegalReplies.{reply-legal}

-- an entry that is acknowledged is the reply's
acknowledged-some : (outcome : Outcome) (made : Option EntryKind) (kind : EntryKind) → acknowledged outcome made ≡ Some kind → made ≡ Some kind
acknowledged-some (Ok gave) made kind h = h
acknowledged-some (Err refusal) made kind h = cc h

entered-history : (ev : Event) (s : State) (made : Option EntryKind) → History s.audit → latest s.audit ≤ ev.moment → entry_of ev s ≡ made → History (entered ev.moment made s.audit)
entered-history ev s None h later is = h
entered-history ev s (Some kind) h later is = (reply-legal s ev.call ev.moment kind later (acknowledged-some ev.outcome (reply ev.call s ev.moment).entry kind is), h)

pub event-history : (ev : Event) (s : State) → History s.audit → latest s.audit ≤ ev.moment → History (happens ev s).audit
event-history ev s h later = entered-history ev s (entry_of ev s) h later refl

pub events-history : (events : List Event) (s : State) → History s.audit → AllFit events s → History (after events s).audit
events-history [] s h fits = h
events-history (ev ∷ events) s h fits = event-history ev (after events s) (events-history events s h fits.1) fits.0.later

-- ---- what was seen stays
pub entered-goes : (t : ℕ) (made : Option EntryKind) (audit : List AuditEntry) → GoesOn audit (entered t made audit)
entered-goes t None audit = ([], refl)
entered-goes t (Some kind) audit = (record { number = suc (length audit); moment = t; kind = kind } ∷ [], refl)

pub goes-on : (a b c : List AuditEntry) → GoesOn a b → GoesOn b c → GoesOn a c
goes-on a b c one two = (two.0 ++ one.0, two.1 ∙ ap (λ l. two.0 ++ l) one.1 ∙ sym (append_assoc two.0 one.0 a))

pub events-go-on : (events : List Event) (s : State) → GoesOn s.audit (after events s).audit
events-go-on [] s = ([], refl)
events-go-on (ev ∷ events) s = goes-on s.audit (after events s).audit (happens ev (after events s)).audit (events-go-on events s) (entered-goes ev.moment (entry_of ev (after events s)) (after events s).audit)
