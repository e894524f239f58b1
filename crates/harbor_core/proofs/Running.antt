-- What a start leaves for a run.
use Rattle.std.proofs.Common.{◌≡◌, ◌≤◌, ◌<◌, ℕ, Bool, List, [], ◌∷◌, length, Option, Some, None, IfSome, option_map, get_or, refl, sym, ap, subst, ◌∙◌, arith}
use Rattle.hb_records.specs.declared.notes.Notes.{Notes}
use Rattle.hb_rows.specs.Tables.{Tables}
use Rattle.hb_model.specs.Whole.{no_notes}
use Rattle.hb_desk.specs.Clause.{View}
use Rattle.hb_desk.specs.Keeping.{state_of}
use Rattle.hb_desk.specs.State.{State}
use Rattle.hb_desk.specs.ClockedDesks.{clocked}
use Rattle.hb_desk.specs.declared.refusals.Refusal.{Refusal}
use Rattle.hb_world.specs.Starting.{IsMisfit, Refused, Started, opened_by, start_moment}
use Rattle.hb_world.specs.declared.world.StartFault.{StartFault}
use Rattle.hb_world.specs.declared.world.StartFault.TheVariants as start
use Rattle.hb_talk.specs.Talks.{Moment, Talked, now_of}
use Rattle.hb_talk.specs.declared.ends.TalkEnd.{TalkEnd}
use Rattle.hb_talk.specs.declared.ends.TalkEnd.TheVariants as talk
use Rattle.hb_model.proofs.FitLaws.{fits-apart}
use Rattle.harbor_core.specs.Runs.{OpenedOn, status_of, status_of_fault}

pub one_item : {A : Type 0} (xs : List A) (x : A) → 1 ≤ length xs → length xs < 2 → x ≡ get_or xs 0 x → xs ≡ x ∷ []
one_item [] x some few is = absurd (omega arith)
one_item (y ∷ []) x some few is = ap (λ y. y ∷ []) (sym is)
one_item (y ∷ z ∷ xs) x some few is = absurd (omega arith)

-- a world doesn't start on rows that don't fit
pub started-fits : (rows : Option Tables) (now : ℕ) (opened : Option Tables) (moment : ℕ) → Started rows now opened moment → IsMisfit rows → ⊥
started-fits None now opened moment started misfit = misfit
started-fits (Some t) now opened moment started misfit = fits-apart t misfit.0 started.0 misfit.1

-- it opens on those that do
pub opened-on : (readings : Option (ℕ → ℕ)) (rows opened : Option Tables) (now moment : ℕ) (notes : Notes) (v : View) → IfSome readings (λ reading. now ≡ reading 0) → Started rows now opened moment → notes ≡ no_notes → v.state ≡ option_map (λ r. state_of r notes) opened → IfSome rows (λ t. OpenedOn readings t v)
opened-on readings None opened now moment notes v reads started fresh is = tt
opened-on readings (Some t) opened now moment notes v reads started fresh is = record {
  fits = started.0;
  moment = start_moment t now;
  at = at readings reads;
  later = omega (arith);
  state = is ∙ ap (option_map (λ r. state_of r notes)) started.1 ∙ ap (λ n. Some (state_of (opened_by t.audit (start_moment t now) t) n)) fresh;
}
  where
    at : (readings : Option (ℕ → ℕ)) → IfSome readings (λ reading. now ≡ reading 0) → IfSome readings (λ reading. start_moment t now ≡ start_moment t (reading 0))
    at None reads = tt
    at (Some reading) reads = ap (start_moment t) reads

-- a talk begins at the clock that the start left
pub talked-from : (Streams : Option Refusal → Type 0) (opened : View) (left_by from : Option (ℕ → ℕ)) (left : Option (List ℕ)) (ended : Bool) (held : Option (List ℕ)) (now : Moment) (end : TalkEnd) → left_by ≡ from → Talked Streams (now_of (clocked opened left_by) left ended held) now end → Talked Streams (now_of (clocked opened from) left ended held) now end
talked-from Streams opened left_by from left ended held now end is h = subst (λ readings. Talked Streams (now_of (clocked opened readings) left ended held) now end) is h

-- the rows that are left are those of the state that was told last
pub left-rows : (rows : Option Tables) (notes : Notes) (state : Option State) → state ≡ option_map (λ r. state_of r notes) rows → IfSome rows (λ r. (n : Notes) × (state ≡ Some (state_of r n)))
left-rows None notes state is = tt
left-rows (Some r) notes state is = (notes, is)

-- ---- the exit status of rows that don't fit
-- no end of a talk has it
pub talked-fits : (end : TalkEnd) → status_of end ≡ 8 → ⊥
talked-fits talk.Closed is = cc is
talked-fits talk.Cut is = cc is
talked-fits talk.Bad is = cc is
talked-fits talk.Long is = cc is
talked-fits talk.ReadFault is = cc is
talked-fits talk.WriteFault is = cc is
talked-fits talk.Memory is = cc is

-- a start that has it was refused for such rows
pub refused-misfit : (rows after : Option Tables) (before now : ℕ) (fault : StartFault) → Refused rows before fault after now → status_of_fault fault ≡ 8 → IfSome rows (λ t. IsMisfit (Some t))
refused-misfit None after before now fault refused is = tt
refused-misfit (Some t) after before now (start.Misfit m) refused is = (m, refused.misfit m refl)
refused-misfit (Some t) after before now start.Failed refused is = cc is
refused-misfit (Some t) after before now start.Memory refused is = cc is
