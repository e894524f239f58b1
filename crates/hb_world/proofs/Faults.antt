-- A fault is no answer.
use Rattle.std.proofs.Common.{◌≡◌, ◌⊎◌, true, false, Err, subst, sym, ◌∙◌, inl, inr}
use Rattle.hb_desk.specs.Clause.{is_fault}
use Rattle.hb_desk.specs.declared.refusals.Refusal.{Refusal}
use Rattle.hb_desk.specs.declared.refusals.Refusal.TheVariants.{Memory}

-- want of memory, or the fault of a device
pub no-answer : {A : Type 0} (device refusal : Refusal) → is_fault false (Err device) ≡ true → (refusal ≡ Memory) ⊎ (refusal ≡ device) → is_fault false (Err refusal) ≡ false → A
no-answer device refusal faulty (inl memory) h = absurd (subst (λ x. is_fault false (Err x) ≡ false → ⊥) (sym memory) (λ e. cc e) h)
no-answer device refusal faulty (inr is) h = absurd (subst (λ x. is_fault false (Err x) ≡ false → ⊥) (sym is) (λ e. let both : true ≡ false = sym faulty ∙ e in cc both) h)
