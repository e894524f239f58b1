-- What was found in rows that are told.
use Rattle.std.proofs.Common.{◌≡◌, ◌≤◌, ℕ, List, Option, Some, None, Result, Ok, Err, IfSome, IfOk, IsTrue, subst, sym}
use Rattle.hb_records.specs.declared.notes.Placement.{Placement}
use Rattle.hb_rows.specs.Tables.{Tables}
use Rattle.hb_keeper.specs.Keeps.{Reads}
use Rattle.hb_keeper.specs.declared.keeper.KeepFault.{KeepFault}
use Rattle.hb_desk.specs.Calls.{Asked}
use Rattle.hb_desk.specs.declared.asks.Ask.{Ask}
use Rattle.hb_desk.specs.declared.refusals.Refusal.{Refusal}
use Rattle.hb_desk.specs.declared.refusals.Refusal.TheVariants.{Keeper, Storage, Spent}
use Rattle.hb_plan.specs.Plans.{PlanCause, PlanFits, Plans, PlansAnyhow, is_own}
use Rattle.hb_plan.specs.RowReplies.{row_reply}
use Rattle.hb_plan.specs.declared.planned.Planned.{Planned}

-- two findings in the same rows
pub found-both : {T : Type 0} (P Q R : T → Type 0) (x y : Option T) → y ≡ x → IfSome x P → IfSome y Q → ((t : T) → P t → Q t → R t) → IfSome x R
found-both P Q R None y same p q h = tt
found-both P Q R (Some t) y same p q h = h t p (subst (λ z. IfSome z Q) same q)

-- one finding
pub found-one : {T : Type 0} (P R : T → Type 0) (x : Option T) → IfSome x P → ((t : T) → P t → R t) → IfSome x R
found-one P R None p h = tt
found-one P R (Some t) p h = h t p

-- what a read found
pub read-ok : {A : Type 0} (rows : Option Tables) (tell : Tables → A) (result : Result A KeepFault) (x : A) → Reads rows result tell → result ≡ Ok x → IfSome rows (λ t. x ≡ tell t)
read-ok None tell result x h is = tt
read-ok (Some t) tell result x h is = subst (λ z. IfOk z (λ a. a ≡ tell t)) is h

-- a plan that reads no note
pub with-notes : (rows : Option Tables) (placements : List Placement) (n t : ℕ) (result : Result Planned Refusal) (asked ask : Ask) → asked ≡ ask → PlansAnyhow rows ask n t result → Plans rows placements asked n t result
with-notes None placements n t result asked ask is h = tt
with-notes (Some r) placements n t result asked ask is h = λ number notes same. subst (λ x. PlanFits (row_reply (Asked x) r notes) r n t result) (sym is) (h number notes)

-- a plan's own refusal has its cause
pub own-cause : {T : Type 0} (n before now : ℕ) (refusal : Refusal) → before ≤ now → IsTrue (is_own n refusal) → PlanCause {T = T} n before now (Err refusal)
own-cause n before now refusal later own = record {
  later = later;
  keeper = λ e. let is : refusal ≡ Keeper = cc in let no = subst (λ x. IsTrue (is_own n x)) is own in cc;
  storage = λ e. let is : refusal ≡ Storage = cc in let no = subst (λ x. IsTrue (is_own n x)) is own in cc;
  spent = λ e. let is : refusal ≡ Spent = cc in subst (λ x. IsTrue (is_own n x)) is own;
}
