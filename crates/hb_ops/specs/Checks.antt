-- A check of a blob or of a manifest: the ask that it makes, and how it ends, read from its point alone.
use Rattle.std.specs.Prelude.{◌≡◌, ℕ, Bool, true, false, List, [], ◌∷◌, Option, Some, None, Ok, Err}
use Rattle.hb_desk.specs.Calls.{Asked, Outcome, Tells}
use Rattle.hb_desk.specs.Points.{Point}
use Rattle.hb_desk.specs.declared.asks.Ask.{Ask}
use Rattle.hb_desk.specs.declared.asks.Ask.TheVariants.{TouchBlob}
use Rattle.hb_desk.specs.declared.refusals.Refusal.TheVariants.{Memory}
use Rattle.hb_desk.specs.declared.told.Told.{Told}
use Rattle.hb_desk.specs.declared.told.Told.TheVariants as told
use Rattle.hb_ops.specs.declared.checks.Checked.{Checked}
use Rattle.hb_ops.specs.declared.checks.Checked.TheVariants.{Content, Refused}

-- ---- how it ends
-- a blob has the digest that was asked for
abbrev pub blob_as : Ask → ℕ → ℕ → Checked
blob_as (TouchBlob name d) size t = Content d size None
blob_as ask size t = Refused Memory t

-- By what the ask was told at this moment. No check is told anything else.
abbrev pub told_as : Ask → Told → ℕ → Checked
told_as ask (told.Blob size) t = blob_as ask size t
told_as ask (told.Look d size media) t = Content d size (Some media)
told_as ask x t = Refused Memory t

abbrev pub checked_as : Ask → Outcome → ℕ → Checked
checked_as ask (Ok (Tells x)) t = told_as ask x t
checked_as ask (Ok gave) t = Refused Memory t
checked_as ask (Err refusal) t = Refused refusal t

-- Its one event decides. Without one nothing is decided yet, and this value stands for that.
abbrev pub decided : Ask → List Point → Checked
decided ask [] = Refused Memory 0
decided ask (p ∷ points) = checked_as ask p.event.outcome p.event.moment

-- ---- its points
-- none yet, or that of its ask, by which it ended
abbrev pub LeadTo : Ask → Option Checked → List Point → Type 0
LeadTo ask None points = points ≡ []
LeadTo ask (Some x) points = (p : Point) × (points ≡ p ∷ []) × (p.event.call ≡ Asked ask) × (p.fault ≡ None) × (x ≡ checked_as ask p.event.outcome p.event.moment)

pub record CheckParts : Type 0 where
  pub ask : Ask
  pub ended : Option Checked

pub record Went (begun check : CheckParts) (points : List Point) : Type 0 where
  pub same : check.ask ≡ begun.ask
  pub lead : LeadTo check.ask check.ended points

-- ---- as it goes
abbrev pub is_ended : Option Checked → Bool
is_ended None = false
is_ended (Some x) = true

-- how many events are left
abbrev pub left_of : Option Checked → ℕ
left_of None = 1
left_of (Some x) = 0
