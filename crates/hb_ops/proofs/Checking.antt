-- What its event makes of a check.
use Rattle.std.proofs.Common.{◌≡◌, false, List, [], ◌∷◌, Option, Some, None, ap}
use Rattle.hb_desk.specs.Calls.{Asked}
use Rattle.hb_desk.specs.Points.{Point}
use Rattle.hb_ops.specs.Checks.{CheckParts, LeadTo, Went, checked_as, is_ended}
use Rattle.hb_ops.specs.declared.checks.Checked.{Checked}

pub went-checked : (begun check : CheckParts) (p : Point) (x : Checked) (points : List Point) → is_ended check.ended ≡ false → p.event.call ≡ Asked check.ask → p.fault ≡ None → x ≡ checked_as check.ask p.event.outcome p.event.moment → Went begun check points → Went begun (record { ask = check.ask; ended = Some x }) (p ∷ points)
went-checked begun check p x points open_ call fault gives went = record {
  same = went.same;
  lead = (p, ap (λ points. p ∷ points) (none check.ended open_ went.lead), call, fault, gives);
}
  where
    none : (ended : Option Checked) → is_ended ended ≡ false → LeadTo check.ask ended points → points ≡ []
    none None open_ lead = lead
    none (Some x) open_ lead = cc open_
