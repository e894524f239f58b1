use Rattle.std.proofs.Common.{◌≡◌, subst}
use Rattle.hb_model.specs.Fit.{Tells}
use Rattle.hb_model.specs.declared.misfits.Misfit.{Misfit}
use Rattle.hb_world.specs.declared.world.StartFault.TheVariants as fault
use Rattle.hb_world.proofs.StartSteps.{told-misfit}
use Rattle.hb_world.proofs.starting.fitting_rows.Goals as goal

same_misfit : (m n : Misfit) → fault.Misfit m ≡ fault.Misfit n → m ≡ n
same_misfit m n e = cc

pub returns-in-Some-clause-refused : goal.returns-in-Some-clause-refused
returns-in-Some-clause-refused g c = record {
  same = c.read_rows.ensures.rows;
  later = c.read_rows.ensures.cause.later;
  misfit = λ m is. told-misfit (g.K.Keeper.rows c.args.keeper.now) c.in_ok-rows.rows c.in-Some.misfit m (subst (Tells c.in_ok-rows.rows) c.in-Some.is c.in_ok-misfit.ensures) c.in_ok-rows.ensures.told (same_misfit c.in-Some.misfit m is);
  failed = λ is. cc;
}
