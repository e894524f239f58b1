use Rattle.std.proofs.Common.{subst}
use Rattle.hb_model.specs.Remaking.{Remakes}
use Rattle.hb_model.proofs.Remaking.{told}
use Rattle.hb_model.proofs.fitting.fit.Goals as goal

pub returns-in-Rows : goal.returns-in-Rows
returns-in-Rows c =
    let made = subst (Remakes c.args.rows.now) c.in-Rows.is c.in_ok-place.ensures in
    told c.args.rows.now c.in-Rows.made c.first_misfit.result made.0 made.1 c.first_misfit.ensures.none c.first_misfit.ensures.some
