use Rattle.std.proofs.Common.{◌≡◌, ◌++◌, sym}
use Rattle.hb_rows.specs.Tables.{pair_at, blob_at}
use Rattle.hb_model.specs.ContentChanges.{touch_changes}
use Rattle.hb_plan.proofs.Findings.{found-both}
use Rattle.hb_plan.proofs.finding.touch_one.Goals as goal

pub returns-clause-told : goal.returns-clause-told
returns-clause-told g c = found-both
    (λ t. c.in_ok-pair.pair ≡ pair_at t c.args.project.now c.args.digest.now)
    (λ t. c.in_ok-blob.blob ≡ blob_at t c.args.digest.now)
    (λ t. c.touch_found.new.made ≡ c.args.made.now ++ touch_changes c.args.stamp.number c.args.stamp.moment c.args.project.now t c.args.digest.now)
    _ _ c.pair.ensures.rows c.in_ok-pair.ensures.told c.in_ok-blob.ensures.told (λ t p b. c.in_ok-touch_found.ensures t c.args.project.now c.args.digest.now (sym p) (sym b))
