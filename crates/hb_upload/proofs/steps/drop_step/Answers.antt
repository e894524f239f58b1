use Rattle.std.proofs.Common.{None, refl}
use Rattle.hb_desk.specs.Calls.{Dropped, plain}
use Rattle.hb_upload.specs.Places.{Dropping}
use Rattle.hb_upload.proofs.Leads.{one-event}
use Rattle.hb_upload.proofs.steps.drop_step.Goals as goal

pub returns-clause-event : goal.returns-clause-event
returns-clause-event g c = λ b. one-event _ b (g.D.Desk.view c.args.desk.now) (g.D.Desk.view c.drop_stage-dropped.new.self) c.args.now _ _ (plain (λ _. Dropped) c.drop_stage-dropped.result) None (Dropping c.args.upload c.args.stop) _ refl c.drop_stage-dropped.ensures.event c.drop_stage-dropped.ensures.causes tt refl
