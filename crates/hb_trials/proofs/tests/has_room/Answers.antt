use Rattle.std.proofs.Common.{◌<◌, ◌+◌, ◌^◌, IfSome, sym, subst}
use Rattle.hb_rows.specs.Tables.{project_at}
use Rattle.hb_model.specs.Built.{HasRoom}
use Rattle.hb_trials.proofs.tests.has_room.Goals as goal

pub returns-in-Associated : goal.returns-in-Associated
returns-in-Associated c = λ yes. subst (HasRoom c.args.rows.now) (sym c.in-Associated.is) (subst (λ x. IfSome x (λ r. r.used + c.in-Associated.size < 2 ^ 128)) c.project.ensures (c.takes.ensures yes))

pub returns-in_ok-project-in-ArtifactPut : goal.returns-in_ok-project-in-ArtifactPut
returns-in_ok-project-in-ArtifactPut c = λ yes.
    subst (HasRoom c.args.rows.now) (sym c.in-ArtifactPut.is)
    (subst (λ p. IfSome (project_at c.args.rows.now p) (λ r. r.used + c.in-ArtifactPut.size < 2 ^ 128)) c.in_ok-project-in-ArtifactPut.ensures
    (subst (λ x. IfSome x (λ r. r.used + c.in-ArtifactPut.size < 2 ^ 128)) c.project-in-ArtifactPut-2.ensures (c.takes-in-ArtifactPut.ensures yes)))
