use Rattle.std.proofs.Common.{refl, ◌∙◌, codes}
use Rattle.std.proofs.lemmas.Result.{err_from_is_err_and}
use Rattle.matchit.proofs.OnLiterals.{matchit_on_literals}
use Rattle.hb_routes.specs.declared.control_paths.Control.TheVariants.{Project, Rules, Jobs, Job}
use Rattle.hb_routes.proofs.Inserting.{fails-for-memory}
use Rattle.hb_routes.proofs.control_paths.control_matcher.Goals as goal

pub returns-clause-rows : goal.returns-clause-rows
unfolding matchit_on_literals
returns-clause-rows c =
    let a = c.in_ok-insert.ensures in
    let b = c.in_ok-insert-2.ensures in
    let d = c.in_ok-insert-3.ensures in
    let e = c.in_ok-insert-4.ensures in
    rw (d.1, b.1, a.1, c.new-matcher.ensures) at e.1

pub returns-in_err-insert-clause-memory : goal.returns-in_err-insert-clause-memory
unfolding matchit_on_literals
returns-in_err-insert-clause-memory c =
    let p = err_from_is_err_and c.from_residual.result c.from_residual.ensures.1 in
    rw p.1 (p.2 ∙ fails-for-memory (codes "/harbor/projects/{name}") Project _ c.new-matcher.ensures refl c.in_err-insert.ensures)

pub returns-in_err-insert-2-clause-memory : goal.returns-in_err-insert-2-clause-memory
unfolding matchit_on_literals
returns-in_err-insert-2-clause-memory c =
    let a = c.in_ok-insert.ensures in
    let rows = rw c.new-matcher.ensures at a.1 in
    let p = err_from_is_err_and c.from_residual-in_err-insert-2.result c.from_residual-in_err-insert-2.ensures.1 in
    rw p.1 (p.2 ∙ fails-for-memory (codes "/harbor/projects/{name}/rules") Rules _ rows refl c.in_err-insert-2.ensures)

pub returns-in_err-insert-3-clause-memory : goal.returns-in_err-insert-3-clause-memory
unfolding matchit_on_literals
returns-in_err-insert-3-clause-memory c =
    let a = c.in_ok-insert.ensures in
    let b = c.in_ok-insert-2.ensures in
    let rows = rw (a.1, c.new-matcher.ensures) at b.1 in
    let p = err_from_is_err_and c.from_residual-in_err-insert-3.result c.from_residual-in_err-insert-3.ensures.1 in
    rw p.1 (p.2 ∙ fails-for-memory (codes "/harbor/jobs") Jobs _ rows refl c.in_err-insert-3.ensures)

pub returns-in_err-insert-4-clause-memory : goal.returns-in_err-insert-4-clause-memory
unfolding matchit_on_literals
returns-in_err-insert-4-clause-memory c =
    let a = c.in_ok-insert.ensures in
    let b = c.in_ok-insert-2.ensures in
    let d = c.in_ok-insert-3.ensures in
    let rows = rw (b.1, a.1, c.new-matcher.ensures) at d.1 in
    let p = err_from_is_err_and c.from_residual-in_err-insert-4.result c.from_residual-in_err-insert-4.ensures.1 in
    rw p.1 (p.2 ∙ fails-for-memory (codes "/harbor/jobs/{job}") Job _ rows refl c.in_err-insert-4.ensures)
