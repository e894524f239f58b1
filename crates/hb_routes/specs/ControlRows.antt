-- The patterns of control paths as `matchit` keeps them: the rows of its router, in its own order.
use Rattle.std.specs.Prelude.{ℕ, List, [], ◌∷◌, ◌++◌, codes}
use Rattle.matchit.specs.Rows.{RowsOf, param_token}
use Rattle.matchit.specs.Router.{RouteOf}
use Rattle.hb_routes.specs.declared.control_paths.Control.{Control}
use Rattle.hb_routes.specs.declared.control_paths.Control.TheVariants.{Project, Rules, Jobs, Job}

-- a pattern, the text that it was read from, where in this its parameter's name stands, and its value
abbrev pub row : List ℕ → List ℕ → List (ℕ × ℕ) → Control → List ℕ × RouteOf Control
row pattern text names value = (pattern, record { pattern = pattern; text = text; names = names; value = value })

abbrev pub control_rows : RowsOf (RouteOf Control)
control_rows =
    row (codes "/harbor/jobs/" ++ param_token ∷ []) (codes "/harbor/jobs/{job}") ((14, 17) ∷ []) Job
    ∷ row (codes "/harbor/jobs") (codes "/harbor/jobs") [] Jobs
    ∷ row (codes "/harbor/projects/" ++ param_token ∷ codes "/rules") (codes "/harbor/projects/{name}/rules") ((18, 22) ∷ []) Rules
    ∷ row (codes "/harbor/projects/" ++ param_token ∷ []) (codes "/harbor/projects/{name}") ((18, 22) ∷ []) Project
    ∷ []
