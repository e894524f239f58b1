use Rattle.std.proofs.Common.{ap, cond, ◌∙◌, ◌++◌, None, codes}
use Rattle.hb_routes.specs.Resources.{control_named}
use Rattle.hb_routes.proofs.Controls.{project-named, rules-named, job-named}
use Rattle.hb_routes.proofs.laws.control_paths_are_read.Goals as goal

pub returns-clause-project : goal.returns-clause-project
returns-clause-project c = λ name part text. ap (λ t. cond t (control_named (codes "/harbor/projects/" ++ name)) None) text ∙ project-named name part

pub returns-clause-rules : goal.returns-clause-rules
returns-clause-rules c = λ name part text. ap (λ t. cond t (control_named (codes "/harbor/projects/" ++ (name ++ codes "/rules"))) None) text ∙ rules-named name part

pub returns-clause-job : goal.returns-clause-job
returns-clause-job c = λ id part text. ap (λ t. cond t (control_named (codes "/harbor/jobs/" ++ id)) None) text ∙ job-named id part
