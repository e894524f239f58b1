use Rattle.hb_plan.proofs.ProjectVersions.{row-version}
use Rattle.hb_plan.proofs.laws.a_row_has_the_version_of_its_project.Goals as goal

pub returns : goal.returns
returns c = row-version
