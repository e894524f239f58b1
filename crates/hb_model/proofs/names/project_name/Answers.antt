use Rattle.std.proofs.Common.{◌∙◌, ap, sym, subst, Err}
use Rattle.hb_text.specs.Names.{IsProjectName}
use Rattle.hb_model.proofs.ProjectNames.{project-name}
use Rattle.hb_model.proofs.names.project_name.Goals as goal

pub unreachable-requires : goal.unreachable-requires
unreachable-requires c = c.read.ensures.invalid (c.in-Err-Invalid.is ∙ ap Err c.in-Err-Invalid.field-0-is) (subst IsProjectName (sym c.project.ensures) (project-name c.args.name.now c.bytes-valid.ensures.valid))
