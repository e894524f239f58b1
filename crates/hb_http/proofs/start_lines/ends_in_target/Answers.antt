use Rattle.std.proofs.Common.{sym, ◌∙◌}
use Rattle.hb_http.proofs.Targets.{is_there, ends_there}
use Rattle.hb_http.proofs.start_lines.ends_in_target.Goals as goal

pub returns : goal.returns
returns c = (λ t. is_there c.args.bytes.now (sym c.reach_of.ensures ∙ c.is_target.ensures.0 t), λ e. c.is_target.ensures.1 (c.reach_of.ensures ∙ ends_there c.args.bytes.now e))
