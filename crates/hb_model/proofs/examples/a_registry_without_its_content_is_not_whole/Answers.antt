use Rattle.std.proofs.Common.{refl}
use Rattle.hb_model.specs.ExampleNames.{abc}
use Rattle.hb_model.proofs.examples.a_registry_without_its_content_is_not_whole.Goals as goal

pub returns-clause-whole : goal.returns-clause-whole
returns-clause-whole c = λ whole. (whole.present_kept abc refl).held
