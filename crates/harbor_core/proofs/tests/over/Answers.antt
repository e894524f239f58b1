use Rattle.std.proofs.Common.{inr}
use Rattle.harbor_core.proofs.tests.over.Goals as goal

pub run-ended-requires : goal.run-ended-requires
run-ended-requires c = record { can = inr c.requires }

pub returns : goal.returns
returns c = c.run-ended.ensures.rest c.requires
