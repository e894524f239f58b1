use Rattle.hb_plan.proofs.BuiltEntries.{entry-built}
use Rattle.hb_plan.proofs.laws.built_entries_stay.Goals as goal

pub returns : goal.returns
returns c = entry-built
