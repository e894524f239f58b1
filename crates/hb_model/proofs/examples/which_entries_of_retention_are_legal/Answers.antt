use Rattle.std.proofs.Common.{rules}
use Rattle.hb_model.proofs.ExampleTurns.{not-first, immutable-turn, changed-turn, dropped-turn}
use Rattle.hb_model.proofs.examples.which_entries_of_retention_are_legal.Goals as goal

pub returns-clause-immutable : goal.returns-clause-immutable
returns-clause-immutable c = search (rules, not-first, immutable-turn)

pub returns-clause-changed : goal.returns-clause-changed
returns-clause-changed c = search (rules, not-first, changed-turn)

pub returns-clause-dropped : goal.returns-clause-dropped
returns-clause-dropped c = search (rules, not-first, dropped-turn)
