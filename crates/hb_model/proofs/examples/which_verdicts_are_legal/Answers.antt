use Rattle.std.proofs.Common.{rules}
use Rattle.hb_model.proofs.ExampleVerdicts.{undecided}
use Rattle.hb_model.proofs.examples.which_verdicts_are_legal.Goals as goal

pub returns-clause-undecided : goal.returns-clause-undecided
returns-clause-undecided c = search (rules, undecided)
