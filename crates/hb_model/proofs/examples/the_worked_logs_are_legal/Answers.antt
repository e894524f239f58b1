use Rattle.std.proofs.Common.{rules}
use Rattle.hb_model.proofs.ExampleTurns.{not-first, immutable-turn, changed-turn, dropped-turn, retained-done, short-immutable, short-dropped}
use Rattle.hb_model.proofs.ExampleVerdicts.{out_of_window-done, after_mark-done, failed-done, stopped-done, stopped-done_again, raced-done, adopted-done}
use Rattle.hb_model.proofs.examples.the_worked_logs_are_legal.Goals as goal

pub returns-clause-collected : goal.returns-clause-collected
returns-clause-collected c = search (rules, out_of_window-done)

pub returns-clause-after_mark : goal.returns-clause-after_mark
returns-clause-after_mark c = search (rules, after_mark-done)

pub returns-clause-failed : goal.returns-clause-failed
returns-clause-failed c = search (rules, failed-done)

pub returns-clause-stopped : goal.returns-clause-stopped
returns-clause-stopped c = search (rules, stopped-done, stopped-done_again)

pub returns-clause-raced : goal.returns-clause-raced
returns-clause-raced c = search (rules, raced-done)

pub returns-clause-retained : goal.returns-clause-retained
returns-clause-retained c = search (rules, not-first, immutable-turn, changed-turn, dropped-turn, retained-done)

pub returns-clause-adopted : goal.returns-clause-adopted
returns-clause-adopted c = search (rules, adopted-done)

pub returns-clause-shortly_retained : goal.returns-clause-shortly_retained
returns-clause-shortly_retained c = search (rules, not-first, short-immutable, short-dropped)
