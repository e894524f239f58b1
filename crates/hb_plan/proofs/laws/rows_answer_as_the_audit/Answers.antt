use Rattle.hb_plan.proofs.RowAnswers.{rows-answer}
use Rattle.hb_plan.proofs.laws.rows_answer_as_the_audit.Goals as goal

pub returns : goal.returns
returns c = rows-answer
