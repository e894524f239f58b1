use Rattle.hb_base.proofs.TableLaws.{row_at-with, row_at-without}
use Rattle.hb_base.proofs.laws.changes_are_found.Goals as goal

pub returns-clause-set : goal.returns-clause-set
returns-clause-set g c = λ compare key o. row_at-with o key

pub returns-clause-dropped : goal.returns-clause-dropped
returns-clause-dropped g c = λ compare key o. row_at-without o key
