use Rattle.hb_base.proofs.TableLaws.{Rises-with, Rises-without}
use Rattle.hb_base.proofs.laws.keys_still_rise.Goals as goal

pub returns-clause-set : goal.returns-clause-set
returns-clause-set g c = λ compare key o. Rises-with o key

pub returns-clause-dropped : goal.returns-clause-dropped
returns-clause-dropped g c = λ compare key o. Rises-without o key
