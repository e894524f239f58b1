use Rattle.hb_base.proofs.TableLaws.{same_rows}
use Rattle.hb_base.proofs.laws.lookups_tell_the_table.Goals as goal

pub returns : goal.returns
returns g c = λ compare key o. same_rows o key
