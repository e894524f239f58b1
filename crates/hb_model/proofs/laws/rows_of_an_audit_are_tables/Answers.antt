use Rattle.hb_model.proofs.Batches.{rows-tables}
use Rattle.hb_model.proofs.laws.rows_of_an_audit_are_tables.Goals as goal

pub returns : goal.returns
returns c = rows-tables
