use Rattle.hb_base.proofs.Places.{with_row-set, with_row-insert}
use Rattle.hb_base.proofs.laws.places_tell_where_rows_go.Goals as goal

pub returns : goal.returns
returns g c = λ order. record { over = with_row-set order; between = with_row-insert order }
