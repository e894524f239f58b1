use Rattle.std.proofs.Common.{◌+◌, arith}
use Rattle.hb_rows.proofs.Room.{HasRoom-fewer}
use Rattle.hb_rows.proofs.lists.change_one.Goals as goal

pub returns-in-Drop-clause-room : goal.returns-in-Drop-clause-room
returns-in-Drop-clause-room c = λ n h. c.drop_row.ensures.room n (HasRoom-fewer (n + 1) n _ (omega arith) h)
