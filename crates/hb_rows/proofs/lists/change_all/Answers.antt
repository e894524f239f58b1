use Rattle.std.proofs.Common.{◌+◌, reverse, vec_len, arith, ap, sym, ◌∙◌}
use Rattle.hb_rows.specs.Batches.{after_changes}
use Rattle.hb_rows.specs.Lists.{tables_of}
use Rattle.hb_rows.proofs.Room.{HasRoom-fewer}
use Rattle.hb_rows.proofs.ChangeOrder.{last_change}
use Rattle.hb_rows.proofs.lists.change_all.Goals as goal

pub loop-change-preserved : goal.loop-change-preserved
loop-change-preserved c =
    let rest = c.pop.new.self.items in
    record {
      left = ap (λ t. after_changes t (reverse rest)) c.change_one.ensures.tables ∙ sym (last_change (tables_of c.loop-change.lists) rest c.in-Some.change) ∙ ap (λ xs. after_changes (tables_of c.loop-change.lists) (reverse xs)) (sym c.in-Some.ensures.items) ∙ c.loop-change.invariant.left;
      room = c.change_one.ensures.room (vec_len c.pop.new.self + 1) (HasRoom-fewer _ _ _ (omega (arith, c.in-Some.ensures.len)) c.loop-change.invariant.room);
    }
