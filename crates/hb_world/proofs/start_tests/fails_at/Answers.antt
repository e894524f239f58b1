use Rattle.std.proofs.Common.{Some, sym, subst}
use Rattle.hb_store.specs.MemStores.{contents_of}
use Rattle.hb_world.specs.Starting.{CanStart}
use Rattle.hb_world.proofs.start_tests.fails_at.Goals as goal

pub started-requires : goal.started-requires
started-requires c =
    let refused = c.in-Err.refused in
    subst (λ rows. CanStart rows (Some (contents_of refused.store))) (sym c.in-Err.ensures.refused.same)
    (subst (λ store. CanStart (Some c.in_ok-keeper.keeper.rows) (Some (contents_of store))) (sym c.in-Err.ensures.kept) c.in_ok-keeper.ensures)
