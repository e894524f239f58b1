use Rattle.std.proofs.Common.{Some, inr, sym, subst}
use Rattle.hb_store.specs.MemStores.{contents_of}
use Rattle.hb_world.specs.Starting.{IsAtRest}
use Rattle.harbor_core.proofs.tests.talk.Goals as goal

-- a new keeper has no row
pub run-ended-requires : goal.run-ended-requires
run-ended-requires c = record {
  can = inr (subst (λ rows. IsAtRest (Some rows) (Some (contents_of c.args.store))) (sym c.new-5.ensures.rows) c.requires);
}
