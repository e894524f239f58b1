use Rattle.std.proofs.Common.{false, rules}
use Rattle.hb_store.specs.Contents.{at_moment}
use Rattle.hb_store.specs.MemStores.{contents_of}
use Rattle.hb_store.proofs.Moments.{Finds-at_moment}
use Rattle.hb_store.proofs.mem_store.MemStoreStore.place.Goals as goal

pub returns-then-begin-clause-contents : goal.returns-then-begin-clause-contents
returns-then-begin-clause-contents c = (at_moment c.args.now (contents_of c.args.self.now), Finds-at_moment _ _, (false, false, search rules))

pub returns-in_err-count_placed-clause-contents : goal.returns-in_err-count_placed-clause-contents
returns-in_err-count_placed-clause-contents c = (at_moment c.args.now (contents_of c.args.self.now), Finds-at_moment _ _, search rules)

pub returns-in_err-hold-clause-contents : goal.returns-in_err-hold-clause-contents
returns-in_err-hold-clause-contents c = (at_moment c.args.now (contents_of c.args.self.now), Finds-at_moment _ _, search rules)

pub returns-clause-contents : goal.returns-clause-contents
returns-clause-contents c = (at_moment c.args.now (contents_of c.args.self.now), Finds-at_moment _ _, search rules)
