use Rattle.std.proofs.Common.{false, rules}
use Rattle.hb_store.specs.Contents.{at_moment}
use Rattle.hb_store.specs.MemStores.{contents_of}
use Rattle.hb_store.proofs.Moments.{Finds-at_moment}
use Rattle.hb_store.proofs.Restaged.{Stages-with_row}
use Rattle.hb_store.proofs.mem_store.MemStoreStore.stage.Goals as goal

pub returns-then-begin-clause-contents : goal.returns-then-begin-clause-contents
returns-then-begin-clause-contents c = (at_moment c.args.now (contents_of c.args.self.now), Finds-at_moment _ _, (false, search rules))

pub returns-in_default-clause-contents : goal.returns-in_default-clause-contents
returns-in_default-clause-contents c = (at_moment c.args.now (contents_of c.args.self.now), Finds-at_moment _ _, (false, search rules))

pub returns-in_err-kept-clause-contents : goal.returns-in_err-kept-clause-contents
returns-in_err-kept-clause-contents c = (at_moment c.args.now (contents_of c.args.self.now), Finds-at_moment _ _, search rules)

pub returns-in_err-stage-clause-contents : goal.returns-in_err-stage-clause-contents
returns-in_err-stage-clause-contents c = (at_moment c.args.now (contents_of c.args.self.now), Finds-at_moment _ _, search rules)

pub returns-clause-contents : goal.returns-clause-contents
returns-clause-contents c = (at_moment c.args.now (contents_of c.args.self.now), Finds-at_moment _ _, search rules)

pub returns-clause-told : goal.returns-clause-told
returns-clause-told c = Stages-with_row c.args.id c.args.keep c.in_ok-stage.stage.bytes.items c.in_ok-kept.kept c.args.self.now.stages.items c.restage.new.stages.items c.in_ok-stage.ensures.ok c.in_ok-stage.ensures.stage.1 (search rules)
