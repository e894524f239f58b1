use Rattle.std.proofs.Common.{◌≡◌, IfSome, subst}
use Rattle.hb_model.specs.Changes.{changes_of}
use Rattle.hb_model.proofs.Remaking.{adds-entry}
use Rattle.hb_model.proofs.fitting.add_entry.Goals as goal

pub returns-clause-made : goal.returns-clause-made
returns-clause-made c = λ _. adds-entry c.args.made.now c.apply.new.self _ c.args.entry.now c.in_ok-copy.ensures c.keys_rise.ensures c.requires.newest (subst (λ x. IfSome x (λ made. made ≡ changes_of c.args.made.now c.args.entry.now)) c.in-Some.is c.in_ok-changes.ensures.changes) c.in_ok-apply.ensures.ok
