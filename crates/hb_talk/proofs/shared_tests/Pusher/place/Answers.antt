use Rattle.std.proofs.Common.{◌∙◌, sym}
use Rattle.hb_desk.proofs.Interleave.{between-more}
use Rattle.hb_talk.proofs.Sharing.{none-sealed}
use Rattle.hb_talk.proofs.shared_tests.Pusher.place.Goals as goal

pub returns-then-is_among : goal.returns-then-is_among
returns-then-is_among g c = c.rests.ensures c.args.own.now

pub returns-in_default : goal.returns-in_default
returns-in_default g c = c.rests.ensures c.args.own.now

pub returns-in_default-staged : goal.returns-in_default-staged
returns-in_default-staged g c = c.staged.ensures.between c.args.own.now

pub returns-then-is_ok : goal.returns-then-is_ok
returns-then-is_ok g c = between-more _ _ _ _ (c.staged.ensures.between c.args.own.now) (c.seal_and_place.ensures c.args.own.now (none-sealed c.args.self.now.upload c.args.own.now (sym c.is_among.ensures ∙ c.if-is_among.false)))

pub returns : goal.returns
returns g c = between-more _ _ _ _ (c.staged.ensures.between c.args.own.now) (c.seal_and_place.ensures c.args.own.now (none-sealed c.args.self.now.upload c.args.own.now (sym c.is_among.ensures ∙ c.if-is_among.false)))
