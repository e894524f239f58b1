use Rattle.hb_desk.specs.Calls.{Asked}
use Rattle.hb_desk.proofs.Interleave.{one-between}
use Rattle.hb_talk.proofs.shared_tests.asks.Goals as goal

pub returns : goal.returns
returns g c = λ own. one-between own _ _ c.args.now (Asked c.args.ask.now) _ (λ u x mine. c.requires.unsealing u _) (c.requires.unspent _) (c.requires.unspent _) c.ask.ensures.event c.ask.ensures.causes
