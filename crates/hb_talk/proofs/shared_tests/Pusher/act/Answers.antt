use Rattle.hb_talk.proofs.shared_tests.Pusher.act.Goals as goal

pub returns-then-self-gt0 : goal.returns-then-self-gt0
returns-then-self-gt0 g c = c.rests.ensures c.args.own.now

pub returns-in-Begin : goal.returns-in-Begin
returns-in-Begin g c = c.begin.ensures c.args.own.now

pub returns-in-Settle : goal.returns-in-Settle
returns-in-Settle g c = c.settle.ensures c.args.own.now

pub returns-in-Nothing : goal.returns-in-Nothing
returns-in-Nothing g c = c.rests-in-Nothing.ensures c.args.own.now
