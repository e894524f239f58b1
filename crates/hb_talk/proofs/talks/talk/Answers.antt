use Rattle.std.proofs.Common.{ap}
use Rattle.hb_talk.specs.Progress.{TalkParts}
use Rattle.hb_talk.proofs.Talking.{memory-at-once, progress-start}
use Rattle.hb_talk.proofs.talks.talk.Goals as goal

pub returns-in_default-clause-talk : goal.returns-in_default-clause-talk
returns-in_default-clause-talk g c = memory-at-once _ _

pub returns-clause-talk : goal.returns-clause-talk
returns-clause-talk g c = c.turns-end.ensures.talk _
    (progress-start _ _ c.in-Ok.connection (ap (λ (t : TalkParts). t.standing) c.in-Ok.ensures) (ap (λ (t : TalkParts). t.coming) c.in-Ok.ensures) (ap (λ (t : TalkParts). t.taken) c.in-Ok.ensures))
