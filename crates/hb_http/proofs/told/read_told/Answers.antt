use Rattle.std.proofs.Common.{refl}
use Rattle.hb_http.proofs.PartLemmas.{unframed_bad}
use Rattle.hb_http.proofs.told.read_told.Goals as goal

pub returns-in-None-clause-bad : goal.returns-in-None-clause-bad
returns-in-None-clause-bad c = λ _. unframed_bad c.args.bytes.now _ c.in-Head.head (c.in-Head.ensures.head c.in-Head.head refl) c.in-None.ensures.none

pub returns-in-TooLong-clause-long : goal.returns-in-TooLong-clause-long
returns-in-TooLong-clause-long c = λ _. c.in-TooLong.ensures.long refl
