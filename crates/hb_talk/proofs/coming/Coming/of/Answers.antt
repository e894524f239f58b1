use Rattle.hb_talk.proofs.Wants.{comes-of}
use Rattle.hb_talk.proofs.coming.Coming.of.Goals as goal

pub returns : goal.returns
returns c = (c.new.ensures.items, λ h told. comes-of h c.args.head told c.in_ok-wanted.wanted c.is_bare-bare.result c.is_bare-bare.ensures c.in_ok-wanted.ensures)
