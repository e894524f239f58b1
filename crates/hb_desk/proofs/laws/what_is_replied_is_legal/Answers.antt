use Rattle.hb_desk.proofs.LegalReplies.{reply-legal}
use Rattle.hb_desk.proofs.laws.what_is_replied_is_legal.Goals as goal

pub returns : goal.returns
returns c = reply-legal
