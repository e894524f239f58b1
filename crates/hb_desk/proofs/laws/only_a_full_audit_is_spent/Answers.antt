use Rattle.hb_desk.proofs.Chains.{chain-spent}
use Rattle.hb_desk.proofs.laws.only_a_full_audit_is_spent.Goals as goal

pub returns : goal.returns
returns c = chain-spent
