use Rattle.hb_upload.proofs.Leads.{ended-decided}
use Rattle.hb_upload.proofs.push.Push.into_end.Goals as goal

pub returns-in-Ended-clause-decided : goal.returns-in-Ended-clause-decided
returns-in-Ended-clause-decided g c = rw (← c.self.view_is) (λ begun points went. ended-decided begun _ _ points c.in-Ended.is went)
