use Rattle.hb_history.proofs.VersionSteps.{versions-rest}
use Rattle.hb_history.proofs.versions.versions_never_come_back.Goals as goal

pub returns : goal.returns
returns c = versions-rest
