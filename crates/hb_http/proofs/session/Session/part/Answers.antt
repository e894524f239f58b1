use Rattle.hb_http.proofs.PartsRead.{reads_on}
use Rattle.hb_http.proofs.session.Session.part.Goals as goal

pub returns-clause-reads : goal.returns-clause-reads
returns-clause-reads c = λ done now taken read. reads_on done now taken c.args.self.now _ _ c.next_part.ensures read
