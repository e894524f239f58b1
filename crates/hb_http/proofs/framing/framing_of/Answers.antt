use Rattle.std.proofs.Common.{⊎_elim}
use Rattle.hb_http.proofs.framing.framing_of.Goals as goal

pub returns-in-Unclear-clause-none : goal.returns-in-Unclear-clause-none
returns-in-Unclear-clause-none c = ⊎_elim
    (λ plain. c.in-Unclear.ensures plain.0 plain.1.each)
    (λ chunked. c.in-Unclear.ensures 0 (rw chunked.no_length tt))

pub returns-in-Unclear-length_said-clause-none : goal.returns-in-Unclear-length_said-clause-none
returns-in-Unclear-length_said-clause-none c = ⊎_elim
    (λ plain. c.in-Unclear-length_said.ensures plain.0 plain.1.each)
    (λ chunked. c.in-Unclear-length_said.ensures 0 (rw chunked.no_length tt))
