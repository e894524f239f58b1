use Rattle.hb_http.proofs.ChunkLaws.{bad_body, never_body, whole_body}
use Rattle.hb_http.proofs.ChunkRuns.{run_body}
use Rattle.hb_http.proofs.laws.chunks_are_read.Goals as goal

pub returns : goal.returns
returns c = record {
  read = λ bytes content is. (let run = run_body bytes content is in (run.arrives, run.gives));
  whole = whole_body;
  bad = never_body;
  never = bad_body;
}
