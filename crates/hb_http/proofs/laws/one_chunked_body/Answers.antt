use Rattle.hb_http.proofs.ChunkLaws.{no_front, one_content}
use Rattle.hb_http.proofs.laws.one_chunked_body.Goals as goal

pub returns : goal.returns
returns c = record { front = no_front; content = one_content }
