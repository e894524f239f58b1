use Rattle.std.proofs.Common.{◌∙◌, ◌-◌, ap, length, min}
use Rattle.hb_http.specs.declared.TheConstants.{MAX_PIECE}
use Rattle.hb_http.proofs.PartLemmas.{gives_chunked}
use Rattle.hb_http.proofs.session.Session.chunk_data.Goals as goal

pub returns : goal.returns
returns c = gives_chunked c.args.self.now _ c.args.place _ c.args.lines c.args.left _ c.requires.at c.requires.reads
    (c.piece_len-count.ensures ∙ ap (λ n. min (min c.args.left MAX_PIECE) (n - c.args.lines)) (ap length c.waiting.ensures)) c.if-count-eq0.false c.after_data.ensures.value c.go_on.ensures
