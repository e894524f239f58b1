use Rattle.std.proofs.Common.{◌∙◌, ap, sym, take}
use Rattle.hb_http.proofs.PartLemmas.{bad_chunked, ends_chunked, lines_read}
use Rattle.hb_http.proofs.session.Session.part_chunked.Goals as goal

pub returns-in-Over : goal.returns-in-Over
returns-in-Over c = ends_chunked c.args.self.now _ c.args.place _ c.requires.at
    (lines_read c.args.place _ c.args.self.now.waiting _ _ (ap (take c.read_lines-lines.result.0) c.waiting.ensures) (sym c.in-Over.is ∙ c.read_lines-lines.ensures.value) c.read_lines-lines.ensures.lines) c.go_on.ensures

pub returns-in-Bad : goal.returns-in-Bad
returns-in-Bad c = (
  bad_chunked c.args.self.now c.args.place _ c.requires.at
      (lines_read c.args.place _ c.args.self.now.waiting _ _ (ap (take c.read_lines-lines.result.0) c.waiting.ensures) (sym c.in-Bad.is ∙ c.read_lines-lines.ensures.value) c.read_lines-lines.ensures.lines),
  c.stay.ensures,
)
