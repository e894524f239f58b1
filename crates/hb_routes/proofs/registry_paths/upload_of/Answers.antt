use Rattle.std.proofs.Common.{true, false, sym, ◌∙◌, codes}
use Rattle.hb_routes.proofs.Endings.{uploads-named, upload-named, no-upload-named}
use Rattle.hb_routes.proofs.Comparisons.{other-said, empty-length}
use Rattle.hb_routes.proofs.registry_paths.upload_of.Goals as goal

pub returns-then-ne : goal.returns-then-ne
returns-then-ne c = λ before of_front.
    let other = other-said c.ne.result false c.last_part.result.1.now c.as_slice.result.now (codes "blobs") c.as_slice.ensures c.ne.ensures c.if-ne.true in
    sym (no-upload-named before c.args.front.now c.last_part.result.0.now c.last_part.result.1.now c.args.last.now of_front c.last_part.ensures other)

pub returns-then-is_empty : goal.returns-then-is_empty
returns-then-is_empty c = λ before of_front.
    let same = other-said c.ne.result true c.last_part.result.1.now c.as_slice.result.now (codes "blobs") c.as_slice.ensures c.ne.ensures c.if-ne.false in
    let empty = empty-length c.args.last.now ∙ sym c.is_empty.ensures ∙ c.if-is_empty.true in
    sym (uploads-named before c.args.front.now c.last_part.result.0.now c.last_part.result.1.now c.args.last.now of_front c.last_part.ensures same empty)

pub returns-else-is_empty : goal.returns-else-is_empty
returns-else-is_empty c = λ before of_front.
    let same = other-said c.ne.result true c.last_part.result.1.now c.as_slice.result.now (codes "blobs") c.as_slice.ensures c.ne.ensures c.if-ne.false in
    let full = empty-length c.args.last.now ∙ sym c.is_empty.ensures ∙ c.if-is_empty.false in
    sym (upload-named before c.args.front.now c.last_part.result.0.now c.last_part.result.1.now c.args.last.now of_front c.last_part.ensures same full)
