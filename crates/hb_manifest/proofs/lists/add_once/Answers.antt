use Rattle.std.proofs.Common.{◌∙◌, ◌++◌, [], ◌∷◌, cond, sym, ap}
use Rattle.std.specs.List.{list_any}
use Rattle.std.proofs.lemmas.Result.{on_ok_weaker}
use Rattle.hb_manifest.specs.Lists.{same_digest, each_once}
use Rattle.hb_manifest.proofs.Once.{once-more}
use Rattle.hb_manifest.proofs.lists.add_once.Goals as goal

pub returns-then-has : goal.returns-then-has
returns-then-has c = λ all was.
    let among = sym c.has.ensures ∙ c.if-has.true in
    was ∙ sym (once-more all c.args.digest ∙ ap (λ b. cond b (each_once all) (each_once all ++ c.args.digest ∷ []))
    (ap (list_any (same_digest c.args.digest)) (sym was ∙ sym c.as_slice.ensures) ∙ among))

pub returns : goal.returns
returns c = on_ok_weaker c.push.result
    (λ pushed all was.
    let among = sym c.has.ensures ∙ c.if-has.false in
    pushed ∙ ap (λ ds. ds ++ c.args.digest ∷ []) was
    ∙ sym (once-more all c.args.digest ∙ ap (λ b. cond b (each_once all) (each_once all ++ c.args.digest ∷ []))
    (ap (list_any (same_digest c.args.digest)) (sym was ∙ sym c.as_slice.ensures) ∙ among)))
    c.push.ensures.ok
