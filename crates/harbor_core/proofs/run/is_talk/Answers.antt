use Rattle.std.proofs.Common.{◌≡◌, [], ◌∷◌, codes, ap, ◌∙◌, arith}
use Rattle.harbor_core.proofs.Running.{one_item}
use Rattle.harbor_core.proofs.run.is_talk.Goals as goal

pub returns-in-len1 : goal.returns-in-len1
returns-in-len1 c =
    let one : c.args.words.now ≡ c.word-item.result ∷ [] = one_item c.args.words.now c.word-item.result (omega arith) (omega arith) c.word-item.is in
    (λ is. one ∙ ap (λ word. word ∷ []) (c.is_talk_word.ensures.0 is), λ talk. let same : c.word-item.result ≡ codes "talk" = cc in c.is_talk_word.ensures.1 same)
