use Rattle.std.proofs.Common.{◌≡◌, ◌∷◌, ◌∙◌, [], IfOk, ap, codes, rules, subst}
use Rattle.hb_ops.specs.Errors.{detailed, error_answer, number_item}
use Rattle.hb_talk.proofs.Answering.{ok-both, plain-manifest}
use Rattle.hb_talk.proofs.answers.bad_manifest.Goals as goal

pub returns-in_ok-detail-in-BadDescriptor : goal.returns-in_ok-detail-in-BadDescriptor
returns-in_ok-detail-in-BadDescriptor c =
    rw c.in-BadDescriptor.is (ok-both _ c.error.result (λ e. cc e) (subst (λ detail. IfOk c.error.result (λ a. a ≡ error_answer (detailed 400 (codes "MANIFEST_INVALID") detail)))
    (c.in_ok-detail-in-BadDescriptor.ensures ∙ ap (λ n. number_item (codes "place") n ∷ []) c.from.ensures) c.error.ensures))

pub returns-in-TooLong : goal.returns-in-TooLong
returns-in-TooLong c = rw c.in-TooLong.is (search rules)

pub returns-in-MediaUnknown : goal.returns-in-MediaUnknown
returns-in-MediaUnknown c = rw (plain-manifest c.args.fault c.in-MediaUnknown.is) (search rules)
