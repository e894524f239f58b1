use Rattle.std.proofs.Common.{◌∙◌, sym}
use Rattle.std.specs.Option.{option_copied}
use Rattle.hb_talk.proofs.Answering.{refused-form}
use Rattle.hb_talk.proofs.serving.read_put.Goals as goal

pub returns-in_ok-bad_manifest-in-Err-clause-refuses : goal.returns-in_ok-bad_manifest-in-Err-clause-refuses
returns-in_ok-bad_manifest-in-Err-clause-refuses c =
    refused-form c.args.name c.args.reference (option_copied c.args.media) c.args.body.now c.of-found.result c.in_ok-bad_manifest-in-Err.field-0 c.in-Err.fault c.of-found.ensures
    (sym c.names_other.ensures ∙ c.if-names_other.false) c.in-Err.ensures.err c.in_ok-bad_manifest-in-Err.ensures
