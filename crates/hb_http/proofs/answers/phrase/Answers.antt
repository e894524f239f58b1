use Rattle.std.proofs.Common.{◌∙◌}
use Rattle.hb_http.proofs.Phrases.{HasPhrase-code, reason_phrase-registry}
use Rattle.hb_http.proofs.answers.phrase.Goals as goal

pub canonical_phrase-requires : goal.canonical_phrase-requires
canonical_phrase-requires c = HasPhrase-code c.args.status c.requires

pub returns : goal.returns
returns c = c.canonical_phrase.ensures ∙ reason_phrase-registry c.args.status c.requires
