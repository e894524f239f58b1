use Rattle.hb_records.proofs.PatternCuts.{Matches-from_test, test-from_Matches}
use Rattle.hb_records.proofs.laws.patterns_match_whole_texts.Goals as goal

pub returns : goal.returns
returns c = λ parts s. (Matches-from_test parts s, test-from_Matches parts s)
