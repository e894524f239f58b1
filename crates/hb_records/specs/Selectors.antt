-- What selectors take, and which tags are immutable by the rules of their project.
use Rattle.std.specs.Prelude.{ℕ, Bool, ◌&&◌, not, List, if◌then◌else◌}
use Rattle.std.specs.List.{list_any}
use Rattle.hb_text.specs.Names.{repository_of}
use Rattle.hb_records.specs.declared.rules.Selector.{Selector}
use Rattle.hb_records.specs.declared.rules.ImmuteRule.{ImmuteRule}
use Rattle.hb_records.specs.declared.rules.Rules.{Rules}
use Rattle.hb_records.specs.PatternTexts.{matches_text}

-- what the pattern matches, or what it doesn't match
abbrev pub takes : Selector → List ℕ → Bool
takes selector text = if selector.exclude then not (matches_text selector.pattern text) else matches_text selector.pattern text

-- the rule takes the name behind the project, and the tag
abbrev pub takes_tag : ImmuteRule → List ℕ → List ℕ → Bool
takes_tag rule name tag = takes rule.repo (repository_of name) && takes rule.tag tag

-- some rule takes the tag
abbrev pub is_immutable : Rules → List ℕ → List ℕ → Bool
is_immutable rules name tag = list_any (λ rule. takes_tag rule name tag) rules.immutes
