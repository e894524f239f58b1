-- Five tags and rules about them, for the examples of retention.
use Rattle.std.specs.Prelude.{ℕ, ◌+◌, false, List, [], ◌∷◌, ◌++◌, codes}
use Rattle.hb_records.specs.declared.rules.Rules.{Rules}
use Rattle.hb_records.specs.declared.rules.Selector.{Selector}
use Rattle.hb_records.specs.declared.rules.Template.{Template}
use Rattle.hb_records.specs.Retention.{SnapItem}

-- the tag `t1` to `t9` that was pushed i seconds after the moment 1,000,000 and never pulled
abbrev pub tag_pushed : ℕ → SnapItem
tag_pushed i = record { name = codes "library/a"; tag = codes "t" ++ (48 + i) ∷ []; put = i; pushed = 1000000 + i; pulled = 0 }

abbrev pub five_tags : List SnapItem
five_tags = tag_pushed 1 ∷ tag_pushed 2 ∷ tag_pushed 3 ∷ tag_pushed 4 ∷ tag_pushed 5 ∷ []

abbrev pub every : Selector
every = record { exclude = false; pattern = codes "**" }

-- the one rule that keeps by this template, of all tags of all repositories
abbrev pub rule_by : Template → Rules
rule_by template = record { immutes = []; retains = record { template = template; repo = every; tag = every } ∷ [] }

abbrev pub no_rules : Rules
no_rules = record { immutes = []; retains = [] }
