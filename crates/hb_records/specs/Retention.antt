-- Which tags of a snapshot the rules of retention keep.
use Rattle.std.specs.Prelude.{ℕ, ◌+◌, ◌*◌, Bool, true, ◌&&◌, ◌||◌, not, List, nat_eq, nat_le, nat_lt, count_by}
use Rattle.std.specs.List.{list_any}
use Rattle.std.specs.Ordering.{is_eq, is_lt}
use Rattle.hb_text.specs.Names.{repository_of}
use Rattle.hb_text.specs.Orders.{text_cmp}
use Rattle.hb_records.specs.declared.rules.Rules.{Rules}
use Rattle.hb_records.specs.declared.rules.RetainRule.{RetainRule}
use Rattle.hb_records.specs.declared.rules.Template.{Template}
use Rattle.hb_records.specs.declared.rules.Template.TheVariants.{Always, PushedLatest, PulledLatest, PushedDays, PulledDays}
use Rattle.hb_records.specs.Selectors.{takes}

-- a tag as a snapshot has it: with the number of its last put, the moment of that, and the moment of its
-- artifact's last pull, which is 0 where it was never pulled
pub record SnapItem : Type 0 where
  pub name : List ℕ
  pub tag : List ℕ
  pub put : ℕ
  pub pushed : ℕ
  pub pulled : ℕ

-- the rule looks at the tags of this repository
abbrev pub looks_at : RetainRule → List ℕ → Bool
looks_at rule name = takes rule.repo (repository_of name)

-- the tags among which a rule has to choose in a repository
abbrev pub is_peer : RetainRule → List ℕ → SnapItem → Bool
is_peer rule name item = is_eq (text_cmp item.name name) && takes rule.tag item.tag

-- by moment falling, then tag rising
abbrev pub is_before : (SnapItem → ℕ) → SnapItem → SnapItem → Bool
is_before moment a b = nat_lt (moment b) (moment a) || (nat_eq (moment a) (moment b) && is_lt (text_cmp a.tag b.tag))

-- fewer than k of its peers come before it
abbrev pub is_latest : (SnapItem → ℕ) → ℕ → RetainRule → List SnapItem → SnapItem → Bool
is_latest moment k rule snap item = nat_lt (count_by (λ other. is_peer rule item.name other && is_before moment other item) snap) k

-- so many days or fewer have passed since the moment at t
abbrev pub is_within_days : ℕ → ℕ → ℕ → Bool
is_within_days moment days t = nat_le t (moment + days * 86400)

-- whether a template keeps the item, which the rule takes, at t
abbrev pub template_keeps : Template → RetainRule → List SnapItem → ℕ → SnapItem → Bool
template_keeps Always rule snap t item = true
template_keeps (PushedLatest k) rule snap t item = is_latest (λ x. x.pushed) k rule snap item
template_keeps (PulledLatest k) rule snap t item = is_latest (λ x. x.pulled) k rule snap item
template_keeps (PushedDays days) rule snap t item = is_within_days item.pushed days t
template_keeps (PulledDays days) rule snap t item = nat_lt 0 item.pulled && is_within_days item.pulled days t

abbrev pub rule_keeps : RetainRule → List SnapItem → ℕ → SnapItem → Bool
rule_keeps rule snap t item = looks_at rule item.name && takes rule.tag item.tag && template_keeps rule.template rule snap t item

-- no rule looks at the repository, or a rule keeps the tag
abbrev pub keeps : Rules → List SnapItem → ℕ → SnapItem → Bool
keeps rules snap t item = not (list_any (λ rule. looks_at rule item.name) rules.retains) || list_any (λ rule. rule_keeps rule snap t item) rules.retains
