-- What may come next in the worked logs.
use Rattle.std.specs.Prelude.{ℕ, suc, [], ◌∷◌, codes}
use Rattle.hb_records.specs.declared.entries.EntryKind.{EntryKind}
use Rattle.hb_records.specs.declared.rules.ImmuteRule.{ImmuteRule}
use Rattle.hb_records.specs.declared.rules.Rules.{Rules}
use Rattle.hb_model.specs.History.{Legal, LegalKind}
use Rattle.hb_model.specs.ExampleLogs.{Log, after, entry}
use Rattle.hb_model.specs.ImmutabilityExamples.{matching}

-- after the first so many entries of the log, this is legal as the next one at this moment
abbrev pub MayFollow : ℕ → Log → ℕ → EntryKind → Type 0
MayFollow n log moment kind = Legal (after n log) (entry (suc n) moment kind)

-- after the first so many entries of the log, this is not legal at this moment
abbrev pub MayNotFollow : ℕ → Log → ℕ → EntryKind → Type 0
MayNotFollow n log moment kind = ¬ (LegalKind (after n log) moment kind)

abbrev pub any_tag : ImmuteRule
any_tag = record { repo = matching (codes "**"); tag = matching (codes "**") }

-- as many rules as a project may have, and one more
abbrev pub fifteen_rules : Rules
fifteen_rules = record { immutes = any_tag ∷ any_tag ∷ any_tag ∷ any_tag ∷ any_tag ∷ any_tag ∷ any_tag ∷ any_tag ∷ any_tag ∷ any_tag ∷ any_tag ∷ any_tag ∷ any_tag ∷ any_tag ∷ any_tag ∷ []; retains = [] }

abbrev pub sixteen_rules : Rules
sixteen_rules = record { immutes = any_tag ∷ fifteen_rules.immutes; retains = [] }
