-- A project's version: the number of the last entry that made it, set its limit or its rules, or changed what
-- it uses.
use Rattle.std.specs.Prelude.{ℕ, Bool, false, not, ◌||◌, List, [], ◌∷◌, nat_eq, if◌then◌else◌}
use Rattle.hb_records.specs.Entries.{AuditEntry}
use Rattle.hb_records.specs.declared.entries.EntryKind.{EntryKind}
use Rattle.hb_records.specs.declared.entries.EntryKind.TheVariants.{ProjectMade, LimitSet, RulesSet}
use Rattle.hb_model.specs.Words.{same_text}
use Rattle.hb_model.specs.Presence.{usage}
use Rattle.hb_model.specs.Replay.{replay}

abbrev pub sets_project : List ℕ → EntryKind → Bool
sets_project p (ProjectMade project limit) = same_text p project
sets_project p (LimitSet project limit) = same_text p project
sets_project p (RulesSet project rules) = same_text p project
sets_project p _ = false

abbrev pub changes_usage : List ℕ → List AuditEntry → AuditEntry → Bool
changes_usage p j e = not (nat_eq (usage (replay (e ∷ j)) p) (usage (replay j) p))

abbrev pub project_version : List AuditEntry → List ℕ → ℕ
project_version [] p = 0
project_version (e ∷ j) p = if sets_project p e.kind || changes_usage p j e then e.number else project_version j p
