-- When the entries of a retention job are legal.
use Rattle.std.specs.Prelude.{◌≡◌, ℕ, Bool, false, ◌&&◌, List, Some, IsTrue, count_by}
use Rattle.std.specs.List.{find, AllByRecursion}
use Rattle.hb_records.specs.Entries.{AuditEntry}
use Rattle.hb_records.specs.declared.jobs.TagVerdict.{TagVerdict}
use Rattle.hb_records.specs.Retention.{SnapItem}
use Rattle.hb_model.specs.Words.{same_text, has_kind}
use Rattle.hb_model.specs.Jobs.{is_running, is_retain, begins_retain, turns_tag}
use Rattle.hb_model.specs.Registry.{tag_in}
use Rattle.hb_model.specs.Replay.{replay}
use Rattle.hb_model.specs.Snapshots.{unretained, turn_of}

abbrev pub is_item : List ℕ → List ℕ → SnapItem → Bool
is_item name tag item = same_text name item.name && same_text tag item.tag

-- a job begins once
pub record LegalRetainBegun (j : List AuditEntry) (job : ℕ) : Type 0 where
  pub by_job : IsTrue (is_running is_retain j job)
  pub new : has_kind (begins_retain job) j ≡ false

-- a tag that is left out has one turn, with the verdict that it has then
pub record LegalRetainTurn (j : List AuditEntry) (job : ℕ) (name tag : List ℕ) (given : TagVerdict) : Type 0 where
  pub by_job : IsTrue (is_running is_retain j job)
  pub new : has_kind (turns_tag job name tag) j ≡ false
  pub in_turn : (item : SnapItem) × (find (is_item name tag) (unretained j job) ≡ Some item) × (given ≡ turn_of (replay j) item (tag_in (replay j) name tag))

-- each tag that is left out had its turn
pub record LegalRetainDone (j : List AuditEntry) (job : ℕ) : Type 0 where
  pub by_job : IsTrue (is_running is_retain j job)
  pub begun : IsTrue (has_kind (begins_retain job) j)
  pub one_turn : AllByRecursion (λ item. count_by (λ e. turns_tag job item.name item.tag e.kind) j ≡ 1) (unretained j job)
