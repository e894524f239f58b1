-- Entries of the audit as plain records, so that definitions can build them.
use Rattle.std.specs.Prelude.{ℕ, ◌^◌}
use Rattle.hb_records.specs.declared.entries.EntryKind.{EntryKind}

-- the last second of the year 9998, since 1970
abbrev pub LAST_MOMENT : ℕ
LAST_MOMENT = 253370764799

-- the most entries of an audit
abbrev pub MOST_ENTRIES : ℕ
MOST_ENTRIES = 2 ^ 62

-- What was done, as the how manyth change, and when. An `Entry` of the code has its number and its moment
-- within the two limits.
pub record AuditEntry : Type 0 where
  pub number : ℕ
  pub moment : ℕ
  pub kind : EntryKind

-- how long an audit is, and its latest moment, 0 where it is empty
pub record AuditMeta : Type 0 where
  pub entries : ℕ
  pub latest : ℕ
