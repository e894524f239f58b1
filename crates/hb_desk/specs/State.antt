-- What a desk's events change: the audit, newest entry first, and what the world remembers beside it.
use Rattle.std.specs.Prelude.{List}
use Rattle.hb_records.specs.Entries.{AuditEntry}
use Rattle.hb_records.specs.declared.notes.Notes.{Notes}

pub record State : Type 0 where
  pub audit : List AuditEntry
  pub notes : Notes
