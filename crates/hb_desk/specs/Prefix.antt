-- What was seen stays: an audit goes on by entries in front.
use Rattle.std.specs.Prelude.{◌≡◌, List, ◌++◌}
use Rattle.hb_records.specs.Entries.{AuditEntry}

abbrev pub GoesOn : List AuditEntry → List AuditEntry → Type 0
GoesOn old new = (more : List AuditEntry) × (new ≡ more ++ old)
