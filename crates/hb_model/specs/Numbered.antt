-- Audits whose entries have the numbers from 1 on, whether they are legal or not.
use Rattle.std.specs.Prelude.{◌≡◌, suc, List, [], ◌∷◌, length}
use Rattle.hb_records.specs.Entries.{AuditEntry}

abbrev pub IsNumbered : List AuditEntry → Type 0
IsNumbered [] = Unit {0}
IsNumbered (e ∷ j) = (e.number ≡ suc (length j)) × IsNumbered j
