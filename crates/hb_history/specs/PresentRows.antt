-- Whether the store holds a digest, as its row tells.
use Rattle.std.specs.Prelude.{ℕ, Bool, true, false, Option, Some, None, nat_eq}
use Rattle.hb_records.specs.declared.records.Blob.{Blob}
use Rattle.hb_records.specs.declared.records.Status.{Status}
use Rattle.hb_records.specs.declared.records.Status.TheVariants.{Idle, Delete, Deleting, DeleteFailed}

-- idle, or marked to be deleted and not taken
abbrev pub is_here_by : Status → ℕ → Bool
is_here_by Idle bar = true
is_here_by Delete bar = nat_eq bar 0
is_here_by Deleting bar = false
is_here_by DeleteFailed bar = false

-- the row says that its digest is present
abbrev pub is_here : Option Blob → Bool
is_here None = false
is_here (Some row) = is_here_by row.status row.bar
