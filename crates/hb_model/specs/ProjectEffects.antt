-- What entries about projects and uploads do to the rows.
use Rattle.std.specs.Prelude.{ℕ, ℤ, List, [], nat_eq, if◌then◌else◌}
use Rattle.std.specs.Ordering.{nat_cmp}
use Rattle.hb_base.specs.Tables.{with_row, without_key, changed_at}
use Rattle.hb_text.specs.Orders.{text_cmp}
use Rattle.hb_records.specs.declared.records.Project.{Project}
use Rattle.hb_records.specs.declared.rules.Rules.{Rules}
use Rattle.hb_records.specs.Orders.{project_key, upload_key}
use Rattle.hb_rows.specs.Tables.{Tables}

abbrev pub no_rules : Rules
no_rules = record { immutes = []; retains = [] }

-- a new project uses nothing and has no rules
abbrev pub new_project : ℕ → List ℕ → ℤ → Project
new_project n project limit = record { name = project; limit = limit; used = 0; rules = no_rules; version = n }

abbrev pub make_project : ℕ → List ℕ → ℤ → Tables → Tables
make_project n project limit t = record t { projects = with_row text_cmp project_key (new_project n project limit) t.projects }

abbrev pub change_project : List ℕ → (Project → Project) → Tables → Tables
change_project project change t = record t { projects = changed_at text_cmp project_key project change t.projects }

abbrev pub set_limit : ℕ → List ℕ → ℤ → Tables → Tables
set_limit n project limit = change_project project (λ row. record row { limit = limit; version = n })

-- the rules are replaced whole
abbrev pub set_rules : ℕ → List ℕ → Rules → Tables → Tables
set_rules n project rules = change_project project (λ row. record row { rules = rules; version = n })

-- the version moves only where what is used changes
abbrev pub with_used : ℕ → (ℕ → ℕ) → Project → Project
with_used n change row = if nat_eq (change row.used) row.used then row else record row { used = change row.used; version = n }

-- an upload has its entry's number as its id
abbrev pub begin_upload : ℕ → ℕ → List ℕ → Tables → Tables
begin_upload n moment name t = record t { uploads = with_row nat_cmp upload_key (record { id = n; name = name; offset = 0; touched = moment; version = n }) t.uploads }

abbrev pub grow_upload : ℕ → ℕ → ℕ → ℕ → Tables → Tables
grow_upload n moment upload offset t = record t { uploads = changed_at nat_cmp upload_key upload (λ row. record row { offset = offset; touched = moment; version = n }) t.uploads }

abbrev pub end_upload : ℕ → Tables → Tables
end_upload upload t = record t { uploads = without_key nat_cmp upload_key upload t.uploads }
