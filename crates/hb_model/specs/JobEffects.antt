-- What entries about jobs of both kinds do to the rows.
use Rattle.std.specs.Prelude.{ℕ, None}
use Rattle.std.specs.Ordering.{nat_cmp}
use Rattle.hb_base.specs.Tables.{with_row, changed_at}
use Rattle.hb_records.specs.declared.jobs.JobKind.{JobKind}
use Rattle.hb_records.specs.declared.jobs.JobRow.{JobRow}
use Rattle.hb_records.specs.declared.jobs.Phase.{Phase}
use Rattle.hb_records.specs.declared.jobs.Phase.TheVariants as phase
use Rattle.hb_records.specs.Orders.{job_key}
use Rattle.hb_rows.specs.Tables.{Tables}

-- a job has its entry's number as its own
abbrev pub queue_job : ℕ → JobKind → Tables → Tables
queue_job n kind t = record t { jobs = with_row nat_cmp job_key (record { number = n; kind = kind; phase = phase.Queued; cursor = None; claimed = 0; barred = 0; version = n }) t.jobs }

abbrev pub change_job : ℕ → (JobRow → JobRow) → Tables → Tables
change_job job change t = record t { jobs = changed_at nat_cmp job_key job change t.jobs }

-- a claim moves a queued job on; one that was stopped goes on where it was
abbrev pub claimed_phase : Phase → Phase
claimed_phase phase.Queued = phase.Claimed
claimed_phase phase.Claimed = phase.Claimed
claimed_phase phase.Marking = phase.Marking
claimed_phase phase.Sweeping = phase.Sweeping
claimed_phase phase.Turning = phase.Turning
claimed_phase phase.Finished = phase.Finished

abbrev pub claim_job : ℕ → ℕ → Tables → Tables
claim_job n job = change_job job (λ row. record row { phase = claimed_phase row.phase; claimed = n; version = n })

abbrev pub finish_job : ℕ → ℕ → Tables → Tables
finish_job n job = change_job job (λ row. record row { phase = phase.Finished; version = n })
