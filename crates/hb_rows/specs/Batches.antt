-- What changes and batches do to the tables.
use Rattle.std.specs.Prelude.{List, fold, reverse}
use Rattle.std.specs.Ordering.{nat_cmp}
use Rattle.hb_base.specs.Tables.{with_row, without_key}
use Rattle.hb_text.specs.Orders.{text_cmp, digest_cmp}
use Rattle.hb_records.specs.Entries.{AuditEntry}
use Rattle.hb_records.specs.Orders.{named_digest_cmp, named_tag_cmp, job_digest_cmp, job_tag_cmp, project_key, blob_key, pair_key, artifact_key, tag_key, upload_key, job_key, candidate_key, snap_key, entry_key}
use Rattle.hb_records.specs.declared.batches.Row.{Row}
use Rattle.hb_records.specs.declared.batches.Row.TheVariants as row
use Rattle.hb_records.specs.declared.batches.Change.{Change}
use Rattle.hb_records.specs.declared.batches.Change.TheVariants.{Set, Drop}
use Rattle.hb_records.specs.declared.batches.Batch.{Batch}
use Rattle.hb_records.specs.declared.keys.Key.{Key}
use Rattle.hb_records.specs.declared.keys.Key.TheVariants as key
use Rattle.hb_rows.specs.Tables.{Tables}

-- a change of the table of entries, which has the oldest first, made to the audit, which has it last
abbrev pub from_oldest : (List AuditEntry → List AuditEntry) → List AuditEntry → List AuditEntry
from_oldest change audit = reverse (change (reverse audit))

-- the row in its place, over what had its key
abbrev pub set_row : Tables → Row → Tables
set_row t (row.Project r) = record t { projects = with_row text_cmp project_key r t.projects }
set_row t (row.Blob r) = record t { blobs = with_row digest_cmp blob_key r t.blobs }
set_row t (row.Pair r) = record t { pairs = with_row named_digest_cmp pair_key r t.pairs }
set_row t (row.Artifact r) = record t { artifacts = with_row named_digest_cmp artifact_key r t.artifacts }
set_row t (row.Tag r) = record t { tags = with_row named_tag_cmp tag_key r t.tags }
set_row t (row.Upload r) = record t { uploads = with_row nat_cmp upload_key r t.uploads }
set_row t (row.Job r) = record t { jobs = with_row nat_cmp job_key r t.jobs }
set_row t (row.Candidate r) = record t { candidates = with_row job_digest_cmp candidate_key r t.candidates }
set_row t (row.Snap r) = record t { snaps = with_row job_tag_cmp snap_key r t.snaps }
set_row t (row.Entry r) = record t { audit = from_oldest (with_row nat_cmp entry_key r) t.audit }

-- the tables without the row of this key
abbrev pub drop_key : Tables → Key → Tables
drop_key t (key.Project name) = record t { projects = without_key text_cmp project_key name t.projects }
drop_key t (key.Blob digest) = record t { blobs = without_key digest_cmp blob_key digest t.blobs }
drop_key t (key.Pair project digest) = record t { pairs = without_key named_digest_cmp pair_key (project, digest) t.pairs }
drop_key t (key.Artifact name digest) = record t { artifacts = without_key named_digest_cmp artifact_key (name, digest) t.artifacts }
drop_key t (key.Tag name tag) = record t { tags = without_key named_tag_cmp tag_key (name, tag) t.tags }
drop_key t (key.Upload id) = record t { uploads = without_key nat_cmp upload_key id t.uploads }
drop_key t (key.Job number) = record t { jobs = without_key nat_cmp job_key number t.jobs }
drop_key t (key.Candidate job digest) = record t { candidates = without_key job_digest_cmp candidate_key (job, digest) t.candidates }
drop_key t (key.Snap job name tag) = record t { snaps = without_key job_tag_cmp snap_key (job, (name, tag)) t.snaps }
drop_key t (key.Entry number) = record t { audit = from_oldest (without_key nat_cmp entry_key number) t.audit }

abbrev pub after_change : Tables → Change → Tables
after_change t (Set r) = set_row t r
after_change t (Drop k) = drop_key t k

-- the changes in order
abbrev pub after_changes : Tables → List Change → Tables
after_changes = fold after_change

-- the changes in order, and then the entry
abbrev pub after_batch : Tables → Batch → Tables
after_batch t batch = set_row (after_changes t batch.changes) (row.Entry batch.entry)
