-- Where a job stands in an audit.
use Rattle.std.specs.Prelude.{ℕ, Bool, true, false, not, ◌&&◌, ◌||◌, List, nat_eq}
use Rattle.std.specs.List.{list_any, list_all}
use Rattle.hb_text.specs.declared.digests.Digest.{Digest}
use Rattle.hb_records.specs.Entries.{AuditEntry}
use Rattle.hb_records.specs.declared.entries.EntryKind.{EntryKind}
use Rattle.hb_records.specs.declared.entries.EntryKind.TheVariants.{JobQueued, JobClaimed, GcMarked, Taking, Collected, GcSkipped, GcDone, RetainBegun, RetainTurn, RetainDone}
use Rattle.hb_records.specs.declared.jobs.JobKind.{JobKind}
use Rattle.hb_records.specs.declared.jobs.JobKind.TheVariants.{Collect, Retain}
use Rattle.hb_model.specs.Words.{same_text, same_digest, among, has_kind}

abbrev pub is_collect : JobKind → Bool
is_collect (Collect untagged) = true
is_collect (Retain project) = false

abbrev pub is_retain : JobKind → Bool
is_retain (Collect untagged) = false
is_retain (Retain project) = true

-- the same kind and project, whatever the flag
abbrev pub same_kind : JobKind → JobKind → Bool
same_kind (Collect untagged) (Collect other) = true
same_kind (Collect untagged) (Retain project) = false
same_kind (Retain project) (Collect untagged) = false
same_kind (Retain project) (Retain other) = same_text project other

abbrev pub queues : (JobKind → Bool) → EntryKind → Bool
queues test (JobQueued kind) = test kind
queues test _ = false

abbrev pub claims : ℕ → EntryKind → Bool
claims j (JobClaimed job) = nat_eq j job
claims j _ = false

abbrev pub finishes : ℕ → EntryKind → Bool
finishes j (GcDone job) = nat_eq j job
finishes j (RetainDone job) = nat_eq j job
finishes j _ = false

abbrev pub is_queued : (JobKind → Bool) → List AuditEntry → ℕ → Bool
is_queued test audit job = list_any (λ e. nat_eq e.number job && queues test e.kind) audit

-- queued, claimed and not finished
abbrev pub is_running : (JobKind → Bool) → List AuditEntry → ℕ → Bool
is_running test audit job = is_queued test audit job && has_kind (claims job) audit && not (has_kind (finishes job) audit)

abbrev pub is_unfinished : List AuditEntry → ℕ → Bool
is_unfinished audit job = is_queued (λ kind. true) audit job && not (has_kind (finishes job) audit)

-- each job of the kind is finished
abbrev pub none_unfinished : List AuditEntry → JobKind → Bool
none_unfinished audit kind = list_all (λ e. not (queues (same_kind kind) e.kind) || has_kind (finishes e.number) audit) audit

abbrev pub marks_for : ℕ → EntryKind → Bool
marks_for j (GcMarked job digests barred upto last) = nat_eq j job
marks_for j _ = false

abbrev pub marks_last_for : ℕ → EntryKind → Bool
marks_last_for j (GcMarked job digests barred upto last) = nat_eq j job && last
marks_last_for j _ = false

abbrev pub marks_digest_for : ℕ → Digest → EntryKind → Bool
marks_digest_for j d (GcMarked job digests barred upto last) = nat_eq j job && among d digests
marks_digest_for j d _ = false

abbrev pub takes_for : ℕ → Digest → EntryKind → Bool
takes_for j d (Taking job digest) = nat_eq j job && same_digest d digest
takes_for j d _ = false

-- a Collected or GcSkipped of the digest
abbrev pub gives_verdict : ℕ → Digest → EntryKind → Bool
gives_verdict j d (Collected job digest) = nat_eq j job && same_digest d digest
gives_verdict j d (GcSkipped job digest why) = nat_eq j job && same_digest d digest
gives_verdict j d _ = false

abbrev pub begins_retain : ℕ → EntryKind → Bool
begins_retain j (RetainBegun job) = nat_eq j job
begins_retain j _ = false

abbrev pub turns_tag : ℕ → List ℕ → List ℕ → EntryKind → Bool
turns_tag j n t (RetainTurn job name tag verdict) = nat_eq j job && same_text n name && same_text t tag
turns_tag j n t _ = false
