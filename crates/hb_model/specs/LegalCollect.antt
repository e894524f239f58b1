-- When the entries of jobs, and those of a collection, are legal.
use Rattle.std.specs.Prelude.{◌≡◌, ℕ, ◌+◌, Bool, true, false, ◌&&◌, ◌||◌, List, length, take, Option, Some, None, IsTrue, IsSome, nat_lt, nat_le, map, count_by, option_and_then, fold}
use Rattle.std.specs.List.{filter}
use Rattle.std.specs.Ordering.{is_lt}
use Rattle.hb_text.specs.declared.digests.Digest.{Digest}
use Rattle.hb_text.specs.Orders.{digest_cmp}
use Rattle.hb_records.specs.Entries.{AuditEntry}
use Rattle.hb_records.specs.declared.entries.EntryKind.{EntryKind}
use Rattle.hb_records.specs.declared.entries.EntryKind.TheVariants.{GcMarked}
use Rattle.hb_records.specs.declared.jobs.JobKind.{JobKind}
use Rattle.hb_records.specs.declared.jobs.JobKind.TheVariants.{Collect, Retain}
use Rattle.hb_records.specs.declared.jobs.Verdict.{Verdict}
use Rattle.hb_records.specs.declared.jobs.Verdict.TheVariants as verdict
use Rattle.hb_model.specs.Words.{WINDOW, some_and, has_kind, last_kind, since_kind}
use Rattle.hb_model.specs.Jobs.{is_running, is_collect, is_unfinished, none_unfinished, claims, marks_for, marks_last_for, marks_digest_for, takes_for, gives_verdict}
use Rattle.hb_model.specs.Registry.{project_in}
use Rattle.hb_model.specs.Replay.{replay}
use Rattle.hb_model.specs.Moves.{moves}
use Rattle.hb_model.specs.Presence.{collecting}
use Rattle.hb_model.specs.Grace.{eligible, eligible_but_collecting}

abbrev pub ProjectOfJob : List AuditEntry → JobKind → Type 0
ProjectOfJob j (Collect untagged) = Unit {0}
ProjectOfJob j (Retain project) = IsSome (project_in (replay j) project)

-- no job of the same kind and project is unfinished
pub record LegalJobQueued (j : List AuditEntry) (kind : JobKind) : Type 0 where
  pub alone : IsTrue (none_unfinished j kind)
  pub known : ProjectOfJob j kind

pub record LegalJobClaimed (j : List AuditEntry) (job : ℕ) : Type 0 where
  pub unfinished : IsTrue (is_unfinished j job)

abbrev pub upto_of : EntryKind → Option Digest
upto_of (GcMarked job digests barred upto last) = upto
upto_of _ = None

-- up to where the job has marked
abbrev pub marked_upto : List AuditEntry → ℕ → Option Digest
marked_upto j job = option_and_then (λ e. upto_of e.kind) (last_kind (marks_for job) j)

abbrev pub is_above : Option Digest → Digest → Bool
is_above None d = true
is_above (Some low) d = is_lt (digest_cmp low d)

-- the next digests in stored, at most 256
abbrev pub next_page : List AuditEntry → ℕ → List Digest
next_page j job = take 256 (filter (is_above (marked_upto j job)) (map (λ x. x.digest) (replay j).stored))

abbrev pub or_else : Option Digest → Option Digest → Option Digest
or_else None old = old
or_else (Some d) old = Some d

abbrev pub last_in : List Digest → Option Digest
last_in = fold (λ last d. Some d) None

-- the page's greatest digest, or the old one where the page is empty
abbrev pub upto_after : Option Digest → List Digest → Option Digest
upto_after old page = or_else (last_in page) old

pub record LegalGcMarked (j : List AuditEntry) (t job : ℕ) (digests barred : List Digest) (upto : Option Digest) (last : Bool) : Type 0 where
  pub by_job : IsTrue (is_running is_collect j job)
  pub not_ended : has_kind (marks_last_for job) j ≡ false
  pub are_eligible : digests ≡ filter (λ d. eligible j d t) (next_page j job)
  pub are_barred : barred ≡ filter (λ d. eligible_but_collecting j d t && collecting j d t) (next_page j job)
  pub reaches : upto ≡ upto_after (marked_upto j job) (next_page j job)
  pub ends : last ≡ nat_lt (length (next_page j job)) 256

-- the last move of the digest is an entry that passes
abbrev pub last_move : (EntryKind → Bool) → List AuditEntry → Digest → Bool
last_move test j d = some_and (λ e. test e.kind) (last_kind (moves d) j)

abbrev pub has_verdict : List AuditEntry → ℕ → Digest → Bool
has_verdict j job d = has_kind (gives_verdict job d) j

pub record LegalTaking (j : List AuditEntry) (job : ℕ) (d : Digest) : Type 0 where
  pub by_job : IsTrue (is_running is_collect j job)
  pub marked : IsTrue (last_move (marks_for job) j d)
  pub undecided : has_verdict j job d ≡ false

pub record LegalCollected (j : List AuditEntry) (job : ℕ) (d : Digest) : Type 0 where
  pub by_job : IsTrue (is_running is_collect j job)
  pub taken : IsTrue (last_move (takes_for job d) j d)

pub record LegalSkippedTouched (j : List AuditEntry) (job : ℕ) (d : Digest) : Type 0 where
  pub by_job : IsTrue (is_running is_collect j job)
  pub marked : IsTrue (has_kind (marks_digest_for job d) j)
  pub undecided : has_verdict j job d ≡ false
  pub moved : last_move (λ kind. marks_for job kind || takes_for job d kind) j d ≡ false

-- the last Taking is over, or another claim came behind it
abbrev pub is_given_up : List AuditEntry → ℕ → ℕ → Digest → Bool
is_given_up j t job d = some_and (λ taking. nat_le (taking.moment + WINDOW) t) (last_kind (takes_for job d) j) || has_kind (claims job) (since_kind (takes_for job d) j)

pub record LegalSkippedBarred (j : List AuditEntry) (t job : ℕ) (d : Digest) : Type 0 where
  pub by_job : IsTrue (is_running is_collect j job)
  pub taken : IsTrue (last_move (takes_for job d) j d)
  pub given_up : IsTrue (is_given_up j t job d)

pub record LegalSkippedFailed (j : List AuditEntry) (job : ℕ) (d : Digest) : Type 0 where
  pub by_job : IsTrue (is_running is_collect j job)
  pub taken : IsTrue (last_move (takes_for job d) j d)

abbrev pub LegalSkipped : List AuditEntry → ℕ → ℕ → Digest → Verdict → Type 0
LegalSkipped j t job d verdict.Pending = ⊥
LegalSkipped j t job d verdict.Collected = ⊥
LegalSkipped j t job d verdict.Touched = LegalSkippedTouched j job d
LegalSkipped j t job d verdict.Barred = LegalSkippedBarred j t job d
LegalSkipped j t job d verdict.Failed = LegalSkippedFailed j job d

pub record LegalGcDone (j : List AuditEntry) (job : ℕ) : Type 0 where
  pub by_job : IsTrue (is_running is_collect j job)
  pub marked_all : IsTrue (has_kind (marks_last_for job) j)
  pub one_verdict : (d : Digest) → IsTrue (has_kind (marks_digest_for job d) j) → count_by (λ e. gives_verdict job d e.kind) j ≡ 1
