-- When entries about content are legal.
use Rattle.std.specs.Prelude.{◌≡◌, ℕ, ◌+◌, ℤ, pos, negsuc, Bool, false, ◌||◌, List, Some, None, IsTrue, IsSome, is_some, nat_eq, nat_le}
use Rattle.hb_text.specs.declared.digests.Digest.{Digest}
use Rattle.hb_records.specs.Entries.{AuditEntry}
use Rattle.hb_model.specs.Words.{among, some_and}
use Rattle.hb_model.specs.Jobs.{is_running, is_collect}
use Rattle.hb_model.specs.Registry.{project_in, pair_in, stored_in}
use Rattle.hb_model.specs.Replay.{replay, size_of}
use Rattle.hb_model.specs.Presence.{present, collecting, usage, needed}
use Rattle.hb_model.specs.Grace.{idle_pair}

-- whether a limit allows so many bytes; -1 allows any number
abbrev pub allows : ℤ → ℕ → Bool
allows (pos limit) total = nat_le total limit
allows (negsuc below) total = nat_eq below 0

-- nothing is added, or the limit allows it
abbrev pub fits_limit : List AuditEntry → List ℕ → Digest → ℕ → Bool
fits_limit j p d s = is_some (pair_in (replay j) p d) || nat_eq s 0 || some_and (λ project. allows project.limit (usage (replay j) p + s)) (project_in (replay j) p)

-- A digest that is present keeps its size, and one that is collecting can't be stored.
pub record LegalAssociated (j : List AuditEntry) (t : ℕ) (p : List ℕ) (d : Digest) (s : ℕ) : Type 0 where
  pub known : IsSome (project_in (replay j) p)
  pub free : collecting j d t ≡ false
  pub fits : IsTrue (fits_limit j p d s)
  pub same_size : IsTrue (present j d) → size_of j d ≡ Some s

pub record LegalTouched (j : List AuditEntry) (p : List ℕ) (d : Digest) : Type 0 where
  pub known : IsSome (pair_in (replay j) p d)

-- A pair goes by a collection alone, where no artifact of the project needs it and nobody named it within
-- the window.
pub record LegalUnassociated (j : List AuditEntry) (t job : ℕ) (p : List ℕ) (d : Digest) : Type 0 where
  pub by_job : IsTrue (is_running is_collect j job)
  pub known : IsSome (pair_in (replay j) p d)
  pub unneeded : among d (needed (replay j) p) ≡ false
  pub idle : IsTrue (idle_pair j p d t)

pub record LegalAdopted (j : List AuditEntry) (job : ℕ) (d : Digest) : Type 0 where
  pub by_job : IsTrue (is_running is_collect j job)
  pub new : stored_in (replay j) d ≡ None
