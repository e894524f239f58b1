-- What every event keeps: rows, what the world remembers, and what the store holds, at a moment.
use Rattle.std.specs.Prelude.{◌≡◌, ◌≤◌, ◌<◌, ℕ, ◌+◌, Bool, false, List, [], length, Some, None, Contains, IsTrue, IsSome, nat_le, nat_eq, count_by}
use Rattle.std.specs.List.{AllByRecursion}
use Rattle.hb_text.specs.declared.digests.Digest.{Digest}
use Rattle.hb_text.specs.Digests.{digest_of}
use Rattle.hb_records.specs.Entries.{AuditEntry}
use Rattle.hb_records.specs.declared.notes.Notes.{Notes}
use Rattle.hb_records.specs.declared.notes.Spell.{Spell}
use Rattle.hb_rows.specs.Tables.{Tables}
use Rattle.hb_store.specs.declared.rows.Lapsing.{Lapsing}
use Rattle.hb_store.specs.Contents.{Contents, IsLapsing}
use Rattle.hb_model.specs.Words.{WINDOW, some_and, last_kind}
use Rattle.hb_model.specs.Registry.{pair_in, upload_in, stored_in}
use Rattle.hb_model.specs.Replay.{replay, size_of}
use Rattle.hb_model.specs.Moves.{takes_digest, moves}
use Rattle.hb_model.specs.Presence.{present, needed}
use Rattle.hb_model.specs.History.{Stands, latest}
use Rattle.hb_model.specs.Sound.{IsHeld, HasLength, OneLength}

-- what a world remembers when it starts
abbrev pub no_notes : Notes
no_notes = record { out = []; sealed = []; placements = []; spells = []; sightings = []; claims = [] }

-- held with bytes of its digest, and safe from the removals that were sent
pub record IsKept (c : Contents) (d : Digest) : Type 0 where
  pub held : IsHeld c d
  pub safe : ¬ (IsLapsing c d)

-- A removal may take effect only for content that a collection took, and not past the bar of that.
pub record MayLapse (j : List AuditEntry) (x : Lapsing) : Type 0 where
  pub stored : IsSome (stored_in (replay j) x.digest)
  pub taken : present j x.digest ≡ false
  pub barred : IsTrue (some_and (λ taking. nat_le x.until (taking.moment + WINDOW)) (last_kind (takes_digest x.digest) j))

-- nothing moved the spell's digest since it was taken
abbrev pub is_last_move : List AuditEntry → Spell → Bool
is_last_move j x = some_and (λ e. nat_eq e.number x.taking) (last_kind (moves x.digest) j)

-- What is held has the lengths that the audit and the notes say.
pub record HaveLengths (j : List AuditEntry) (n : Notes) (c : Contents) : Type 0 where
  pub present : (d : Digest) (size : ℕ) → IsTrue (present j d) → size_of j d ≡ Some size → HasLength c d size
  pub placed : AllByRecursion (λ x. x.gone ≡ 0 → HasLength c x.digest x.size) n.placements
  pub sighted : AllByRecursion (λ x. stored_in (replay j) x.digest ≡ None → HasLength c x.digest x.size) n.sightings

pub record IsWhole (rows : Tables) (n : Notes) (c : Contents) (t : ℕ) : Type 0 where
  -- the rows are those of a legal audit, whose last moment isn't after t
  pub stands : Stands rows
  pub now : latest rows.audit ≤ t
  -- what a project has is present, and it has what its artifacts need
  pub pairs_present : AllByRecursion (λ pair. IsTrue (present rows.audit pair.digest)) (replay rows.audit).pairs
  pub complete : (p : List ℕ) → AllByRecursion (λ d. IsSome (pair_in (replay rows.audit) p d)) (needed (replay rows.audit) p)
  -- what is present is held
  pub present_kept : (d : Digest) → IsTrue (present rows.audit d) → IsKept c d
  -- removals that may still take effect are those of content that was taken
  pub may_lapse : (x : Lapsing) → Contains c.lapsing x → c.clock < x.until → MayLapse rows.audit x
  -- a removal is sent once for each taking, and one that is done isn't lapsing
  pub one_spell : AllByRecursion (λ x. count_by (λ y. nat_eq x.taking y.taking) n.spells ≡ 1) n.spells
  pub acknowledged : AllByRecursion (λ x. IsTrue x.acknowledged → IsTrue (is_last_move rows.audit x) → ¬ (IsLapsing c x.digest)) n.spells
  -- what was placed and not taken since is held, and so is what was sighted and has no row
  pub placed : AllByRecursion (λ x. x.gone ≡ 0 → IsKept c x.digest) n.placements
  pub sighted : AllByRecursion (λ x. stored_in (replay rows.audit) x.digest ≡ None → IsKept c x.digest) n.sightings
  -- a sealed upload has ended, and its id is one that was given
  pub sealed : AllByRecursion (λ x. (upload_in (replay rows.audit) x.upload ≡ None) × (x.upload ≤ length rows.audit)) n.sealed
  -- what is held has the digest under which it is held, and was placed
  pub true_digests : AllByRecursion (λ x. digest_of x.bytes ≡ x.digest) c.held
  pub counted : AllByRecursion (λ x. Contains c.placed (record { digest = x.digest; size = length x.bytes })) c.held
  -- lengths, where no digest stands for two of them
  pub lengths : OneLength c → HaveLengths rows.audit n c
