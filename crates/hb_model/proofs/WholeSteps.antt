-- What every event keeps, with an entry more: an item of `IsWhole` in each lemma, for every entry that doesn't touch
-- what the item speaks of; and all of them for quiet entries.
use Rattle.std.proofs.Common.{◌≡◌, ℕ, suc, ◌+◌, ◌≤◌, nat_eq, Bool, true, false, ◌||◌, List, ◌∷◌, length, count_by, None, IsTrue, refl, sym, ap, subst, ◌∙◌, arith}
use Rattle.std.specs.Prelude.{nat_le, IsSome}
use Rattle.std.specs.List.{AllByRecursion}
use Rattle.hb_base.specs.Tables.{row_at}
use Rattle.hb_text.specs.declared.digests.Digest.{Digest}
use Rattle.hb_records.specs.Entries.{AuditEntry}
use Rattle.hb_records.specs.Orders.{named_digest_cmp}
use Rattle.hb_records.specs.declared.entries.EntryKind.{EntryKind}
use Rattle.hb_records.specs.declared.entries.EntryKind.TheVariants.{Associated, Touched, Unassociated, ArtifactPut, GcMarked, Taking, Collected, GcSkipped, Adopted}
use Rattle.hb_records.specs.declared.notes.Notes.{Notes}
use Rattle.hb_records.specs.declared.notes.Placement.{Placement}
use Rattle.hb_records.specs.declared.notes.Sealed.{Sealed}
use Rattle.hb_records.specs.declared.notes.Sighting.{Sighting}
use Rattle.hb_records.specs.declared.notes.Spell.{Spell}
use Rattle.hb_rows.specs.Tables.{Tables}
use Rattle.hb_store.specs.Contents.{Contents, IsLapsing}
use Rattle.hb_store.specs.declared.rows.Lapsing.{Lapsing}
use Rattle.hb_model.specs.Effects.{after_entry}
use Rattle.hb_model.specs.History.{Legal, Stands}
use Rattle.hb_model.specs.Moves.{collects, marks, moves, stores, takes_digest, touches}
use Rattle.hb_model.specs.Presence.{needed, present}
use Rattle.hb_model.specs.Quiet.{SameContentNotes, is_quiet}
use Rattle.hb_model.specs.Registry.{PairItem, pair_in, pair_key, stored_in, upload_in}
use Rattle.hb_model.specs.Replay.{replay}
use Rattle.hb_model.specs.Sound.{HasLength}
use Rattle.hb_model.specs.Whole.{HaveLengths, IsKept, IsWhole, MayLapse, is_last_move, no_notes}
use Rattle.hb_model.specs.Words.{WINDOW, some_and}
use Rattle.hb_model.proofs.EntrySteps.{All-weaker, absent-newer, changes_pairs, last_kind-older, needed-older, no_upload-newer, pairs-same, present-newer, present-older, size-older, stored-newer, unstored-older}

module _ (j : List AuditEntry) (e : AuditEntry) where
  -- pairs stay, and nothing takes or collects their digests
  pub pairs_present-step : changes_pairs e.kind ≡ false → ((d : Digest) → takes_digest d e.kind ≡ false) → ((d : Digest) → collects d e.kind ≡ false) → AllByRecursion (λ pair. IsTrue (present j pair.digest)) (replay j).pairs → AllByRecursion (λ pair. IsTrue (present (e ∷ j) pair.digest)) (replay (e ∷ j)).pairs
  pairs_present-step same taken collected h =
      subst (AllByRecursion (λ pair. IsTrue (present (e ∷ j) pair.digest))) (sym (pairs-same e.number e.moment e.kind (replay j) same))
      (All-weaker (λ (pair : PairItem). IsTrue (present j pair.digest)) (λ (pair : PairItem). IsTrue (present (e ∷ j) pair.digest)) (λ pair. present-newer j e pair.digest (taken pair.digest) (collected pair.digest)) (replay j).pairs h)

  -- pairs stay
  pub complete-step : changes_pairs e.kind ≡ false → (p : List ℕ) → AllByRecursion (λ d. IsSome (pair_in (replay j) p d)) (needed (replay j) p) → AllByRecursion (λ d. IsSome (pair_in (replay (e ∷ j)) p d)) (needed (replay (e ∷ j)) p)
  complete-step same p h =
      needed-older (λ d. IsSome (pair_in (replay (e ∷ j)) p d)) p e.number e.moment e.kind (replay j) same
      (subst (λ (pairs : List PairItem). AllByRecursion (λ d. IsSome (row_at named_digest_cmp pair_key (p, d) pairs)) (needed (replay j) p)) (sym (pairs-same e.number e.moment e.kind (replay j) same)) h)

  -- nothing is stored
  pub present_kept-step : (c : Contents) → ((d : Digest) → stores d e.kind ≡ false) → ((d : Digest) → IsTrue (present j d) → IsKept c d) → (d : Digest) → IsTrue (present (e ∷ j) d) → IsKept c d
  present_kept-step c unstored h d now = h d (present-older j e d (unstored d) now)

  -- nothing is stored, taken or collected
  pub may_lapse-step : (x : Lapsing) → stores x.digest e.kind ≡ false → takes_digest x.digest e.kind ≡ false → collects x.digest e.kind ≡ false → MayLapse j x → MayLapse (e ∷ j) x
  may_lapse-step x unstored untaken uncollected h = record {
    stored = stored-newer x.digest e.number e.moment e.kind (replay j) uncollected h.stored;
    taken = absent-newer j e x.digest unstored h.taken;
    barred = ap (some_and (λ (taking : AuditEntry). nat_le x.until (taking.moment + WINDOW))) (last_kind-older (takes_digest x.digest) j e untaken) ∙ h.barred;
  }

  -- the digests of spells aren't moved
  pub acknowledged-step : (c : Contents) (spells : List Spell) → ((d : Digest) → moves d e.kind ≡ false) → AllByRecursion (λ x. IsTrue x.acknowledged → IsTrue (is_last_move j x) → ¬ (IsLapsing c x.digest)) spells → AllByRecursion (λ x. IsTrue x.acknowledged → IsTrue (is_last_move (e ∷ j) x) → ¬ (IsLapsing c x.digest)) spells
  acknowledged-step c spells unmoved =
      All-weaker (λ (x : Spell). IsTrue x.acknowledged → IsTrue (is_last_move j x) → ¬ (IsLapsing c x.digest)) (λ (x : Spell). IsTrue x.acknowledged → IsTrue (is_last_move (e ∷ j) x) → ¬ (IsLapsing c x.digest))
      (λ x h done last. h done (sym (ap (some_and (λ (z : AuditEntry). nat_eq z.number x.taking)) (last_kind-older (moves x.digest) j e (unmoved x.digest))) ∙ last)) spells

  -- nothing is collected
  pub sighted-step : (P : Sighting → Type 0) (sightings : List Sighting) → ((d : Digest) → collects d e.kind ≡ false) → AllByRecursion (λ x. stored_in (replay j) x.digest ≡ None → P x) sightings → AllByRecursion (λ x. stored_in (replay (e ∷ j)) x.digest ≡ None → P x) sightings
  sighted-step P sightings collected =
      All-weaker (λ (x : Sighting). stored_in (replay j) x.digest ≡ None → P x) (λ (x : Sighting). stored_in (replay (e ∷ j)) x.digest ≡ None → P x)
      (λ x h none. h (unstored-older x.digest e.number e.moment e.kind (replay j) (collected x.digest) none)) sightings

  -- every entry of the next number
  pub sealed-step : (sealed : List Sealed) → e.number ≡ suc (length j) → AllByRecursion (λ x. (upload_in (replay j) x.upload ≡ None) × (x.upload ≤ length j)) sealed → AllByRecursion (λ x. (upload_in (replay (e ∷ j)) x.upload ≡ None) × (x.upload ≤ length (e ∷ j))) sealed
  sealed-step sealed next =
      All-weaker (λ (x : Sealed). (upload_in (replay j) x.upload ≡ None) × (x.upload ≤ length j)) (λ (x : Sealed). (upload_in (replay (e ∷ j)) x.upload ≡ None) × (x.upload ≤ length (e ∷ j)))
      (λ x h. (no_upload-newer e.number e.moment e.kind (replay j) x.upload (omega (arith, next, h.1)) h.0, omega (arith, h.1))) sealed

  -- nothing is stored or collected
  pub lengths-step : (c : Contents) (n m : Notes) → SameContentNotes n m → ((d : Digest) → stores d e.kind ≡ false) → ((d : Digest) → collects d e.kind ≡ false) → HaveLengths j n c → HaveLengths (e ∷ j) m c
  lengths-step c n m same unstored collected h = record {
    present = λ d size here sized. h.present d size (present-older j e d (unstored d) here) (size-older j e d size (unstored d) sized);
    placed = subst (AllByRecursion (λ (x : Placement). x.gone ≡ 0 → HasLength c x.digest x.size)) (sym same.placements) h.placed;
    sighted = subst (AllByRecursion (λ (x : Sighting). stored_in (replay (e ∷ j)) x.digest ≡ None → HasLength c x.digest x.size)) (sym same.sightings) (sighted-step (λ x. HasLength c x.digest x.size) n.sightings collected h.sighted);
  }

-- ---- quiet entries
-- they move no digest
quiet-moves : (d : Digest) (kind : EntryKind) → IsTrue (is_quiet kind) → moves d kind ≡ false
quiet-moves d (Associated project digest size) q = cc
quiet-moves d (Touched project digest) q = cc
quiet-moves d (ArtifactPut name digest size media refs children tag) q = cc
quiet-moves d (GcMarked job digests barred upto last) q = cc
quiet-moves d (Taking job digest) q = cc
quiet-moves d (Collected job digest) q = cc
quiet-moves d (GcSkipped job digest why) q = cc
quiet-moves d (Adopted job digest size) q = cc
quiet-moves d _ q = refl

quiet-pairs : (kind : EntryKind) → IsTrue (is_quiet kind) → changes_pairs kind ≡ false
quiet-pairs (Associated project digest size) q = cc
quiet-pairs (Unassociated job project digest) q = cc
quiet-pairs (ArtifactPut name digest size media refs children tag) q = cc
quiet-pairs _ q = refl

none-of-five : (a b c x y : Bool) → (a || b || c || x || y) ≡ false → (a ≡ false) × (b ≡ false) × (c ≡ false)
none-of-five true b c x y h = cc
none-of-five false true c x y h = cc
none-of-five false false true x y h = cc
none-of-five false false false x y h = (refl, refl, refl)

-- an entry that doesn't move a digest neither stores nor takes nor collects it
pub unmoved-stores : (d : Digest) (kind : EntryKind) → moves d kind ≡ false → stores d kind ≡ false
unmoved-stores d kind h = (none-of-five (stores d kind) (takes_digest d kind) (collects d kind) (touches d kind) (marks d kind) h).0

pub unmoved-takes : (d : Digest) (kind : EntryKind) → moves d kind ≡ false → takes_digest d kind ≡ false
unmoved-takes d kind h = (none-of-five (stores d kind) (takes_digest d kind) (collects d kind) (touches d kind) (marks d kind) h).1

pub unmoved-collects : (d : Digest) (kind : EntryKind) → moves d kind ≡ false → collects d kind ≡ false
unmoved-collects d kind h = (none-of-five (stores d kind) (takes_digest d kind) (collects d kind) (touches d kind) (marks d kind) h).2

-- ---- rows
stands-step : (rows : Tables) (e : AuditEntry) → Stands rows → Legal rows.audit e → Stands (after_entry rows e)
stands-step rows e h legal = record { history = (legal, h.history); made = ap (λ t. after_entry t e) h.made }

pub quiet-whole : (rows : Tables) (n m : Notes) (c : Contents) (t : ℕ) (e : AuditEntry) → IsWhole rows n c t → Legal rows.audit e → IsTrue (is_quiet e.kind) → SameContentNotes n m → IsWhole (after_entry rows e) m c e.moment
quiet-whole rows n m c t e h legal quiet same =
    let j = rows.audit in
    let unmoved = λ (d : Digest). quiet-moves d e.kind quiet in
    let unstored = λ (d : Digest). unmoved-stores d e.kind (unmoved d) in
    let untaken = λ (d : Digest). unmoved-takes d e.kind (unmoved d) in
    let uncollected = λ (d : Digest). unmoved-collects d e.kind (unmoved d) in
    let pairs = quiet-pairs e.kind quiet in
    record {
      stands = stands-step rows e h.stands legal;
      now = omega arith;
      pairs_present = pairs_present-step j e pairs untaken uncollected h.pairs_present;
      complete = λ p. complete-step j e pairs p (h.complete p);
      present_kept = present_kept-step j e c unstored h.present_kept;
      may_lapse = λ x sent live. may_lapse-step j e x (unstored x.digest) (untaken x.digest) (uncollected x.digest) (h.may_lapse x sent live);
      one_spell = subst (λ (spells : List Spell). AllByRecursion (λ x. count_by (λ y. nat_eq x.taking y.taking) spells ≡ 1) spells) (sym same.spells) h.one_spell;
      acknowledged = subst (AllByRecursion (λ (x : Spell). IsTrue x.acknowledged → IsTrue (is_last_move (e ∷ j) x) → ¬ (IsLapsing c x.digest))) (sym same.spells) (acknowledged-step j e c n.spells unmoved h.acknowledged);
      placed = subst (AllByRecursion (λ (x : Placement). x.gone ≡ 0 → IsKept c x.digest)) (sym same.placements) h.placed;
      sighted = subst (AllByRecursion (λ (x : Sighting). stored_in (replay (e ∷ j)) x.digest ≡ None → IsKept c x.digest)) (sym same.sightings) (sighted-step j e (λ x. IsKept c x.digest) n.sightings uncollected h.sighted);
      sealed = subst (AllByRecursion (λ (x : Sealed). (upload_in (replay (e ∷ j)) x.upload ≡ None) × (x.upload ≤ length (e ∷ j)))) (sym same.sealed) (sealed-step j e n.sealed legal.numbered h.sealed);
      true_digests = h.true_digests;
      counted = h.counted;
      lengths = λ one. lengths-step j e c n m same unstored uncollected (h.lengths one);
    }

-- ---- a stop
pub whole-without_notes : (rows : Tables) (n : Notes) (c : Contents) (t : ℕ) → IsWhole rows n c t → IsWhole rows no_notes c t
whole-without_notes rows n c t h = record {
  stands = h.stands;
  now = h.now;
  pairs_present = h.pairs_present;
  complete = h.complete;
  present_kept = h.present_kept;
  may_lapse = h.may_lapse;
  one_spell = tt;
  acknowledged = tt;
  placed = tt;
  sighted = tt;
  sealed = tt;
  true_digests = h.true_digests;
  counted = h.counted;
  lengths = λ one. record { present = (h.lengths one).present; placed = tt; sighted = tt };
}
