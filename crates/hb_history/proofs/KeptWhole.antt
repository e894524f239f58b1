-- An entry by which a project gets content that is held, or touches it, keeps the registry whole.
use Rattle.std.proofs.Common.{◌≡◌, ◌≤◌, ◌<◌, ℕ, Bool, true, false, cond, ◌||◌, List, [], ◌∷◌, ◌++◌, length, Option, Some, None, option_map, is_some, Contains, IsTrue, IsSome, count_by, nat_eq, refl, sym, ap, subst, ◌∙◌, arith}
use Rattle.std.specs.List.{AllByRecursion, filter, flat_map}
use Rattle.std.specs.Ordering.{is_eq}
use Rattle.std.proofs.lemmas.Cmp.{tied_itself}
use Rattle.hb_base.proofs.TableLaws.{equal_from}
use Rattle.hb_text.specs.declared.digests.Digest.{Digest}
use Rattle.hb_text.specs.Names.{project_of}
use Rattle.hb_text.specs.Orders.{digest_cmp}
use Rattle.hb_text.proofs.KeyOrders.{text_cmp-order, digest_cmp-order}
use Rattle.hb_records.specs.Entries.{AuditEntry}
use Rattle.hb_records.specs.Orders.{named_digest_cmp}
use Rattle.hb_records.proofs.KeyOrders.{named_digest_cmp-order}
use Rattle.hb_records.specs.declared.entries.EntryKind.{EntryKind}
use Rattle.hb_records.specs.declared.entries.EntryKind.TheVariants.{Associated, Touched, ArtifactPut}
use Rattle.hb_records.specs.declared.notes.Notes.{Notes}
use Rattle.hb_records.specs.declared.notes.Placement.{Placement}
use Rattle.hb_records.specs.declared.notes.Sealed.{Sealed}
use Rattle.hb_records.specs.declared.notes.Sighting.{Sighting}
use Rattle.hb_records.specs.declared.notes.Spell.{Spell}
use Rattle.hb_rows.specs.Tables.{Tables}
use Rattle.hb_store.specs.Contents.{Contents, IsLapsing}
use Rattle.hb_store.specs.declared.rows.Lapsing.{Lapsing}
use Rattle.hb_model.specs.Words.{same_text, same_digest, some_and}
use Rattle.hb_model.specs.Registry.{Registry, ArtifactItem, PairItem, StoredItem, pair_in, artifact_in, upload_in, stored_in, artifact_key, pair_key}
use Rattle.hb_model.specs.Replay.{replay, step, size_of, artifacts_with}
use Rattle.hb_model.specs.Moves.{stores, takes_digest, collects, touches, moves}
use Rattle.hb_model.specs.Presence.{present, needed}
use Rattle.hb_model.specs.History.{History, Legal, LegalKind}
use Rattle.hb_model.specs.Effects.{after_entry}
use Rattle.hb_model.specs.Sound.{OneLength, HasLength}
use Rattle.hb_model.specs.Whole.{IsWhole, IsKept, MayLapse, HaveLengths, is_last_move}
use Rattle.hb_model.proofs.EntrySteps.{All-weaker, present-older, size-older, last_kind-older}
use Rattle.hb_model.proofs.WholeSteps.{may_lapse-step, sighted-step, sealed-step}
use Rattle.hb_history.specs.Naming.{Names, FewerPlacements}
use Rattle.hb_history.proofs.AllRows.{all-passing, all-with, all-changed}
use Rattle.hb_history.proofs.FoundRows.{all_found}
use Rattle.hb_history.proofs.PairSteps.{pair-step, pair_after, kept_or, pair_item, same_pair, stored-step, stored_after, stored_item}
use Rattle.hb_history.proofs.PairTables.{pairs-rise}
use Rattle.hb_history.proofs.Settled.{exact-digest, named-pair, settled}

-- ---- what such an entry does
pub untaken : (kind : EntryKind) (d : Digest) (s : ℕ) (q : Digest) → Names kind d s → takes_digest q kind ≡ false
untaken (Associated project digest size) d s q h = refl
untaken (Touched project digest) d s q h = refl
untaken (ArtifactPut name digest size media refs children tag) d s q h = refl
untaken _ d s q h = absurd h

pub uncollected : (kind : EntryKind) (d : Digest) (s : ℕ) (q : Digest) → Names kind d s → collects q kind ≡ false
uncollected (Associated project digest size) d s q h = refl
uncollected (Touched project digest) d s q h = refl
uncollected (ArtifactPut name digest size media refs children tag) d s q h = refl
uncollected _ d s q h = absurd h

-- what it stores is its digest
stored-is : (kind : EntryKind) (d : Digest) (s : ℕ) (q : Digest) → Names kind d s → stores q kind ≡ true → q ≡ d
stored-is (Associated project digest size) d s q h e = exact-digest q digest e ∙ h.0
stored-is (Touched project digest) d s q h e = cc e
stored-is (ArtifactPut name digest size media refs children tag) d s q h e = exact-digest q digest e ∙ h.0
stored-is _ d s q h e = absurd h

-- what it moves it stores or touches
moved-by : (kind : EntryKind) (d : Digest) (s : ℕ) (q : Digest) → Names kind d s → moves q kind ≡ true → (stores q kind || touches q kind) ≡ true
moved-by (Associated project digest size) d s q h e = two (same_digest q digest) e
  where
    two : (a : Bool) → (a || false || false || false || false) ≡ true → (a || false) ≡ true
    two true e = refl
    two false e = e
moved-by (Touched project digest) d s q h e = two (same_digest q digest) e
  where
    two : (f : Bool) → (false || false || false || f || false) ≡ true → (false || f) ≡ true
    two true e = refl
    two false e = e
moved-by (ArtifactPut name digest size media refs children tag) d s q h e = two (same_digest q digest) (touches q (ArtifactPut name digest size media refs children tag)) e
  where
    two : (a f : Bool) → (a || false || false || f || false) ≡ true → (a || f) ≡ true
    two true f e = refl
    two false true e = refl
    two false false e = e
moved-by _ d s q h e = absurd h

-- ---- after it
module _ (rows : Tables) (n m : Notes) (c : Contents) (t : ℕ) (e : AuditEntry) (d : Digest) (s : ℕ) (h : IsWhole rows n c t) (legal : Legal rows.audit e) (is : Names e.kind d s) (kept : IsKept c d) where
  kept-stored : (q : Digest) → stores q e.kind ≡ true → IsKept c q
  kept-stored q stored = subst (IsKept c) (sym (stored-is e.kind d s q is stored)) kept

  -- what it touches, a project has
  kept-touched : (q : Digest) → touches q e.kind ≡ true → IsKept c q
  kept-touched q touched =
      let pair = named-pair rows.audit e.moment e.kind q legal.kind touched in
      h.present_kept q (settled rows.audit h.stands.history pair.0 q pair.1).here

  kept-moved : (q : Digest) → moves q e.kind ≡ true → IsKept c q
  kept-moved q moved = either (stores q e.kind) refl (moved-by e.kind d s q is moved)
    where
      either : (b : Bool) → stores q e.kind ≡ b → (b || touches q e.kind) ≡ true → IsKept c q
      either true stored f = kept-stored q stored
      either false unstored f = kept-touched q f

  present_kept-after : (q : Digest) → IsTrue (present (e ∷ rows.audit) q) → IsKept c q
  present_kept-after q here = either (stores q e.kind) refl
    where
      either : (b : Bool) → stores q e.kind ≡ b → IsKept c q
      either true stored = kept-stored q stored
      either false unstored = h.present_kept q (present-older rows.audit e q unstored here)

  may_lapse-after : (x : Lapsing) → Contains c.lapsing x → c.clock < x.until → MayLapse (e ∷ rows.audit) x
  may_lapse-after x sent live = either (stores x.digest e.kind) refl
    where
      either : (b : Bool) → stores x.digest e.kind ≡ b → MayLapse (e ∷ rows.audit) x
      either true stored = absurd ((kept-stored x.digest stored).safe (x.until, sent, live))
      either false unstored = may_lapse-step rows.audit e x unstored (untaken e.kind d s x.digest is) (uncollected e.kind d s x.digest is) (h.may_lapse x sent live)

  acknowledged-after : AllByRecursion (λ x. IsTrue x.acknowledged → IsTrue (is_last_move (e ∷ rows.audit) x) → ¬ (IsLapsing c x.digest)) n.spells
  acknowledged-after =
      All-weaker (λ (x : Spell). IsTrue x.acknowledged → IsTrue (is_last_move rows.audit x) → ¬ (IsLapsing c x.digest)) (λ (x : Spell). IsTrue x.acknowledged → IsTrue (is_last_move (e ∷ rows.audit) x) → ¬ (IsLapsing c x.digest))
      (λ x before done last. either x (moves x.digest e.kind) refl before done last) n.spells h.acknowledged
    where
      either : (x : Spell) (b : Bool) → moves x.digest e.kind ≡ b → (IsTrue x.acknowledged → IsTrue (is_last_move rows.audit x) → ¬ (IsLapsing c x.digest)) → IsTrue x.acknowledged → IsTrue (is_last_move (e ∷ rows.audit) x) → ¬ (IsLapsing c x.digest)
      either x true moved before done last = (kept-moved x.digest moved).safe
      either x false unmoved before done last = before done (sym (ap (some_and (λ (z : AuditEntry). nat_eq z.number x.taking)) (last_kind-older (moves x.digest) rows.audit e unmoved)) ∙ last)

-- ---- pairs, and what projects need
pairs-present : (j : List AuditEntry) → History j → AllByRecursion (λ pair. IsTrue (present j pair.digest)) (replay j).pairs
pairs-present j h = all_found named_digest_cmp-order.total pair_key (λ pair. IsTrue (present j pair.digest)) (replay j).pairs (pairs-rise j) (λ pair found. (settled j h pair.project pair.digest (ap is_some found)).here)

kept-some : (new : PairItem) (x : Option PairItem) → IsSome (kept_or new x)
kept-some new None = refl
kept-some new (Some x) = refl

-- a pair that is there stays
pair-stays : (p : List ℕ) (q : Digest) (kind : EntryKind) (d : Digest) (s : ℕ) (x : Option PairItem) → Names kind d s → IsSome x → IsSome (pair_after p q kind x)
pair-stays p q (Associated project digest size) d s x is there = either (same_pair p q project digest)
  where
    either : (b : Bool) → IsSome (cond b (kept_or (pair_item project digest size) x) x)
    either true = kept-some (pair_item project digest size) x
    either false = there
pair-stays p q (Touched project digest) d s x is there = there
pair-stays p q (ArtifactPut name digest size media refs children tag) d s x is there = either (same_pair p q (project_of name) digest)
  where
    either : (b : Bool) → IsSome (cond b (kept_or (pair_item (project_of name) digest size) x) x)
    either true = kept-some (pair_item (project_of name) digest size) x
    either false = there
pair-stays p q _ d s x is there = absurd is

pub all-filter : {A : Type 0} (P : A → Type 0) (test : A → Bool) (xs : List A) → AllByRecursion P xs → AllByRecursion P (filter test xs)
all-filter P test xs h = all-passing P test xs (All-weaker P (λ x. IsTrue (test x) → P x) (λ x p _. p) xs h)

-- ---- what artifacts need
abbrev pub needs : ArtifactItem → List Digest
needs x = x.digest ∷ x.refs

abbrev pub needed_by : List ℕ → List ArtifactItem → List Digest
needed_by p items = flat_map needs (filter (λ x. same_text p (project_of x.name)) items)

module _ (P : Digest → Type 0) (p : List ℕ) where
  -- an artifact of the project needs only such digests
  abbrev IsFed : ArtifactItem → Type 0
  IsFed x = IsTrue (same_text p (project_of x.name)) → AllByRecursion P (needs x)

  all-front : (xs ys : List Digest) → AllByRecursion P (xs ++ ys) → AllByRecursion P xs
  all-front [] ys h = tt
  all-front (x ∷ xs) ys h = (h.0, all-front xs ys h.1)

  all-behind : (xs ys : List Digest) → AllByRecursion P (xs ++ ys) → AllByRecursion P ys
  all-behind [] ys h = h
  all-behind (x ∷ xs) ys h = all-behind xs ys h.1

  all-joined : (xs ys : List Digest) → AllByRecursion P xs → AllByRecursion P ys → AllByRecursion P (xs ++ ys)
  all-joined [] ys h k = k
  all-joined (x ∷ xs) ys h k = (h.0, all-joined xs ys h.1 k)

  -- what all need, one by one
  all-fed : (items : List ArtifactItem) → AllByRecursion P (needed_by p items) → AllByRecursion IsFed items
  all-fed [] h = tt
  all-fed (x ∷ items) h = either (same_text p (project_of x.name)) refl h (all-fed items)
    where
      either : (b : Bool) → same_text p (project_of x.name) ≡ b → AllByRecursion P (flat_map needs (cond b (x ∷ filter (λ x. same_text p (project_of x.name)) items) (filter (λ x. same_text p (project_of x.name)) items))) → (AllByRecursion P (needed_by p items) → AllByRecursion IsFed items) → IsFed x × AllByRecursion IsFed items
      either true of h rest = ((λ _. all-front (needs x) (needed_by p items) h), rest (all-behind (needs x) (needed_by p items) h))
      either false other h rest = ((λ of. let clash : true ≡ false = sym of ∙ other in cc clash), rest h)

  fed-all : (items : List ArtifactItem) → AllByRecursion IsFed items → AllByRecursion P (needed_by p items)
  fed-all [] h = tt
  fed-all (x ∷ items) h = either (same_text p (project_of x.name)) refl (fed-all items h.1)
    where
      either : (b : Bool) → same_text p (project_of x.name) ≡ b → AllByRecursion P (needed_by p items) → AllByRecursion P (flat_map needs (cond b (x ∷ filter (λ x. same_text p (project_of x.name)) items) (filter (λ x. same_text p (project_of x.name)) items)))
      either true of rest = all-joined (needs x) (needed_by p items) (h.0 of) rest
      either false other rest = rest

fed-put : (P : Digest → Type 0) (p : List ℕ) (moment : ℕ) (name : List ℕ) (digest : Digest) (size : ℕ) (media : List ℕ) (refs children : List Digest) (x : Option ArtifactItem) (items : List ArtifactItem) → (IsTrue (same_text p (project_of name)) → AllByRecursion P (digest ∷ refs)) → AllByRecursion (IsFed P p) items → AllByRecursion (IsFed P p) (artifacts_with moment name digest size media refs children x items)
fed-put P p moment name digest size media refs children None items own h = all-with named_digest_cmp artifact_key (IsFed P p) _ items own h
fed-put P p moment name digest size media refs children (Some x) items own h = all-changed named_digest_cmp artifact_key (IsFed P p) (name, digest) _ (λ x fed. fed) items h

exact-text : (a b : List ℕ) → same_text a b ≡ true → a ≡ b
exact-text a b e = text_cmp-order.ties a b (equal_from _ e)

pub itself-pair : (p : List ℕ) (q : Digest) → same_pair p q p q ≡ true
itself-pair p q = ap is_eq (tied_itself named_digest_cmp-order.total (p, q))

-- a project has what its artifacts need
needed-after : (P : Digest → Type 0) (p : List ℕ) (n moment : ℕ) (kind : EntryKind) (m : Registry) (d : Digest) (s : ℕ) → Names kind d s
    → ((project : List ℕ) (q : Digest) → p ≡ project → IsSome (pair_after project q kind (pair_in m project q)) → P q)
    → ((name : List ℕ) (digest : Digest) (size : ℕ) (media : List ℕ) (refs children : List Digest) (tag : Option (List ℕ)) → kind ≡ ArtifactPut name digest size media refs children tag → p ≡ project_of name → AllByRecursion P refs)
    → AllByRecursion P (needed m p) → AllByRecursion P (needed (step n moment kind m) p)
needed-after P p n moment (Associated project digest size) m d s is own refs_there h = h
needed-after P p n moment (Touched project digest) m d s is own refs_there h = h
needed-after P p n moment (ArtifactPut name digest size media refs children tag) m d s is own refs_there h =
    fed-all P p (artifacts_with moment name digest size media refs children (artifact_in m name digest) m.artifacts)
    (fed-put P p moment name digest size media refs children (artifact_in m name digest) m.artifacts
    (λ of. let same = exact-text p (project_of name) of in (
      own (project_of name) digest same (ap (λ b. is_some (cond b (kept_or (pair_item (project_of name) digest size) (pair_in m (project_of name) digest)) (pair_in m (project_of name) digest))) (itself-pair (project_of name) digest) ∙ kept-some (pair_item (project_of name) digest size) (pair_in m (project_of name) digest)),
      refs_there name digest size media refs children tag refl same,
    ))
    (all-fed P p m.artifacts h))
needed-after P p n moment _ m d s is own refs_there h = absurd is

-- ---- lengths
same-itself : (d digest : Digest) → digest ≡ d → same_digest d digest ≡ true
same-itself d digest e = ap (λ q. is_eq (digest_cmp d q)) e ∙ ap is_eq (tied_itself digest_cmp-order.total d)

stored-size : (kind : EntryKind) (d : Digest) (s : ℕ) (x : Option StoredItem) → Names kind d s → stores d kind ≡ true → stored_after d kind x ≡ Some (stored_item d s)
stored-size (Associated project digest size) d s x is stored = ap (λ b. cond b (Some (stored_item digest size)) x) (same-itself d digest is.0) ∙ λ i. Some (stored_item (is.0 i) (is.1 i))
stored-size (Touched project digest) d s x is stored = cc stored
stored-size (ArtifactPut name digest size media refs children tag) d s x is stored = ap (λ b. cond b (Some (stored_item digest size)) x) (same-itself d digest is.0) ∙ λ i. Some (stored_item (is.0 i) (is.1 i))
stored-size _ d s x is stored = absurd is

lengths-after : (rows : Tables) (n m : Notes) (c : Contents) (e : AuditEntry) (d : Digest) (s : ℕ) → Names e.kind d s → HasLength c d s → FewerPlacements n m → HaveLengths rows.audit n c → HaveLengths (e ∷ rows.audit) m c
lengths-after rows n m c e d s is sized fewer h = record {
  present = λ q size here of. either q size here of (stores q e.kind) refl;
  placed = subst (AllByRecursion (λ (x : Placement). x.gone ≡ 0 → HasLength c x.digest x.size)) (sym fewer.placements) (all-filter (λ (x : Placement). x.gone ≡ 0 → HasLength c x.digest x.size) fewer.test n.placements h.placed);
  sighted = subst (AllByRecursion (λ (x : Sighting). stored_in (replay (e ∷ rows.audit)) x.digest ≡ None → HasLength c x.digest x.size)) (sym fewer.sightings) (sighted-step rows.audit e (λ x. HasLength c x.digest x.size) n.sightings (λ q. uncollected e.kind d s q is) h.sighted);
}
  where
    either : (q : Digest) (size : ℕ) → IsTrue (present (e ∷ rows.audit) q) → size_of (e ∷ rows.audit) q ≡ Some size → (b : Bool) → stores q e.kind ≡ b → HasLength c q size
    either q size here of true stored =
        let same = stored-is e.kind d s q is stored in
        let found : Some s ≡ Some size = sym (ap (option_map (λ (x : StoredItem). x.size)) (stored-step d e.number e.moment e.kind (replay rows.audit) ∙ stored-size e.kind d s (stored_in (replay rows.audit) d) is (subst (λ q. stores q e.kind ≡ true) same stored))) ∙ ap (size_of (e ∷ rows.audit)) (sym same) ∙ of in
        let length_is : s ≡ size = cc found in
        subst (λ q. HasLength c q size) (sym same) (subst (HasLength c d) length_is sized)
    either q size here of false unstored = h.present q size (present-older rows.audit e q unstored here) (size-older rows.audit e q size unstored of)

-- ---- all of it
-- a pair that is there before it is there after it
still-there : (j : List AuditEntry) (e : AuditEntry) (d : Digest) (s : ℕ) → Names e.kind d s → (p : List ℕ) (q : Digest) → IsSome (pair_in (replay j) p q) → IsSome (pair_in (replay (e ∷ j)) p q)
still-there j e d s is p q there = subst IsSome (sym (pair-step p q e.number e.moment e.kind (replay j))) (pair-stays p q e.kind d s (pair_in (replay j) p q) is there)

complete-after : (j : List AuditEntry) (e : AuditEntry) (d : Digest) (s : ℕ) → Legal j e → Names e.kind d s → (p : List ℕ) → AllByRecursion (λ q. IsSome (pair_in (replay j) p q)) (needed (replay j) p) → AllByRecursion (λ q. IsSome (pair_in (replay (e ∷ j)) p q)) (needed (replay (e ∷ j)) p)
complete-after j e d s legal is p before =
    needed-after (λ q. IsSome (pair_in (replay (e ∷ j)) p q)) p e.number e.moment e.kind (replay j) d s is
    (λ project q same there. subst (λ x. IsSome (pair_in (replay (e ∷ j)) x q)) (sym same) (subst IsSome (sym (pair-step project q e.number e.moment e.kind (replay j))) there))
    (λ name digest size media refs children tag put same.
    let legal_put : LegalKind j e.moment (ArtifactPut name digest size media refs children tag) = subst (LegalKind j e.moment) put legal.kind in
    All-weaker (λ q. IsSome (pair_in (replay j) (project_of name) q)) (λ q. IsSome (pair_in (replay (e ∷ j)) p q))
    (λ q there. still-there j e d s is p q (subst (λ x. IsSome (pair_in (replay j) x q)) (sym same) there)) refs legal_put.has_refs)
    (All-weaker (λ q. IsSome (pair_in (replay j) p q)) (λ q. IsSome (pair_in (replay (e ∷ j)) p q)) (still-there j e d s is p) (needed (replay j) p) before)

pub kept-whole : (rows : Tables) (n m : Notes) (c : Contents) (t : ℕ) (e : AuditEntry) (d : Digest) (s : ℕ) → IsWhole rows n c t → Legal rows.audit e → Names e.kind d s → IsKept c d → (OneLength c → HasLength c d s) → FewerPlacements n m → IsWhole (after_entry rows e) m c e.moment
kept-whole rows n m c t e d s h legal is kept sized fewer =
    let j = rows.audit in
    let history : History (e ∷ j) = (legal, h.stands.history) in
    let none_collected = λ (q : Digest). uncollected e.kind d s q is in
    record {
      stands = record { history = history; made = ap (λ t. after_entry t e) h.stands.made };
      now = omega arith;
      pairs_present = pairs-present (e ∷ j) history;
      complete = λ p. complete-after j e d s legal is p (h.complete p);
      present_kept = present_kept-after rows n m c t e d s h legal is kept;
      may_lapse = may_lapse-after rows n m c t e d s h legal is kept;
      one_spell = subst (λ (spells : List Spell). AllByRecursion (λ x. count_by (λ y. nat_eq x.taking y.taking) spells ≡ 1) spells) (sym fewer.spells) h.one_spell;
      acknowledged = subst (AllByRecursion (λ (x : Spell). IsTrue x.acknowledged → IsTrue (is_last_move (e ∷ j) x) → ¬ (IsLapsing c x.digest))) (sym fewer.spells) (acknowledged-after rows n m c t e d s h legal is kept);
      placed = subst (AllByRecursion (λ (x : Placement). x.gone ≡ 0 → IsKept c x.digest)) (sym fewer.placements) (all-filter (λ (x : Placement). x.gone ≡ 0 → IsKept c x.digest) fewer.test n.placements h.placed);
      sighted = subst (AllByRecursion (λ (x : Sighting). stored_in (replay (e ∷ j)) x.digest ≡ None → IsKept c x.digest)) (sym fewer.sightings) (sighted-step j e (λ x. IsKept c x.digest) n.sightings none_collected h.sighted);
      sealed = subst (AllByRecursion (λ (x : Sealed). (upload_in (replay (e ∷ j)) x.upload ≡ None) × (x.upload ≤ length (e ∷ j)))) (sym fewer.sealed) (sealed-step j e n.sealed legal.numbered h.sealed);
      true_digests = h.true_digests;
      counted = h.counted;
      lengths = λ one. lengths-after rows n m c e d s is (sized one) fewer (h.lengths one);
    }
