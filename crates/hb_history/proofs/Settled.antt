-- What a project has is settled: its last move stored it or named it, and it is present.
use Rattle.std.proofs.Common.{◌≡◌, ℕ, Bool, true, false, not, cond, ◌&&◌, ◌||◌, List, [], ◌∷◌, Option, Some, None, IsSome, is_some, refl, sym, ap, subst, ◌∙◌}
use Rattle.std.proofs.lemmas.Bool.{and_parts, and_from, both_ways, false_from_ne_true, not-true, or_left, or_right, or_from}
use Rattle.std.specs.declared.cmp.Ordering.{Ordering}
use Rattle.std.specs.declared.cmp.Ordering.TheVariants.{Less, Equal, Greater}
use Rattle.std.specs.List.{filter, list_any, AllByRecursion}
use Rattle.std.specs.Ordering.{is_eq, ordering_then}
use Rattle.hb_base.specs.Tables.{row_at}
use Rattle.hb_base.proofs.TableLaws.{equal_from}
use Rattle.hb_text.specs.declared.digests.Digest.{Digest}
use Rattle.hb_text.specs.Names.{project_of}
use Rattle.hb_text.specs.Orders.{text_cmp, digest_cmp}
use Rattle.hb_text.proofs.KeyOrders.{digest_cmp-order}
use Rattle.hb_records.specs.Entries.{AuditEntry}
use Rattle.hb_records.specs.declared.entries.EntryKind.{EntryKind}
use Rattle.hb_records.specs.declared.entries.EntryKind.TheVariants.{Associated, Touched, Unassociated, ArtifactPut, GcMarked, Taking, Collected, GcSkipped, Adopted}
use Rattle.hb_records.specs.declared.jobs.Verdict.TheVariants as verdict
use Rattle.hb_records.specs.Orders.{named_digest_cmp}
use Rattle.hb_model.specs.Words.{same_digest, among, some_and, has_kind, last_kind, since_kind}
use Rattle.hb_model.specs.Registry.{StoredItem, PairItem, pair_key, pair_in, stored_in}
use Rattle.hb_model.specs.Replay.{replay}
use Rattle.hb_model.specs.Moves.{stores, takes_digest, collects, touches, marks, moves}
use Rattle.hb_model.specs.Presence.{present}
use Rattle.hb_model.specs.Grace.{is_owned, eligible, eligible_but_collecting, idle}
use Rattle.hb_model.specs.Presence.{collecting}
use Rattle.hb_model.specs.Jobs.{marks_for, takes_for}
use Rattle.hb_model.specs.LegalCollect.{last_move, next_page}
use Rattle.hb_model.specs.History.{LegalKind, Legal, History}
use Rattle.hb_model.proofs.EntrySteps.{present-newer}
use Rattle.hb_history.proofs.PairSteps.{same_pair, pair_item, kept_or, pair_after, pair-step, stored_item, stored_after, stored-step}

pub exact-digest : (a b : Digest) → same_digest a b ≡ true → a ≡ b
exact-digest a b e = digest_cmp-order.ties a b (equal_from _ e)

-- keys of two parts that tie do so in the second
then-second : (a b : Ordering) → is_eq (ordering_then a b) ≡ true → is_eq b ≡ true
then-second Less b e = cc
then-second Equal b e = e
then-second Greater b e = cc

pub same-pair-digest : (p : List ℕ) (d : Digest) (q : List ℕ) (e : Digest) → same_pair p d q e ≡ true → same_digest d e ≡ true
same-pair-digest p d q e h = then-second (text_cmp p q) (digest_cmp d e) h

-- ---- the digest's last move
-- the digest is stored or named
abbrev pub keeps : Digest → EntryKind → Bool
keeps d kind = stores d kind || touches d kind

-- stored, taken, collected, touched, marked: what is stored or touched is moved
moved : (a b c f g : Bool) → (a || f) ≡ true → (a || b || c || f || g) ≡ true
moved true b c f g e = refl
moved false true c f g e = refl
moved false false true f g e = refl
moved false false false true g e = refl
moved false false false false g e = cc

-- and what is none of the five isn't
still : (a b c f g : Bool) → (a || f) ≡ false → b ≡ false → c ≡ false → g ≡ false → (a || b || c || f || g) ≡ false
still true b c f g e t u v = cc
still false true c f g e t u v = cc
still false false true f g e t u v = cc
still false false false true g e t u v = cc
still false false false false g e t u v = v

pub record Settled (j : List AuditEntry) (d : Digest) : Type 0 where
  pub last : last_move (keeps d) j d ≡ true
  pub here : present j d ≡ true

-- ---- present after one more entry
stored-some : (d : Digest) (kind : EntryKind) (x : Option StoredItem) → stores d kind ≡ true → is_some (stored_after d kind x) ≡ true
stored-some d (Associated project digest size) x e = ap (λ b. is_some (cond b (Some (stored_item digest size)) x)) e
stored-some d (ArtifactPut name digest size media refs children tag) x e = ap (λ b. is_some (cond b (Some (stored_item digest size)) x)) e
stored-some d (Adopted job digest size) x e = ap (λ b. is_some (cond b (Some (stored_item digest size)) x)) e
stored-some d _ x e = cc

present-stored : (j : List AuditEntry) (e : AuditEntry) (d : Digest) → stores d e.kind ≡ true → present (e ∷ j) d ≡ true
present-stored j e d s =
    let here = ap is_some (stored-step d e.number e.moment e.kind (replay j)) ∙ stored-some d e.kind (stored_in (replay j) d) s in
    let none = ap (λ b. not (has_kind (takes_digest d) (cond b [] (e ∷ since_kind (stores d) j)))) s in
    and_from _ _ here none

-- ---- what isn't done to a digest that is settled
-- an entry that neither stores nor names the digest isn't the last move of one that is settled
not-last : (test : EntryKind → Bool) (d : Digest) → ((kind : EntryKind) → test kind ≡ true → keeps d kind ≡ false) → (last : Option AuditEntry) → some_and (λ e. test e.kind) last ≡ true → some_and (λ e. keeps d e.kind) last ≡ true → ⊥
not-last test d apart None e f = cc
not-last test d apart (Some x) e f = both_ways _ (apart x.kind e) f

apart-marks : (job : ℕ) (d : Digest) (kind : EntryKind) → marks_for job kind ≡ true → keeps d kind ≡ false
apart-marks job d (GcMarked owner digests barred upto last) e = refl
apart-marks job d _ e = cc

apart-takes : (job : ℕ) (taken d : Digest) (kind : EntryKind) → takes_for job taken kind ≡ true → keeps d kind ≡ false
apart-takes job taken d (Taking owner digest) e = refl
apart-takes job taken d _ e = cc

not-marked-for : (j : List AuditEntry) (job : ℕ) (d digest : Digest) → Settled j d → last_move (marks_for job) j digest ≡ true → same_digest d digest ≡ false
not-marked-for j job d digest h marked = false_from_ne_true (same_digest d digest) (λ same.
    not-last (marks_for job) d (apart-marks job d) (last_kind (moves d) j) (subst (λ z. last_move (marks_for job) j z ≡ true) (sym (exact-digest d digest same)) marked) h.last)

not-taken-for : (j : List AuditEntry) (job : ℕ) (d digest : Digest) → Settled j d → last_move (takes_for job digest) j digest ≡ true → same_digest d digest ≡ false
not-taken-for j job d digest h taken = false_from_ne_true (same_digest d digest) (λ same.
    not-last (takes_for job digest) d (apart-takes job digest d) (last_kind (moves d) j) (subst (λ z. last_move (takes_for job digest) j z ≡ true) (sym (exact-digest d digest same)) taken) h.last)

-- a digest among those that pass passes
among-passing : (d : Digest) (test : Digest → Bool) (digests : List Digest) → among d (filter test digests) ≡ true → test d ≡ true
among-passing d test [] e = cc
among-passing d test (x ∷ digests) e =
    elim (test x) as (λ b. test x ≡ b → among d (cond b (x ∷ filter test digests) (filter test digests)) ≡ true → test d ≡ true) [
      | true ↦ λ passes f. elim (same_digest d x) as (λ b. same_digest d x ≡ b → (b || among d (filter test digests)) ≡ true → test d ≡ true) [
        | true ↦ λ same g. subst (λ z. test z ≡ true) (sym (exact-digest d x same)) passes
        | false ↦ λ other g. among-passing d test digests g
      ] refl f
      | false ↦ λ fails f. among-passing d test digests f
    ] refl e

-- some project has the digest of a pair
owned : (p : List ℕ) (d : Digest) (items : List PairItem) → IsSome (row_at named_digest_cmp pair_key (p, d) items) → list_any (λ x. same_digest d x.digest) items ≡ true
owned p d [] h = cc
owned p d (x ∷ items) h =
    elim (same_pair p d x.project x.digest) as (λ b. same_pair p d x.project x.digest ≡ b → IsSome (cond b (Some x) (row_at named_digest_cmp pair_key (p, d) items)) → (same_digest d x.digest || list_any (λ x. same_digest d x.digest) items) ≡ true) [
      | true ↦ λ same g. ap (λ b. b || list_any (λ x. same_digest d x.digest) items) (same-pair-digest p d x.project x.digest same)
      | false ↦ λ other g. or_right (same_digest d x.digest) _ (owned p d items g)
    ] refl h

not-eligible : (j : List AuditEntry) (p : List ℕ) (d : Digest) (t : ℕ) → IsSome (pair_in (replay j) p d) → eligible j d t ≡ true → ⊥
not-eligible j p d t there e =
    let least = (and_parts (eligible_but_collecting j d t) (not (collecting j d t)) e).0 in
    let free = (and_parts (is_some (stored_in (replay j) d)) (not (is_owned (replay j) d)) (and_parts (is_some (stored_in (replay j) d) && not (is_owned (replay j) d)) (idle j d t) least).0).1 in
    both_ways _ (not-true _ free) (owned p d (replay j).pairs there)

-- a legal entry that neither stores nor names a settled digest of a project leaves it alone
pub record Unmoved (d : Digest) (kind : EntryKind) : Type 0 where
  pub untaken : takes_digest d kind ≡ false
  pub uncollected : collects d kind ≡ false
  pub unmarked : marks d kind ≡ false

pub unmoved : (j : List AuditEntry) (p : List ℕ) (d : Digest) (t : ℕ) (kind : EntryKind) → IsSome (pair_in (replay j) p d) → Settled j d → LegalKind j t kind → Unmoved d kind
unmoved j p d t (GcMarked job digests barred upto last) there h legal = record {
  untaken = refl;
  uncollected = refl;
  unmarked = false_from_ne_true (among d digests) (λ marked. not-eligible j p d t there (among-passing d (λ d. eligible j d t) (next_page j job) (subst (λ z. among d z ≡ true) legal.are_eligible marked)));
}
unmoved j p d t (Taking job digest) there h legal = record { untaken = not-marked-for j job d digest h legal.marked; uncollected = refl; unmarked = refl }
unmoved j p d t (Collected job digest) there h legal = record { untaken = refl; uncollected = not-taken-for j job d digest h legal.taken; unmarked = refl }
unmoved j p d t (GcSkipped job digest verdict.Barred) there h legal = record { untaken = refl; uncollected = refl; unmarked = not-taken-for j job d digest h legal.taken }
unmoved j p d t (GcSkipped job digest verdict.Failed) there h legal = record { untaken = refl; uncollected = refl; unmarked = not-taken-for j job d digest h legal.taken }
unmoved j p d t (GcSkipped job digest verdict.Pending) there h legal = record { untaken = refl; uncollected = refl; unmarked = refl }
unmoved j p d t (GcSkipped job digest verdict.Collected) there h legal = record { untaken = refl; uncollected = refl; unmarked = refl }
unmoved j p d t (GcSkipped job digest verdict.Touched) there h legal = record { untaken = refl; uncollected = refl; unmarked = refl }
unmoved j p d t _ there h legal = record { untaken = refl; uncollected = refl; unmarked = refl }

-- ---- which pairs are there
-- one that is made has a digest that is stored
not-made : (b stored : Bool) (new : PairItem) (x : Option PairItem) → (b ≡ true → stored ≡ true) → stored ≡ false → IsSome (cond b (kept_or new x) x) → IsSome x
not-made true stored new x made e h = let f = made refl in cc
not-made false stored new x made e h = h

-- a pair that an entry leaves was there where its digest isn't stored
pub pair-before : (p : List ℕ) (d : Digest) (kind : EntryKind) (x : Option PairItem) → stores d kind ≡ false → IsSome (pair_after p d kind x) → IsSome x
pair-before p d (Associated project digest size) x new h = not-made (same_pair p d project digest) (same_digest d digest) (pair_item project digest size) x (same-pair-digest p d project digest) new h
pair-before p d (ArtifactPut name digest size media refs children tag) x new h = not-made (same_pair p d (project_of name) digest) (same_digest d digest) (pair_item (project_of name) digest size) x (same-pair-digest p d (project_of name) digest) new h
pair-before p d (Unassociated job project digest) x new h = left (same_pair p d project digest) x h
  where
    left : (b : Bool) (x : Option PairItem) → IsSome (cond b None x) → IsSome x
    left true x h = cc
    left false x h = h
pair-before p d _ x new h = h

-- a digest of the list, all of which P holds of
of-all : (d : Digest) (P : Digest → Type 0) (digests : List Digest) → AllByRecursion P digests → among d digests ≡ true → P d
of-all d P [] h e = cc
of-all d P (x ∷ digests) h e =
    elim (same_digest d x) as (λ b. same_digest d x ≡ b → (b || among d digests) ≡ true → P d) [
      | true ↦ λ same f. subst P (sym (exact-digest d x same)) h.0
      | false ↦ λ other f. of-all d P digests h.1 f
    ] refl e

-- what an entry names is a project's
pub named-pair : (j : List AuditEntry) (t : ℕ) (kind : EntryKind) (d : Digest) → LegalKind j t kind → touches d kind ≡ true → (p : List ℕ) × IsSome (pair_in (replay j) p d)
named-pair j t (Touched project digest) d legal e = (project, subst (λ z. IsSome (pair_in (replay j) project z)) (sym (exact-digest d digest e)) legal.known)
named-pair j t (ArtifactPut name digest size media refs children tag) d legal e = (project_of name, of-all d (λ ref. IsSome (pair_in (replay j) (project_of name) ref)) refs legal.has_refs e)
named-pair j t _ d legal e = cc

-- what is named isn't marked, taken or collected
pub named-unmoved : (d : Digest) (kind : EntryKind) → touches d kind ≡ true → Unmoved d kind
named-unmoved d (Touched project digest) e = record { untaken = refl; uncollected = refl; unmarked = refl }
named-unmoved d (ArtifactPut name digest size media refs children tag) e = record { untaken = refl; uncollected = refl; unmarked = refl }
named-unmoved d _ e = cc

-- ---- the law
-- the last move is the entry, where it stores or names the digest
last-here : (j : List AuditEntry) (e : AuditEntry) (d : Digest) → keeps d e.kind ≡ true → last_move (keeps d) (e ∷ j) d ≡ true
last-here j e d k = ap (λ b. some_and (λ x. keeps d x.kind) (cond b (Some e) (last_kind (moves d) j))) (moved (stores d e.kind) (takes_digest d e.kind) (collects d e.kind) (touches d e.kind) (marks d e.kind) k) ∙ k

last-before : (j : List AuditEntry) (e : AuditEntry) (d : Digest) → keeps d e.kind ≡ false → Unmoved d e.kind → last_move (keeps d) (e ∷ j) d ≡ last_move (keeps d) j d
last-before j e d k u = ap (λ b. some_and (λ x. keeps d x.kind) (cond b (Some e) (last_kind (moves d) j))) (still (stores d e.kind) (takes_digest d e.kind) (collects d e.kind) (touches d e.kind) (marks d e.kind) k u.untaken u.uncollected u.unmarked)

settled-step : (j : List AuditEntry) (e : AuditEntry) → Legal j e → ((p : List ℕ) (d : Digest) → IsSome (pair_in (replay j) p d) → Settled j d) → (p : List ℕ) (d : Digest) → IsSome (pair_in (replay (e ∷ j)) p d) → Settled (e ∷ j) d
settled-step j e legal before p d there =
    elim (stores d e.kind) as (λ b. stores d e.kind ≡ b → Settled (e ∷ j) d) [
      | true ↦ λ s. record { last = last-here j e d (or_left (stores d e.kind) (touches d e.kind) s); here = present-stored j e d s }
      | false ↦ λ s. elim (touches d e.kind) as (λ b. touches d e.kind ≡ b → Settled (e ∷ j) d) [
        | true ↦ λ t.
            let known = named-pair j e.moment e.kind d legal.kind t in
            let u = named-unmoved d e.kind t in
            record { last = last-here j e d (or_right (stores d e.kind) (touches d e.kind) t); here = present-newer j e d u.untaken u.uncollected (before known.0 d known.1).here }
        | false ↦ λ t.
            let old = pair-before p d e.kind (pair_in (replay j) p d) s (subst IsSome (pair-step p d e.number e.moment e.kind (replay j)) there) in
            let h = before p d old in
            let u = unmoved j p d e.moment e.kind old h legal.kind in
            record { last = last-before j e d (or_from (stores d e.kind) (touches d e.kind) s t) u ∙ h.last; here = present-newer j e d u.untaken u.uncollected h.here }
      ] refl
    ] refl

pub settled : (j : List AuditEntry) → History j → (p : List ℕ) (d : Digest) → IsSome (pair_in (replay j) p d) → Settled j d
settled [] legal p d there = cc
settled (e ∷ j) legal p d there = settled-step j e legal.0 (settled j legal.1) p d there
