-- The sizes of artifacts are those that are stored: each is that of the artifact's own pair.
use Rattle.std.proofs.Common.{◌≡◌, ℕ, Bool, true, false, cond, List, [], ◌∷◌, Option, Some, None, option_map, ◌⊎◌, inl, inr, is_some, refl, sym, ap, subst, ◌∙◌}
use Rattle.std.proofs.lemmas.Bool.{both_ways, false_from_ne_true, or_left, or_right}
use Rattle.std.proofs.lemmas.Cmp.{tied_itself}
use Rattle.std.proofs.lemmas.List.Folds.{list_any-append}
use Rattle.std.specs.List.{filter, flat_map}
use Rattle.std.specs.Ordering.{is_eq}
use Rattle.hb_base.specs.Tables.{row_at, changed_at}
use Rattle.hb_base.proofs.TableLaws.{equal_from, row_at-with, row_at-without, row_at-changed}
use Rattle.hb_text.specs.declared.digests.Digest.{Digest}
use Rattle.hb_text.specs.Names.{project_of}
use Rattle.hb_text.proofs.KeyOrders.{text_cmp-order}
use Rattle.hb_records.specs.Entries.{AuditEntry}
use Rattle.hb_records.specs.declared.entries.EntryKind.{EntryKind}
use Rattle.hb_records.specs.declared.entries.EntryKind.TheVariants.{Associated, Unassociated, ArtifactPut, ArtifactDropped, Pulled}
use Rattle.hb_records.specs.Orders.{NamedDigest, named_digest_cmp}
use Rattle.hb_records.proofs.KeyOrders.{named_digest_cmp-order}
use Rattle.hb_model.specs.Words.{same_text, same_digest, among}
use Rattle.hb_model.specs.Registry.{Registry, ArtifactItem, PairItem, artifact_key, pair_in, artifact_in}
use Rattle.hb_model.specs.Replay.{replay, step, size_of, artifacts_with}
use Rattle.hb_model.specs.Presence.{needed}
use Rattle.hb_model.specs.LegalBlobs.{LegalAssociated}
use Rattle.hb_model.specs.History.{LegalKind, History}
use Rattle.hb_history.proofs.KeptWhole.{needs, needed_by, itself-pair}
use Rattle.hb_history.proofs.PairSteps.{same_pair, pair_item, kept_or, pair_after, pair-step}
use Rattle.hb_history.proofs.Settled.{same-pair-digest, settled}
use Rattle.hb_history.proofs.Sizes.{sizes-stored}

abbrev artifact_size : Option ArtifactItem → Option ℕ
artifact_size = option_map (λ (x : ArtifactItem). x.size)

abbrev pair_size : Option PairItem → Option ℕ
pair_size = option_map (λ (x : PairItem). x.size)

exact-key : (k q : NamedDigest) → is_eq (named_digest_cmp k q) ≡ true → k ≡ q
exact-key k q e = named_digest_cmp-order.ties k q (equal_from _ e)

-- ---- an artifact after an entry has the size that it had, or the entry puts it with its size
abbrev Puts : EntryKind → NamedDigest → ℕ → Type 0
Puts (ArtifactPut name digest size media refs children tag) k s = (k ≡ (name, digest)) × (size ≡ s)
Puts _ k s = ⊥

changed-item : (b : Bool) (change : ArtifactItem → ArtifactItem) → ((x : ArtifactItem) → (change x).size ≡ x.size) → (y : Option ArtifactItem) → artifact_size (cond b (option_map change y) y) ≡ artifact_size y
changed-item true change keeps None = refl
changed-item true change keeps (Some x) = ap Some (keeps x)
changed-item false change keeps y = refl

size-changed : (k q : NamedDigest) (change : ArtifactItem → ArtifactItem) → ((x : ArtifactItem) → artifact_key (change x) ≡ artifact_key x) → ((x : ArtifactItem) → (change x).size ≡ x.size) → (items : List ArtifactItem) → artifact_size (row_at named_digest_cmp artifact_key k (changed_at named_digest_cmp artifact_key q change items)) ≡ artifact_size (row_at named_digest_cmp artifact_key k items)
size-changed k q change same_key same_size items = ap artifact_size (row_at-changed named_digest_cmp-order.total artifact_key k q change same_key items) ∙ changed-item (is_eq (named_digest_cmp k q)) change same_size (row_at named_digest_cmp artifact_key k items)

size-put : (k : NamedDigest) (s moment : ℕ) (name : List ℕ) (digest : Digest) (size : ℕ) (media : List ℕ) (refs children : List Digest) (x : Option ArtifactItem) (items : List ArtifactItem) → artifact_size (row_at named_digest_cmp artifact_key k (artifacts_with moment name digest size media refs children x items)) ≡ Some s → (artifact_size (row_at named_digest_cmp artifact_key k items) ≡ Some s) ⊎ ((k ≡ (name, digest)) × (size ≡ s))
size-put k s moment name digest size media refs children (Some x) items e = inl (sym (size-changed k (name, digest) _ (λ x. refl) (λ x. refl) items) ∙ e)
size-put k s moment name digest size media refs children None items e =
    let old = row_at named_digest_cmp artifact_key k items in
    let new : ArtifactItem = record { name = name; digest = digest; size = size; media = media; refs = refs; children = children; pushed = moment; pulled = 0 } in
    elim (is_eq (named_digest_cmp k (name, digest))) as (λ b. is_eq (named_digest_cmp k (name, digest)) ≡ b → artifact_size (cond b (Some new) old) ≡ Some s → (artifact_size old ≡ Some s) ⊎ ((k ≡ (name, digest)) × (size ≡ s))) [
      | true ↦ λ same f. inr (exact-key k (name, digest) same, cc f)
      | false ↦ λ other f. inl f
    ] refl (sym (ap artifact_size (row_at-with named_digest_cmp-order.total artifact_key k new items)) ∙ e)

left-size : (b : Bool) (y : Option ArtifactItem) (s : ℕ) → artifact_size (cond b None y) ≡ Some s → artifact_size y ≡ Some s
left-size true y s e = cc
left-size false y s e = e

size-before : (n moment : ℕ) (kind : EntryKind) (m : Registry) (name : List ℕ) (d : Digest) (s : ℕ) → artifact_size (artifact_in (step n moment kind m) name d) ≡ Some s → (artifact_size (artifact_in m name d) ≡ Some s) ⊎ Puts kind (name, d) s
size-before n moment (ArtifactPut q digest size media refs children tag) m name d s e = size-put (name, d) s moment q digest size media refs children (artifact_in m q digest) m.artifacts e
size-before n moment (ArtifactDropped job q digest) m name d s e = inl (left-size (is_eq (named_digest_cmp (name, d) (q, digest))) (artifact_in m name d) s (sym (ap artifact_size (row_at-without named_digest_cmp-order.total artifact_key (name, d) (q, digest) m.artifacts)) ∙ e))
size-before n moment (Pulled q digest) m name d s e = inl (sym (size-changed (name, d) (q, digest) (λ x. record x { pulled = moment }) (λ x. refl) (λ x. refl) m.artifacts) ∙ e)
size-before n moment _ m name d s e = inl e

-- ---- a project needs the digests of its artifacts
own-needed : (name : List ℕ) (d : Digest) (s : ℕ) (items : List ArtifactItem) → artifact_size (row_at named_digest_cmp artifact_key (name, d) items) ≡ Some s → among d (needed_by (project_of name) items) ≡ true
own-needed name d s [] e = cc
own-needed name d s (x ∷ items) e =
    let p = project_of name in
    let rest = needed_by p items in
    let more : Bool → Bool = λ b. among d (flat_map needs (cond b (x ∷ filter (λ x. same_text p (project_of x.name)) items) (filter (λ x. same_text p (project_of x.name)) items))) in
    elim (same_pair name d x.name x.digest) as (λ b. same_pair name d x.name x.digest ≡ b → artifact_size (cond b (Some x) (row_at named_digest_cmp artifact_key (name, d) items)) ≡ Some s → more (same_text p (project_of x.name)) ≡ true) [
      | true ↦ λ same f.
          let of : same_text p (project_of x.name) ≡ true = ap (λ (k : NamedDigest). same_text p (project_of k.0)) (sym (exact-key (name, d) (x.name, x.digest) same)) ∙ ap is_eq (tied_itself text_cmp-order.total p) in
          ap more of ∙ or_left (same_digest d x.digest) _ (same-pair-digest name d x.name x.digest same)
      | false ↦ λ other f.
          let later = own-needed name d s items f in
          elim (same_text p (project_of x.name)) as (λ b. more b ≡ true) [
            | true ↦ list_any-append (same_digest d) (needs x) rest ∙ or_right (among d (needs x)) (among d rest) later
            | false ↦ later
          ]
    ] refl e

-- ---- what one entry changes of an artifact's own pair
kept-size : (b : Bool) (new : PairItem) (y : Option PairItem) (s : ℕ) → pair_size y ≡ Some s → pair_size (cond b (kept_or new y) y) ≡ Some s
kept-size b new None s e = cc
kept-size true new (Some y) s e = e
kept-size false new (Some y) s e = e

own-size : (j : List AuditEntry) (t : ℕ) (kind : EntryKind) → LegalKind j t kind → (name : List ℕ) (d : Digest) (s : ℕ) → artifact_size (artifact_in (replay j) name d) ≡ Some s → pair_size (pair_in (replay j) (project_of name) d) ≡ Some s → pair_size (pair_after (project_of name) d kind (pair_in (replay j) (project_of name) d)) ≡ Some s
own-size j t (Associated project digest size) legal name d s there e = kept-size (same_pair (project_of name) d project digest) (pair_item project digest size) (pair_in (replay j) (project_of name) d) s e
own-size j t (ArtifactPut q digest size media refs children tag) legal name d s there e = kept-size (same_pair (project_of name) d (project_of q) digest) (pair_item (project_of q) digest size) (pair_in (replay j) (project_of name) d) s e
own-size j t (Unassociated job project digest) legal name d s there e =
    let p = project_of name in
    let other : same_pair p d project digest ≡ false = false_from_ne_true (same_pair p d project digest) (λ same.
    both_ways _ legal.unneeded (subst (λ (k : NamedDigest). among k.1 (needed (replay j) k.0) ≡ true) (exact-key (p, d) (project, digest) same) (own-needed name d s (replay j).artifacts there))) in
    ap (λ b. pair_size (cond b None (pair_in (replay j) p d))) other ∙ e
own-size j t _ legal name d s there e = e

-- the pair of an artifact that is put has the size of the entry
put-size : (j : List AuditEntry) (t : ℕ) (p : List ℕ) (d : Digest) (size : ℕ) → History j → LegalAssociated j t p d size → pair_size (kept_or (pair_item p d size) (pair_in (replay j) p d)) ≡ Some size
put-size j t p d size history legal =
    elim (pair_in (replay j) p d) as (λ y. pair_in (replay j) p d ≡ y → pair_size (kept_or (pair_item p d size) y) ≡ Some size) [
      | None ↦ λ absent. refl
      | Some y ↦ λ there. sym (sizes-stored j history p d y there) ∙ legal.same_size (settled j history p d (ap is_some there)).here
    ] refl

own-put : (j : List AuditEntry) (t : ℕ) (kind : EntryKind) → History j → LegalKind j t kind → (name : List ℕ) (d : Digest) (s : ℕ) → Puts kind (name, d) s → pair_size (pair_after (project_of name) d kind (pair_in (replay j) (project_of name) d)) ≡ Some s
own-put j t (ArtifactPut q digest size media refs children tag) history legal name d s (is, sized) =
    subst (λ (k : NamedDigest). pair_size (pair_after (project_of k.0) k.1 (ArtifactPut q digest size media refs children tag) (pair_in (replay j) (project_of k.0) k.1)) ≡ Some s) (sym is)
    (ap (λ b. pair_size (cond b (kept_or (pair_item (project_of q) digest size) (pair_in (replay j) (project_of q) digest)) (pair_in (replay j) (project_of q) digest))) (itself-pair (project_of q) digest)
    ∙ put-size j t (project_of q) digest size history legal.own ∙ ap Some sized)
own-put j t _ history legal name d s puts = absurd puts

-- ---- the law
own-step : (j : List AuditEntry) (t : ℕ) (kind : EntryKind) → History j → LegalKind j t kind → (name : List ℕ) (d : Digest) (s : ℕ) → (artifact_size (artifact_in (replay j) name d) ≡ Some s → pair_size (pair_in (replay j) (project_of name) d) ≡ Some s) → (artifact_size (artifact_in (replay j) name d) ≡ Some s) ⊎ Puts kind (name, d) s → pair_size (pair_after (project_of name) d kind (pair_in (replay j) (project_of name) d)) ≡ Some s
own-step j t kind history legal name d s own (inl before) = own-size j t kind legal name d s before (own before)
own-step j t kind history legal name d s own (inr puts) = own-put j t kind history legal name d s puts

own-sizes : (j : List AuditEntry) → History j → (name : List ℕ) (d : Digest) (s : ℕ) → artifact_size (artifact_in (replay j) name d) ≡ Some s → pair_size (pair_in (replay j) (project_of name) d) ≡ Some s
own-sizes [] legal name d s there = cc
own-sizes (e ∷ j) legal name d s there =
    ap pair_size (pair-step (project_of name) d e.number e.moment e.kind (replay j))
    ∙ own-step j e.moment e.kind legal.1 legal.0.kind name d s (own-sizes j legal.1 name d s) (size-before e.number e.moment e.kind (replay j) name d s there)

pub artifact-sizes-stored : (j : List AuditEntry) → History j → (name : List ℕ) (d : Digest) (x : ArtifactItem) → artifact_in (replay j) name d ≡ Some x → size_of j d ≡ Some x.size
artifact-sizes-stored j legal name d x there = either (pair_in (replay j) (project_of name) d) refl (own-sizes j legal name d x.size (ap artifact_size there))
  where
    either : (y : Option PairItem) → pair_in (replay j) (project_of name) d ≡ y → pair_size y ≡ Some x.size → size_of j d ≡ Some x.size
    either None absent e = cc
    either (Some y) own e = sizes-stored j legal (project_of name) d y own ∙ e
