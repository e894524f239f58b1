-- What children and tags name is there: only a drop takes an artifact away, one that no artifact lists, and its tags
-- go with it.
use Rattle.std.proofs.Common.{◌≡◌, ℕ, Bool, false, cond, ◌&&◌, List, [], ◌∷◌, Option, Some, None, option_map, is_some, IsSome, refl, sym, ap, subst, ◌∙◌, ⊎_elim}
use Rattle.std.proofs.lemmas.Bool.{and_cases, and_left, and_right, cond_both, not-true}
use Rattle.std.proofs.lemmas.Cmp.{eq_by_cmp_equiv}
use Rattle.std.specs.List.{AllByRecursion}
use Rattle.std.specs.Ordering.{is_eq, ordering_then}
use Rattle.std.specs.declared.cmp.Ordering.{Ordering}
use Rattle.std.specs.declared.cmp.Ordering.TheVariants.{Less, Equal, Greater}
use Rattle.hb_base.specs.Tables.{row_at, without_key, changed_at}
use Rattle.hb_base.proofs.TableLaws.{row_at-with, row_at-without, row_at-changed}
use Rattle.hb_text.specs.declared.digests.Digest.{Digest}
use Rattle.hb_text.specs.Orders.{text_cmp, digest_cmp}
use Rattle.hb_records.specs.Entries.{AuditEntry}
use Rattle.hb_records.specs.Orders.{NamedDigest, named_digest_cmp, named_tag_cmp}
use Rattle.hb_records.specs.declared.entries.EntryKind.{EntryKind}
use Rattle.hb_records.specs.declared.entries.EntryKind.TheVariants.{ArtifactPut, ArtifactDropped, TagDropped, Pulled, RetainTurn}
use Rattle.hb_records.proofs.KeyOrders.{named_digest_cmp-order}
use Rattle.hb_model.specs.Words.{same_text, same_digest, among}
use Rattle.hb_model.specs.RetainEffects.{is_drop}
use Rattle.hb_model.specs.Registry.{Registry, ArtifactItem, TagItem, artifact_key, tag_key, artifact_in}
use Rattle.hb_model.specs.Replay.{replay, step, artifacts_with, tags_with}
use Rattle.hb_model.specs.History.{LegalKind, History}
use Rattle.hb_model.proofs.EntrySteps.{All-weaker}
use Rattle.hb_history.specs.Artifacts.{ChildrenAreThere, TagsNameArtifacts}
use Rattle.hb_history.proofs.AllRows.{all-passing, all-failing, all-with, all-changed}
use Rattle.hb_history.proofs.KeptWhole.{all-filter, itself-pair}

-- ---- an artifact is there still after an entry that doesn't drop it
-- the entry drops the artifact
abbrev drops : EntryKind → List ℕ → Digest → Bool
drops (ArtifactDropped job q digest) name d = same_text q name && same_digest digest d
drops _ name d = false

-- one comparison after another ties where both do
then-both : (a b : Ordering) → is_eq (ordering_then a b) ≡ (is_eq a && is_eq b)
then-both Less b = refl
then-both Equal b = refl
then-both Greater b = refl

-- the key of an artifact is tested as its drop is
same-key : (name : List ℕ) (d : Digest) (q : List ℕ) (digest : Digest) → is_eq (named_digest_cmp (name, d) (q, digest)) ≡ (same_text q name && same_digest digest d)
same-key name d q digest = (eq_by_cmp_equiv named_digest_cmp-order.total).symm (name, d) (q, digest) ∙ then-both (text_cmp q name) (digest_cmp digest d)

-- one that is changed is there still
still-changed : (k at : NamedDigest) (change : ArtifactItem → ArtifactItem) → ((x : ArtifactItem) → artifact_key (change x) ≡ artifact_key x) → (items : List ArtifactItem) → IsSome (row_at named_digest_cmp artifact_key k items) → IsSome (row_at named_digest_cmp artifact_key k (changed_at named_digest_cmp artifact_key at change items))
still-changed k at change keeps items there =
    let x = row_at named_digest_cmp artifact_key k items in
    subst IsSome (sym (row_at-changed named_digest_cmp-order.total artifact_key k at change keeps items)) (cond_both (is_eq (named_digest_cmp k at)) (option_map change x) x IsSome (λ _. mapped x there) (λ _. there))
  where
    mapped : (x : Option ArtifactItem) → IsSome x → IsSome (option_map change x)
    mapped None h = cc
    mapped (Some x) h = refl

-- one is there still where another is put
still-put : (k : NamedDigest) (moment : ℕ) (name : List ℕ) (digest : Digest) (size : ℕ) (media : List ℕ) (refs children : List Digest) (x : Option ArtifactItem) (items : List ArtifactItem) → IsSome (row_at named_digest_cmp artifact_key k items) → IsSome (row_at named_digest_cmp artifact_key k (artifacts_with moment name digest size media refs children x items))
still-put k moment name digest size media refs children None items there = subst IsSome (sym (row_at-with named_digest_cmp-order.total artifact_key k _ items)) (cond_both (is_eq (named_digest_cmp k (name, digest))) (Some _) (row_at named_digest_cmp artifact_key k items) IsSome (λ _. refl) (λ _. there))
still-put k moment name digest size media refs children (Some x) items there = still-changed k (name, digest) _ (λ x. refl) items there

-- the one that is put is there
put-there : (moment : ℕ) (name : List ℕ) (digest : Digest) (size : ℕ) (media : List ℕ) (refs children : List Digest) (x : Option ArtifactItem) (items : List ArtifactItem) → row_at named_digest_cmp artifact_key (name, digest) items ≡ x → IsSome (row_at named_digest_cmp artifact_key (name, digest) (artifacts_with moment name digest size media refs children x items))
put-there moment name digest size media refs children None items absent =
    let new : ArtifactItem = record { name = name; digest = digest; size = size; media = media; refs = refs; children = children; pushed = moment; pulled = 0 } in
    subst IsSome (sym (row_at-with named_digest_cmp-order.total artifact_key (name, digest) new items)) (ap (λ b. is_some (cond b (Some new) (row_at named_digest_cmp artifact_key (name, digest) items))) (itself-pair name digest))
put-there moment name digest size media refs children (Some x) items found = still-put (name, digest) moment name digest size media refs children (Some x) items (ap is_some found)

-- an entry leaves each artifact there but the one that it drops
still-there : (n moment : ℕ) (kind : EntryKind) (m : Registry) (name : List ℕ) (d : Digest) → drops kind name d ≡ false → IsSome (artifact_in m name d) → IsSome (artifact_in (step n moment kind m) name d)
still-there n moment (ArtifactPut q digest size media refs children tag) m name d kept there = still-put (name, d) moment q digest size media refs children (artifact_in m q digest) m.artifacts there
still-there n moment (ArtifactDropped job q digest) m name d kept there = subst IsSome (sym (row_at-without named_digest_cmp-order.total artifact_key (name, d) (q, digest) m.artifacts ∙ ap (λ b. cond b None (artifact_in m name d)) (same-key name d q digest ∙ kept))) there
still-there n moment (Pulled q digest) m name d kept there = still-changed (name, d) (q, digest) (λ x. record x { pulled = moment }) (λ x. refl) m.artifacts there
still-there n moment _ m name d kept there = there

-- ---- children
-- the children of an artifact are there
abbrev HasChildren : Registry → ArtifactItem → Type 0
HasChildren m x = AllByRecursion (λ child. IsSome (artifact_in m x.name child)) x.children

-- the children of each artifact are there still after an entry that drops none
children-stay : (n moment : ℕ) (kind : EntryKind) (m : Registry) → ((name : List ℕ) (d : Digest) → drops kind name d ≡ false) → ChildrenAreThere m → AllByRecursion (HasChildren (step n moment kind m)) m.artifacts
children-stay n moment kind m kept = All-weaker (HasChildren m) (HasChildren (step n moment kind m)) (λ x. All-weaker _ _ (λ child. still-there n moment kind m x.name child (kept x.name child)) x.children) m.artifacts

-- an artifact that doesn't list the one that is dropped has its children still
children-spared : (n moment job : ℕ) (name : List ℕ) (digest : Digest) (m : Registry) (x : ArtifactItem) → (same_text name x.name && among digest x.children) ≡ false → HasChildren m x → HasChildren (step n moment (ArtifactDropped job name digest) m) x
children-spared n moment job name digest m x apart has =
    let stays = still-there n moment (ArtifactDropped job name digest) m x.name in
    ⊎_elim
    (λ other. All-weaker _ _ (λ child. stays child (and_left _ _ other)) x.children has)
    (λ none. all-failing _ _ (same_digest digest) (λ child other. stays child (and_right _ _ other)) x.children none has)
    (and_cases _ _ apart)

-- an artifact that is put has its children, where they are there
children-put : (m : Registry) (moment : ℕ) (name : List ℕ) (digest : Digest) (size : ℕ) (media : List ℕ) (refs children : List Digest) (x : Option ArtifactItem) (items : List ArtifactItem) → AllByRecursion (λ child. IsSome (artifact_in m name child)) children → AllByRecursion (HasChildren m) items → AllByRecursion (HasChildren m) (artifacts_with moment name digest size media refs children x items)
children-put m moment name digest size media refs children None items own h = all-with named_digest_cmp artifact_key (HasChildren m) _ items own h
children-put m moment name digest size media refs children (Some x) items own h = all-changed named_digest_cmp artifact_key (HasChildren m) (name, digest) _ (λ x has. has) items h

-- the children of all artifacts are there after a legal entry
children-step : (n : ℕ) (j : List AuditEntry) (t : ℕ) (kind : EntryKind) → LegalKind j t kind → ChildrenAreThere (replay j) → ChildrenAreThere (step n t kind (replay j))
children-step n j t (ArtifactPut name digest size media refs children tag) legal h =
    let kind = ArtifactPut name digest size media refs children tag in
    let m = replay j in
    children-put (step n t kind m) t name digest size media refs children (artifact_in m name digest) m.artifacts (All-weaker _ _ (λ child. still-there n t kind m name child refl) children legal.has_children) (children-stay n t kind m (λ name d. refl) h)
children-step n j t (ArtifactDropped job name digest) legal h =
    let m = replay j in
    let after = step n t (ArtifactDropped job name digest) m in
    all-filter (HasChildren after) _ m.artifacts (all-failing (HasChildren m) (HasChildren after) (λ x. same_text name x.name && among digest x.children) (children-spared n t job name digest m) m.artifacts legal.no_parent h)
children-step n j t (Pulled name digest) legal h = all-changed named_digest_cmp artifact_key (HasChildren (step n t (Pulled name digest) (replay j))) (name, digest) _ (λ x has. has) (replay j).artifacts (children-stay n t (Pulled name digest) (replay j) (λ name d. refl) h)
children-step n j t _ legal h = h

-- and so after every legal audit
pub children-there : (j : List AuditEntry) → History j → ChildrenAreThere (replay j)
children-there [] legal = tt
children-there (e ∷ j) legal = children-step e.number j e.moment e.kind legal.0.kind (children-there j legal.1)

-- ---- tags
-- the artifact that a tag names is there
abbrev NamesOne : Registry → TagItem → Type 0
NamesOne m x = IsSome (artifact_in m x.name x.digest)

-- what each tag names is there still after an entry that drops none
tags-stay : (n moment : ℕ) (kind : EntryKind) (m : Registry) → ((name : List ℕ) (d : Digest) → drops kind name d ≡ false) → TagsNameArtifacts m → AllByRecursion (NamesOne (step n moment kind m)) m.tags
tags-stay n moment kind m kept = All-weaker (NamesOne m) (NamesOne (step n moment kind m)) (λ x. still-there n moment kind m x.name x.digest (kept x.name x.digest)) m.tags

-- a tag that is put names the artifact that is put
tags-put : (m : Registry) (n moment : ℕ) (name : List ℕ) (digest : Digest) (tag : Option (List ℕ)) (items : List TagItem) → IsSome (artifact_in m name digest) → AllByRecursion (NamesOne m) items → AllByRecursion (NamesOne m) (tags_with n moment name digest tag items)
tags-put m n moment name digest None items there h = h
tags-put m n moment name digest (Some tag) items there h = all-with named_tag_cmp tag_key (NamesOne m) _ items there h

-- all tags name artifacts that are there after any entry
tags-step : (n moment : ℕ) (kind : EntryKind) (m : Registry) → TagsNameArtifacts m → TagsNameArtifacts (step n moment kind m)
tags-step n moment (ArtifactPut name digest size media refs children tag) m h =
    let kind = ArtifactPut name digest size media refs children tag in
    tags-put (step n moment kind m) n moment name digest tag m.tags (put-there moment name digest size media refs children (artifact_in m name digest) m.artifacts refl) (tags-stay n moment kind m (λ name d. refl) h)
tags-step n moment (ArtifactDropped job name digest) m h =
    let kind = ArtifactDropped job name digest in
    all-passing (NamesOne (step n moment kind m)) _ m.tags (All-weaker (NamesOne m) _ (λ x there other. still-there n moment kind m x.name x.digest (not-true _ other) there) m.tags h)
tags-step n moment (TagDropped name tag) m h = all-filter (NamesOne m) _ m.tags h
tags-step n moment (Pulled name digest) m h = tags-stay n moment (Pulled name digest) m (λ name d. refl) h
tags-step n moment (RetainTurn job name tag given) m h = cond_both (is_drop given) (without_key named_tag_cmp tag_key (name, tag) m.tags) m.tags (AllByRecursion (NamesOne m)) (λ _. all-filter (NamesOne m) _ m.tags h) (λ _. h)
tags-step n moment _ m h = h

-- and so after any audit
pub tags-there : (j : List AuditEntry) → TagsNameArtifacts (replay j)
tags-there [] = tt
tags-there (e ∷ j) = tags-step e.number e.moment e.kind (replay j) (tags-there j)
