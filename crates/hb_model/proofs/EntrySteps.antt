-- What is said of an audit, with an entry more. Each lemma is for all kinds that pass a small test, or for all.
use Rattle.std.proofs.Common.{◌≡◌, ℕ, ◌<◌, Bool, true, false, not, cond, ◌&&◌, ◌||◌, List, [], ◌∷◌, ◌++◌, Option, Some, None, option_map, IsTrue, refl, sym, ap, subst, ◌∙◌}
use Rattle.std.specs.Prelude.{filter, is_some, IsSome}
use Rattle.std.specs.Cmp.{nat_cmp_is}
use Rattle.std.specs.List.{flat_map, AllByRecursion}
use Rattle.std.specs.Ordering.{is_eq, nat_cmp}
use Rattle.std.specs.declared.cmp.Ordering.TheVariants.{Less}
use Rattle.hb_base.specs.Tables.{changed_at, row_at, with_row}
use Rattle.hb_base.proofs.TableLaws.{row_at-changed, row_at-with, row_at-without}
use Rattle.hb_text.specs.Names.{project_of}
use Rattle.hb_text.specs.Orders.{digest_cmp}
use Rattle.hb_text.specs.declared.digests.Digest.{Digest}
use Rattle.hb_text.proofs.KeyOrders.{digest_cmp-order}
use Rattle.hb_records.specs.Entries.{AuditEntry}
use Rattle.hb_records.specs.Orders.{named_digest_cmp}
use Rattle.hb_records.specs.declared.entries.EntryKind.{EntryKind}
use Rattle.hb_records.specs.declared.entries.EntryKind.TheVariants.{UploadBegun, UploadGrown, UploadEnded, Associated, Unassociated, ArtifactPut, ArtifactDropped, Pulled, Collected, Adopted}
use Rattle.hb_records.proofs.KeyOrders.{nat_cmp-order}
use Rattle.hb_model.specs.Moves.{collects, stores, takes_digest}
use Rattle.hb_model.specs.Presence.{needed, present}
use Rattle.hb_model.specs.Registry.{ArtifactItem, Registry, StoredItem, UploadItem, artifact_key, stored_in, stored_key, upload_in, upload_key}
use Rattle.hb_model.specs.Replay.{replay, size_of, step}
use Rattle.hb_model.specs.Words.{last_kind, same_digest, same_text}
use Rattle.hb_model.proofs.BlobRows.{taken-since, taken_since}

pub All-weaker : {A : Type 0} (P Q : A → Type 0) → ((x : A) → P x → Q x) → (xs : List A) → AllByRecursion P xs → AllByRecursion Q xs
All-weaker P Q f [] h = tt
All-weaker P Q f (x ∷ xs) h = (f x h.0, All-weaker P Q f xs h.1)

-- ---- what is stored
-- an item that is set is found by its own digest alone
not-set : (d : Digest) (item : StoredItem) (items : List StoredItem) → same_digest d item.digest ≡ false → row_at digest_cmp stored_key d items ≡ row_at digest_cmp stored_key d (with_row digest_cmp stored_key item items)
not-set d item items e = sym (row_at-with digest_cmp-order.total stored_key d item items ∙ ap (λ b. cond b (Some item) (row_at digest_cmp stored_key d items)) e)

-- and what was found by another is found still
still-set : (d : Digest) (item : StoredItem) (items : List StoredItem) → IsSome (row_at digest_cmp stored_key d items) → IsSome (row_at digest_cmp stored_key d (with_row digest_cmp stored_key item items))
still-set d item items h = subst IsSome (sym (row_at-with digest_cmp-order.total stored_key d item items)) (either (same_digest d item.digest))
  where
    either : (b : Bool) → IsSome (cond b (Some item) (row_at digest_cmp stored_key d items))
    either true = refl
    either false = h

-- content that an entry doesn't store was there before it
pub stored-older : (d : Digest) (n moment : ℕ) (kind : EntryKind) (m : Registry) (x : StoredItem) → stores d kind ≡ false → stored_in (step n moment kind m) d ≡ Some x → stored_in m d ≡ Some x
stored-older d n moment (Associated project digest size) m x s e = not-set d (record { digest = digest; size = size }) m.stored s ∙ e
stored-older d n moment (ArtifactPut name digest size media refs children tag) m x s e = not-set d (record { digest = digest; size = size }) m.stored s ∙ e
stored-older d n moment (Adopted job digest size) m x s e = not-set d (record { digest = digest; size = size }) m.stored s ∙ e
stored-older d n moment (Collected job digest) m x s e = kept (same_digest d digest) (stored_in m d) (sym (row_at-without digest_cmp-order.total stored_key d digest m.stored) ∙ e)
  where
    kept : (b : Bool) (y : Option StoredItem) → cond b None y ≡ Some x → y ≡ Some x
    kept true y e = cc
    kept false y e = e
stored-older d n moment _ m x s e = e

-- content that an entry doesn't collect is there after it
pub stored-newer : (d : Digest) (n moment : ℕ) (kind : EntryKind) (m : Registry) → collects d kind ≡ false → IsSome (stored_in m d) → IsSome (stored_in (step n moment kind m) d)
stored-newer d n moment (Associated project digest size) m c h = still-set d (record { digest = digest; size = size }) m.stored h
stored-newer d n moment (ArtifactPut name digest size media refs children tag) m c h = still-set d (record { digest = digest; size = size }) m.stored h
stored-newer d n moment (Adopted job digest size) m c h = still-set d (record { digest = digest; size = size }) m.stored h
stored-newer d n moment (Collected job digest) m c h = subst IsSome (sym (row_at-without digest_cmp-order.total stored_key d digest m.stored ∙ ap (λ b. cond b None (stored_in m d)) c)) h
stored-newer d n moment _ m c h = h

-- what isn't there after an entry that doesn't collect it wasn't there before
pub unstored-older : (d : Digest) (n moment : ℕ) (kind : EntryKind) (m : Registry) → collects d kind ≡ false → stored_in (step n moment kind m) d ≡ None → stored_in m d ≡ None
unstored-older d n moment kind m c e =
    elim (stored_in m d) as (λ x. stored_in m d ≡ x → x ≡ None) [
      | None ↦ λ f. refl
      | Some x ↦ λ f.
          let there = stored-newer d n moment kind m c (ap is_some f) in
          let here = sym (ap is_some e) ∙ there in cc
    ] refl

module _ (j : List AuditEntry) (e : AuditEntry) (d : Digest) where
  -- ---- what is present
  -- what stands since a digest was last stored, where the entry doesn't store it
  unstored-taken : stores d e.kind ≡ false → taken_since (e ∷ j) d ≡ (takes_digest d e.kind || taken_since j d)
  unstored-taken s = taken-since d e j ∙ ap (λ b. cond b false (takes_digest d e.kind || taken_since j d)) s

  -- a digest that the entry doesn't store was present before it
  pub present-older : stores d e.kind ≡ false → IsTrue (present (e ∷ j) d) → IsTrue (present j d)
  present-older s h = older (stored_in (replay j) d) (stored_in (replay (e ∷ j)) d) (takes_digest d e.kind) (taken_since j d) (λ x. stored-older d e.number e.moment e.kind (replay j) x s) (sym (ap (λ b. is_some (stored_in (replay (e ∷ j)) d) && not b) (unstored-taken s)) ∙ h)
    where
      older : (x y : Option StoredItem) (takes taken : Bool) → ((z : StoredItem) → y ≡ Some z → x ≡ Some z) → IsTrue (is_some y && not (takes || taken)) → IsTrue (is_some x && not taken)
      older x None takes taken same h = cc
      older x (Some z) true taken same h = cc
      older x (Some z) false taken same h = ap (λ x. is_some x && not taken) (same z refl) ∙ h

  -- a digest that the entry neither takes nor collects is present after it
  pub present-newer : takes_digest d e.kind ≡ false → collects d e.kind ≡ false → IsTrue (present j d) → IsTrue (present (e ∷ j) d)
  present-newer t c h =
      ap (λ b. is_some (stored_in (replay (e ∷ j)) d) && not b) (taken-since d e j)
      ∙ newer (is_some (stored_in (replay j) d)) (is_some (stored_in (replay (e ∷ j)) d)) (stores d e.kind) (takes_digest d e.kind) (taken_since j d) t (stored-newer d e.number e.moment e.kind (replay j) c) h
    where
      newer : (x y storing takes taken : Bool) → takes ≡ false → (IsTrue x → IsTrue y) → IsTrue (x && not taken) → IsTrue (y && not (cond storing false (takes || taken)))
      newer false y storing takes taken t f h = cc
      newer true y true takes taken t f h = ap (λ y. y && true) (f refl)
      newer true y false true taken t f h = cc
      newer true y false false taken t f h = λ i. f refl i && h i

  -- a digest that wasn't present isn't where the entry doesn't store it
  pub absent-newer : stores d e.kind ≡ false → present j d ≡ false → present (e ∷ j) d ≡ false
  absent-newer s h = contrary (present j d) (present (e ∷ j) d) (present-older s) h
    where
      contrary : (x y : Bool) → (IsTrue y → IsTrue x) → x ≡ false → y ≡ false
      contrary true y f h = cc
      contrary false true f h = let there = f refl in cc
      contrary false false f h = refl

  -- the size of a digest that the entry doesn't store was its size before
  pub size-older : (size : ℕ) → stores d e.kind ≡ false → size_of (e ∷ j) d ≡ Some size → size_of j d ≡ Some size
  size-older size s h = older (stored_in (replay j) d) (stored_in (replay (e ∷ j)) d) (λ x. stored-older d e.number e.moment e.kind (replay j) x s) h
    where
      older : (x y : Option StoredItem) → ((z : StoredItem) → y ≡ Some z → x ≡ Some z) → option_map (λ (z : StoredItem). z.size) y ≡ Some size → option_map (λ (z : StoredItem). z.size) x ≡ Some size
      older x None same h = cc
      older x (Some z) same h = ap (option_map (λ (z : StoredItem). z.size)) (same z refl) ∙ h

-- the last entry of a kind is the same where the entry isn't of it
pub last_kind-older : (test : EntryKind → Bool) (j : List AuditEntry) (e : AuditEntry) → test e.kind ≡ false → last_kind test (e ∷ j) ≡ last_kind test j
last_kind-older test j e h = ap (λ b. cond b (Some e) (last_kind test j)) h

-- ---- pairs, and what a project needs
-- the entry makes a pair or lets one go
abbrev pub changes_pairs : EntryKind → Bool
changes_pairs (Associated project digest size) = true
changes_pairs (Unassociated job project digest) = true
changes_pairs (ArtifactPut name digest size media refs children tag) = true
changes_pairs _ = false

pub pairs-same : (n moment : ℕ) (kind : EntryKind) (m : Registry) → changes_pairs kind ≡ false → (step n moment kind m).pairs ≡ m.pairs
pairs-same n moment (Associated project digest size) m h = cc
pairs-same n moment (Unassociated job project digest) m h = cc
pairs-same n moment (ArtifactPut name digest size media refs children tag) m h = cc
pairs-same n moment _ m h = refl

-- what an artifact needs, and whether it is of the project
abbrev needs : ArtifactItem → List Digest
needs x = x.digest ∷ x.refs

abbrev is_of : List ℕ → ArtifactItem → Bool
is_of project x = same_text project (project_of x.name)

-- a pull changes nothing of what is needed
needed-pulled : (project name : List ℕ) (d : Digest) (moment : ℕ) (items : List ArtifactItem) → flat_map needs (filter (is_of project) (changed_at named_digest_cmp artifact_key (name, d) (λ x. record x { pulled = moment }) items)) ≡ flat_map needs (filter (is_of project) items)
needed-pulled project name d moment [] = refl
needed-pulled project name d moment (x ∷ items) =
    let others = changed_at named_digest_cmp artifact_key (name, d) (λ x. record x { pulled = moment }) items in
    let later = needed-pulled project name d moment items in
    elim (is_eq (named_digest_cmp (name, d) (artifact_key x))) as (λ b. flat_map needs (filter (is_of project) (cond b (record x { pulled = moment }) x ∷ others)) ≡ flat_map needs (filter (is_of project) (x ∷ items))) [
      | true ↦ first (is_of project x) (record x { pulled = moment }) x (filter (is_of project) others) (filter (is_of project) items) refl later
      | false ↦ first (is_of project x) x x (filter (is_of project) others) (filter (is_of project) items) refl later
    ]
  where
    first : (b : Bool) (x y : ArtifactItem) (xs ys : List ArtifactItem) → needs x ≡ needs y → flat_map needs xs ≡ flat_map needs ys → flat_map needs (cond b (x ∷ xs) xs) ≡ flat_map needs (cond b (y ∷ ys) ys)
    first true x y xs ys e f = λ i. e i ++ f i
    first false x y xs ys e f = f

module _ (P : Digest → Type 0) (project : List ℕ) where
  all-rest : (xs ys : List Digest) → AllByRecursion P (xs ++ ys) → AllByRecursion P ys
  all-rest [] ys h = h
  all-rest (x ∷ xs) ys h = all-rest xs ys h.1

  all-with : (xs ys zs : List Digest) → (AllByRecursion P ys → AllByRecursion P zs) → AllByRecursion P (xs ++ ys) → AllByRecursion P (xs ++ zs)
  all-with [] ys zs f h = f h
  all-with (x ∷ xs) ys zs f h = (h.0, all-with xs ys zs f h.1)

  -- the digests that artifacts of the project need
  abbrev needed_by : List ArtifactItem → List Digest
  needed_by items = flat_map needs (filter (is_of project) items)

  needed-rest : (x : ArtifactItem) (items : List ArtifactItem) → AllByRecursion P (needed_by (x ∷ items)) → AllByRecursion P (needed_by items)
  needed-rest x items =
      elim (is_of project x) as (λ b. AllByRecursion P (flat_map needs (cond b (x ∷ filter (is_of project) items) (filter (is_of project) items))) → AllByRecursion P (needed_by items)) [
        | true ↦ all-rest (needs x) (needed_by items)
        | false ↦ λ h. h
      ]

  needed-with : (x : ArtifactItem) (items others : List ArtifactItem) → (AllByRecursion P (needed_by items) → AllByRecursion P (needed_by others)) → AllByRecursion P (needed_by (x ∷ items)) → AllByRecursion P (needed_by (x ∷ others))
  needed-with x items others f =
      elim (is_of project x) as (λ b. AllByRecursion P (flat_map needs (cond b (x ∷ filter (is_of project) items) (filter (is_of project) items))) → AllByRecursion P (flat_map needs (cond b (x ∷ filter (is_of project) others) (filter (is_of project) others)))) [
        | true ↦ all-with (needs x) (needed_by items) (needed_by others) f
        | false ↦ f
      ]

  -- fewer artifacts need nothing more
  needed-filter : (test : ArtifactItem → Bool) (items : List ArtifactItem) → AllByRecursion P (needed_by items) → AllByRecursion P (needed_by (filter test items))
  needed-filter test [] h = tt
  needed-filter test (x ∷ items) h =
      elim (test x) as (λ b. AllByRecursion P (needed_by (cond b (x ∷ filter test items) (filter test items)))) [
        | true ↦ needed-with x items (filter test items) (needed-filter test items) h
        | false ↦ needed-filter test items (needed-rest x items h)
      ]

  -- where pairs stay, nothing more is needed
  pub needed-older : (n moment : ℕ) (kind : EntryKind) (m : Registry) → changes_pairs kind ≡ false → AllByRecursion P (needed m project) → AllByRecursion P (needed (step n moment kind m) project)
  needed-older n moment (Associated project digest size) m s h = cc
  needed-older n moment (Unassociated job project digest) m s h = cc
  needed-older n moment (ArtifactPut name digest size media refs children tag) m s h = cc
  needed-older n moment (ArtifactDropped job name digest) m s h = needed-filter _ m.artifacts h
  needed-older n moment (Pulled name digest) m s h = subst (AllByRecursion P) (sym (needed-pulled project name digest moment m.artifacts)) h
  needed-older n moment _ m s h = h

-- ---- uploads
-- An upload that isn't there doesn't come back: what an entry begins has its own number.
pub no_upload-newer : (n moment : ℕ) (kind : EntryKind) (m : Registry) (id : ℕ) → id < n → upload_in m id ≡ None → upload_in (step n moment kind m) id ≡ None
no_upload-newer n moment (UploadBegun name) m id less h = row_at-with nat_cmp-order.total upload_key id (record { id = n; name = name; offset = 0 }) m.uploads ∙ ap (λ r. cond (is_eq r) (Some (record { id = n; name = name; offset = 0 })) (upload_in m id)) (sym (nat_cmp_is id n Less less)) ∙ h
no_upload-newer n moment (UploadGrown upload offset) m id less h = row_at-changed nat_cmp-order.total upload_key id upload (λ x. record x { offset = offset }) (λ x. refl) m.uploads ∙ changed (is_eq (nat_cmp id upload))
  where
    changed : (b : Bool) → cond b (option_map (λ (x : UploadItem). record x { offset = offset }) (upload_in m id)) (upload_in m id) ≡ None
    changed true = ap (option_map (λ (x : UploadItem). record x { offset = offset })) h
    changed false = h
no_upload-newer n moment (UploadEnded job upload) m id less h = row_at-without nat_cmp-order.total upload_key id upload m.uploads ∙ ended (is_eq (nat_cmp id upload))
  where
    ended : (b : Bool) → cond b None (upload_in m id) ≡ None
    ended true = refl
    ended false = h
no_upload-newer n moment _ m id less h = h
