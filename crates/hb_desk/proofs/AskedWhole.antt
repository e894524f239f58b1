-- An ask keeps rows, notes and store fitting one another.
use Rattle.std.proofs.Common.{◌≡◌, ◌≤◌, ◌<◌, ℕ, suc, Bool, true, false, not, cond, ◌&&◌, ◌||◌, List, [], ◌∷◌, map, length, Option, Some, None, Ok, Err, is_some, unwrap_or, find, nat_eq, nat_le, refl, sym, ap, subst, ◌∙◌, arith}
use Rattle.std.proofs.lemmas.Bool.Decides.{nat_tests}
use Rattle.std.specs.List.{AllByRecursion, filter}
use Rattle.std.specs.Cmp.{nat_cmp_is}
use Rattle.std.proofs.lemmas.Cmp.{tied_itself}
use Rattle.std.specs.Ordering.{is_eq}
use Rattle.std.specs.declared.cmp.Ordering.TheVariants.{Greater}
use Rattle.hb_base.proofs.TableLaws.{row_at-with, row_at-without}
use Rattle.hb_records.proofs.KeyOrders.{nat_cmp-order}
use Rattle.hb_text.specs.declared.digests.Digest.{Digest}
use Rattle.hb_text.specs.Names.{project_of}
use Rattle.hb_records.specs.Entries.{AuditEntry}
use Rattle.hb_records.specs.declared.entries.EntryKind.{EntryKind}
use Rattle.hb_records.specs.declared.entries.EntryKind.TheVariants as entry
use Rattle.hb_records.specs.declared.notes.Notes.{Notes}
use Rattle.hb_records.specs.declared.notes.Placement.{Placement}
use Rattle.hb_records.specs.declared.notes.Sealed.{Sealed}
use Rattle.hb_records.specs.declared.puts.PutAsk.{PutAsk}
use Rattle.hb_rows.specs.Tables.{Tables}
use Rattle.hb_store.specs.Contents.{Contents}
use Rattle.hb_model.specs.Words.{same_digest, has_kind, since_kind}
use Rattle.hb_model.specs.Effects.{after_entry}
use Rattle.hb_model.specs.History.{Legal}
use Rattle.hb_model.specs.Moves.{stores, takes_digest, collects}
use Rattle.hb_model.specs.Presence.{present}
use Rattle.hb_model.specs.Quiet.{is_quiet}
use Rattle.hb_model.specs.Numbered.{IsNumbered}
use Rattle.hb_model.specs.Registry.{Registry, PairItem, UploadItem, project_in, pair_in, artifact_in, upload_in, upload_key, stored_in}
use Rattle.hb_model.specs.Replay.{replay, step, size_of}
use Rattle.hb_model.specs.Sound.{OneLength, HasLength}
use Rattle.hb_model.specs.Whole.{IsWhole, IsKept}
use Rattle.hb_model.proofs.Batches.{history-numbered}
use Rattle.hb_model.proofs.EntrySteps.{no_upload-newer}
use Rattle.hb_model.proofs.WholeSteps.{quiet-whole}
use Rattle.hb_history.specs.Naming.{Names}
use Rattle.hb_history.proofs.KeptWhole.{all-filter, kept-whole, uncollected, untaken}
use Rattle.hb_history.proofs.Settled.{exact-digest, settled}
use Rattle.hb_history.proofs.Sizes.{sizes-stored}
use Rattle.hb_desk.specs.Calls.{Asked, Gave, Tells}
use Rattle.hb_desk.specs.Keeping.{rows_with, state_of, AsksKeepWhole}
use Rattle.hb_desk.specs.Notes.{is_placement, placement_of}
use Rattle.hb_desk.specs.Noting.{noted_ask, gone_by, settling}
use Rattle.hb_desk.specs.Refusing.{spent, no_project, no_upload, no_upload_of, missing_ref, missing_child, immutable_tag, over_limit, still_collecting, raced}
use Rattle.hb_desk.specs.Reply.{Reply, refuse, refused, gives, commits, reply_ask, touch_pair, named_by, end_upload, seal, seal_manifest, settle, settled_size, put}
use Rattle.hb_desk.specs.State.{State}
use Rattle.hb_desk.specs.declared.asks.Ask.{Ask}
use Rattle.hb_desk.specs.declared.asks.Ask.TheVariants.{ShowProject, TouchBlob, BeginUpload, EndUpload, Seal, SealManifest, Settle, PutArtifact, Look, NotePull}
use Rattle.hb_desk.specs.declared.refusals.Refusal.{Refusal}
use Rattle.hb_desk.specs.declared.refusals.Refusal.TheVariants.{UploadUnknown, JobUnknown}
use Rattle.hb_desk.specs.declared.told.Told.{Told}
use Rattle.hb_desk.specs.declared.told.Told.TheVariants as told
use Rattle.hb_desk.proofs.LegalReplies.{Makes, no-refusal, committed, held, some-known, show-none, look-none, present-size, reply-legal}

-- ---- an event without an entry
-- at a later moment, and with some of the placements
pub later-whole : (rows : Tables) (n : Notes) (c : Contents) (before t : ℕ) → IsWhole rows n c before → before ≤ t → IsWhole rows n c t
later-whole rows n c before t h later = record {
  stands = h.stands;
  now = omega (arith, h.now, later);
  pairs_present = h.pairs_present;
  complete = h.complete;
  present_kept = h.present_kept;
  may_lapse = h.may_lapse;
  one_spell = h.one_spell;
  acknowledged = h.acknowledged;
  placed = h.placed;
  sighted = h.sighted;
  sealed = h.sealed;
  true_digests = h.true_digests;
  counted = h.counted;
  lengths = h.lengths;
}

pub settled-whole : (rows : Tables) (n : Notes) (c : Contents) (t upload : ℕ) → IsWhole rows n c t → IsWhole rows (settling upload n) c t
settled-whole rows n c t upload h = record {
  stands = h.stands;
  now = h.now;
  pairs_present = h.pairs_present;
  complete = h.complete;
  present_kept = h.present_kept;
  may_lapse = h.may_lapse;
  one_spell = h.one_spell;
  acknowledged = h.acknowledged;
  placed = all-filter (λ (x : Placement). x.gone ≡ 0 → IsKept c x.digest) _ n.placements h.placed;
  sighted = h.sighted;
  sealed = h.sealed;
  true_digests = h.true_digests;
  counted = h.counted;
  lengths = λ one. record {
    present = (h.lengths one).present;
    placed = all-filter (λ (x : Placement). x.gone ≡ 0 → HasLength c x.digest x.size) _ n.placements (h.lengths one).placed;
    sighted = (h.lengths one).sighted;
  };
}

-- ---- what an ask commits
-- a placement that may be settled: what it has is present, or wasn't taken since
record Settles (s : State) (upload : ℕ) (d : Digest) (x : Placement) : Type 0 where
  found : placement_of s.notes upload d ≡ Some x
  holds : (present s.audit d || nat_eq x.gone 0) ≡ true

-- the entry that an ask makes
abbrev Commits : Ask → State → EntryKind → Type 0
Commits (ShowProject name) s kind = ⊥
Commits (TouchBlob name d) s kind = (x : PairItem) × (pair_in (replay s.audit) (project_of name) d ≡ Some x) × (kind ≡ entry.Touched (project_of name) d)
Commits (BeginUpload name) s kind = kind ≡ entry.UploadBegun name
Commits (EndUpload job upload) s kind = kind ≡ entry.UploadEnded 0 upload
Commits (Seal upload d size) s kind = (is_some (upload_in (replay s.audit) upload) ≡ true) × (kind ≡ entry.UploadEnded 0 upload)
Commits (SealManifest upload p) s kind = (is_some (upload_in (replay s.audit) upload) ≡ true) × (kind ≡ entry.UploadEnded 0 upload)
Commits (Settle name upload d) s kind = (x : Placement) × Settles s upload d x × (kind ≡ entry.Associated (project_of name) d (settled_size s.audit d x))
Commits (PutArtifact upload p) s kind = (x : Placement) × Settles s upload p.digest x × (kind ≡ entry.ArtifactPut p.name p.digest (settled_size s.audit p.digest x) p.media p.refs p.children p.tag)
Commits (Look name ref) s kind = ⊥
Commits (NotePull name d) s kind = kind ≡ entry.Pulled name d

touch-commits : (s : State) (t : ℕ) (name : List ℕ) (d : Digest) (x : Option PairItem) (kind : EntryKind) → pair_in (replay s.audit) (project_of name) d ≡ x → Makes (touch_pair s.audit (project_of name) d x) kind → Commits (TouchBlob name d) s kind
touch-commits s t name d None kind is h = cc h
touch-commits s t name d (Some x) kind is h = (x, is, sym (committed s.audit (told.Blob x.size) (entry.Touched (project_of name) d) kind h))

seal-commits : (s : State) (t upload : ℕ) (d : Digest) (size : ℕ) (x : Option UploadItem) (kind : EntryKind) → upload_in (replay s.audit) upload ≡ x → Makes (seal s.audit t upload d size x) kind → Commits (Seal upload d size) s kind
seal-commits s t upload d size None kind is h = cc h
seal-commits s t upload d size (Some x) kind is h =
    let a = no-refusal (over_limit s.audit (project_of x.name) d size) _ kind h in
    let b = no-refusal (still_collecting s.audit d t) _ kind a.1 in
    (ap (λ (y : Option UploadItem). is_some y) is, sym (committed s.audit told.Done (entry.UploadEnded 0 upload) kind b.1))

settle-commits : (s : State) (t : ℕ) (name : List ℕ) (upload : ℕ) (d : Digest) (x : Option Placement) (kind : EntryKind) → placement_of s.notes upload d ≡ x → Makes (settle s.audit t name d x) kind → Commits (Settle name upload d) s kind
settle-commits s t name upload d None kind is h = cc h
settle-commits s t name upload d (Some x) kind is h =
    let a = no-refusal (over_limit s.audit (project_of name) d (settled_size s.audit d x)) _ kind h in
    let b = no-refusal (still_collecting s.audit d t) _ kind a.1 in
    let c = no-refusal (raced s.audit d x) _ kind b.1 in
    (x, record { found = is; holds = held _ _ c.0 }, sym (committed s.audit told.Done (entry.Associated (project_of name) d (settled_size s.audit d x)) kind c.1))

put-commits : (s : State) (t upload : ℕ) (p : PutAsk) (x : Option Placement) (kind : EntryKind) → placement_of s.notes upload p.digest ≡ x → Makes (put s.audit t p x) kind → Commits (PutArtifact upload p) s kind
put-commits s t upload p None kind is h = cc h
put-commits s t upload p (Some x) kind is h =
    let a = no-refusal (missing_ref s.audit (project_of p.name) p.refs) _ kind h in
    let b = no-refusal (missing_child s.audit p.name p.children) _ kind a.1 in
    let c = no-refusal (immutable_tag s.audit p.name p.digest p.tag) _ kind b.1 in
    let d = no-refusal (over_limit s.audit (project_of p.name) p.digest (settled_size s.audit p.digest x)) _ kind c.1 in
    let e = no-refusal (still_collecting s.audit p.digest t) _ kind d.1 in
    let f = no-refusal (raced s.audit p.digest x) _ kind e.1 in
    (x, record { found = is; holds = held _ _ f.0 }, sym (committed s.audit told.Done (entry.ArtifactPut p.name p.digest (settled_size s.audit p.digest x) p.media p.refs p.children p.tag) kind f.1))

ask-commits : (ask : Ask) (s : State) (t : ℕ) (kind : EntryKind) → Makes (reply_ask ask s t) kind → Commits ask s kind
ask-commits (ShowProject name) s t kind h = show-none s.audit name (project_in (replay s.audit) name) kind h
ask-commits (TouchBlob name d) s t kind h =
    let a = no-refusal (no_project s.audit (project_of name)) _ kind h in
    touch-commits s t name d (pair_in (replay s.audit) (project_of name) d) kind refl a.1
ask-commits (BeginUpload name) s t kind h =
    let a = no-refusal (no_project s.audit (project_of name)) _ kind h in
    sym (committed s.audit (told.Begun (suc (length s.audit))) (entry.UploadBegun name) kind a.1)
ask-commits (EndUpload job upload) s t kind h = go (nat_eq job 0) h
  where
    go : (b : Bool) → Makes (cond b (end_upload s.audit upload) (refused JobUnknown)) kind → kind ≡ entry.UploadEnded 0 upload
    go true h = let a = no-refusal (no_upload s.audit upload) _ kind h in sym (committed s.audit told.Done (entry.UploadEnded 0 upload) kind a.1)
    go false h = cc h
ask-commits (Seal upload d size) s t kind h = seal-commits s t upload d size (upload_in (replay s.audit) upload) kind refl h
ask-commits (SealManifest upload p) s t kind h =
    let a = no-refusal (no_upload_of s.audit p.name upload) _ kind h in
    let b = no-refusal (missing_ref s.audit (project_of p.name) p.refs) _ kind a.1 in
    let c = no-refusal (missing_child s.audit p.name p.children) _ kind b.1 in
    let d = no-refusal (immutable_tag s.audit p.name p.digest p.tag) _ kind c.1 in
    let e = no-refusal (over_limit s.audit (project_of p.name) p.digest p.size) _ kind d.1 in
    let f = no-refusal (still_collecting s.audit p.digest t) _ kind e.1 in
    (some-known _ (upload_in (replay s.audit) upload) (held _ UploadUnknown a.0), sym (committed s.audit told.Done (entry.UploadEnded 0 upload) kind f.1))
ask-commits (Settle name upload d) s t kind h =
    let a = no-refusal (no_project s.audit (project_of name)) _ kind h in
    settle-commits s t name upload d (placement_of s.notes upload d) kind refl a.1
ask-commits (PutArtifact upload p) s t kind h =
    let a = no-refusal (no_project s.audit (project_of p.name)) _ kind h in
    put-commits s t upload p (placement_of s.notes upload p.digest) kind refl a.1
ask-commits (Look name ref) s t kind h = let a = no-refusal (no_project s.audit (project_of name)) _ kind h in look-none (named_by (replay s.audit) name ref) kind a.1
ask-commits (NotePull name d) s t kind h = go (is_some (artifact_in (replay s.audit) name d)) h
  where
    go : (b : Bool) → Makes (cond b (commits s.audit told.Done (entry.Pulled name d)) (gives (Tells told.Nothing))) kind → kind ≡ entry.Pulled name d
    go true h = sym (committed s.audit told.Done (entry.Pulled name d) kind h)
    go false h = cc h

-- ---- uploads have the numbers of entries
no-upload-above : (n moment : ℕ) (kind : EntryKind) (m : Registry) (id : ℕ) → n < id → upload_in m id ≡ None → upload_in (step n moment kind m) id ≡ None
no-upload-above n moment (entry.UploadBegun name) m id above h =
    let new : UploadItem = record { id = n; name = name; offset = 0 } in
    row_at-with nat_cmp-order.total upload_key id new m.uploads ∙ ap (λ r. cond (is_eq r) (Some new) (upload_in m id)) (sym (nat_cmp_is id n Greater above)) ∙ h
no-upload-above n moment kind m id above h = no_upload-newer (suc id) moment kind m id (omega arith) h

uploads-numbered : (j : List AuditEntry) (id : ℕ) → IsNumbered j → length j < id → upload_in (replay j) id ≡ None
uploads-numbered [] id numbered above = refl
uploads-numbered (e ∷ j) id numbered above = no-upload-above e.number e.moment e.kind (replay j) id (omega (arith, numbered.0, above)) (uploads-numbered j id numbered.1 (omega arith))

upload-numbered : (j : List AuditEntry) (id : ℕ) → IsNumbered j → is_some (upload_in (replay j) id) ≡ true → id ≤ length j
upload-numbered j id numbered there = elim (nat_le id (length j)) as (λ b. nat_le id (length j) ≡ b → id ≤ length j) [
  | true ↦ λ e. grind (arith, nat_tests)
  | false ↦ λ e.
      let above : length j < id = grind (arith, nat_tests) in
      let none : is_some (upload_in (replay j) id) ≡ false = ap is_some (uploads-numbered j id numbered above) in
      let clash : true ≡ false = sym there ∙ none in cc clash
] refl

-- an upload that ends is gone
ended-gone : (n moment upload : ℕ) (m : Registry) → upload_in (step n moment (entry.UploadEnded 0 upload) m) upload ≡ None
ended-gone n moment upload m = row_at-without nat_cmp-order.total upload_key upload upload m.uploads ∙ ap (λ r. cond (is_eq r) None (upload_in m upload)) (tied_itself nat_cmp-order.total upload)

-- ---- the notes behind an entry
-- an entry that takes and collects nothing leaves the placements
gone-none : (n : ℕ) (kind : EntryKind) → ((d : Digest) → takes_digest d kind ≡ false) → ((d : Digest) → collects d kind ≡ false) → (placements : List Placement) → map (λ (x : Placement). cond (takes_digest x.digest kind || collects x.digest kind) (record x { gone = n }) x) placements ≡ placements
gone-none n kind untaken uncollected [] = refl
gone-none n kind untaken uncollected (x ∷ placements) = λ i. cond (untaken x.digest i || uncollected x.digest i) (record x { gone = n }) x ∷ gone-none n kind untaken uncollected placements i

pub gone-same : (n : ℕ) (kind : EntryKind) (notes : Notes) → ((d : Digest) → takes_digest d kind ≡ false) → ((d : Digest) → collects d kind ≡ false) → gone_by n (Some kind) notes ≡ notes
gone-same n kind notes untaken uncollected = ap (λ placements. record notes { placements = placements }) (gone-none n kind untaken uncollected notes.placements)

-- an upload that has ended may be sealed
sealed-whole : (rows : Tables) (n : Notes) (c : Contents) (t : ℕ) (x : Sealed) → IsWhole rows n c t → upload_in (replay rows.audit) x.upload ≡ None → x.upload ≤ length rows.audit → IsWhole rows (record n { sealed = x ∷ n.sealed }) c t
sealed-whole rows n c t x h gone given = record {
  stands = h.stands;
  now = h.now;
  pairs_present = h.pairs_present;
  complete = h.complete;
  present_kept = h.present_kept;
  may_lapse = h.may_lapse;
  one_spell = h.one_spell;
  acknowledged = h.acknowledged;
  placed = h.placed;
  sighted = h.sighted;
  sealed = ((gone, given), h.sealed);
  true_digests = h.true_digests;
  counted = h.counted;
  lengths = λ one. record { present = (h.lengths one).present; placed = (h.lengths one).placed; sighted = (h.lengths one).sighted };
}

-- ---- placements that are found
find-passes : (test : Placement → Bool) (x : Placement) (xs : List Placement) → find test xs ≡ Some x → test x ≡ true
find-passes test x [] found = cc
find-passes test x (y ∷ xs) found = either (test y) refl found (find-passes test x xs)
  where
    either : (b : Bool) → test y ≡ b → cond b (Some y) (find test xs) ≡ Some x → (find test xs ≡ Some x → test x ≡ true) → test x ≡ true
    either true passes f rest = let same : y ≡ x = cc f in ap test (sym same) ∙ passes
    either false fails f rest = rest f

found-all : (P : Placement → Type 0) (test : Placement → Bool) (x : Placement) (xs : List Placement) → find test xs ≡ Some x → AllByRecursion P xs → P x
found-all P test x [] found all = cc
found-all P test x (y ∷ xs) found all = either (test y) found (λ f. found-all P test x xs f all.1)
  where
    either : (b : Bool) → cond b (Some y) (find test xs) ≡ Some x → (find test xs ≡ Some x → P x) → P x
    either true f rest = let same : y ≡ x = cc f in subst P same all.0
    either false f rest = rest f

right : (a b : Bool) → (a && b) ≡ true → b ≡ true
right true b e = e
right false b e = cc

placement-digest : (upload : ℕ) (d : Digest) (x : Placement) (xs : List Placement) → find (is_placement upload d) xs ≡ Some x → d ≡ x.digest
placement-digest upload d x xs found = exact-digest d x.digest (right (nat_eq upload x.upload) (same_digest d x.digest) (find-passes (is_placement upload d) x xs found))

gone-zero : (x : Placement) → (false || nat_eq x.gone 0) ≡ true → x.gone ≡ 0
gone-zero x e = grind (arith, nat_tests)

filter-all : (xs : List Placement) → filter (λ x. true) xs ≡ xs
filter-all [] = refl
filter-all (x ∷ xs) = ap (λ rest. x ∷ rest) (filter-all xs)

-- ---- an ask that is Ok and makes an entry
module _ (rows : Tables) (n : Notes) (c : Contents) (before t : ℕ) (h : IsWhole rows n c before) (later : before ≤ t) where
  next : EntryKind → AuditEntry
  next kind = record { number = suc (length rows.audit); moment = t; kind = kind }

  IsNext : EntryKind → Type 0
  IsNext kind = Legal rows.audit (record { number = suc (length rows.audit); moment = t; kind = kind })

  quiet-made : (kind : EntryKind) → IsNext kind → is_quiet kind ≡ true → ((d : Digest) → takes_digest d kind ≡ false) → ((d : Digest) → collects d kind ≡ false) → IsWhole (after_entry rows (record { number = suc (length rows.audit); moment = t; kind = kind })) (gone_by (suc (length rows.audit)) (Some kind) n) c t
  unfolding IsNext
  quiet-made kind legal quiet untaken_by uncollected_by =
      subst (λ m. IsWhole (after_entry rows (record { number = suc (length rows.audit); moment = t; kind = kind })) m c t)
      (sym (gone-same (suc (length rows.audit)) kind n untaken_by uncollected_by))
      (quiet-whole rows n n c before (record { number = suc (length rows.audit); moment = t; kind = kind }) h legal quiet (record { sealed = refl; placements = refl; spells = refl; sightings = refl }))

  -- what a project has is touched
  touch-made : (p : List ℕ) (d : Digest) (x : PairItem) → pair_in (replay rows.audit) p d ≡ Some x → IsNext (entry.Touched p d) → IsWhole (after_entry rows (record { number = suc (length rows.audit); moment = t; kind = entry.Touched p d })) (gone_by (suc (length rows.audit)) (Some (entry.Touched p d)) n) c t
  unfolding IsNext
  touch-made p d x found legal =
      let e : AuditEntry = record { number = suc (length rows.audit); moment = t; kind = entry.Touched p d } in
      let here = (settled rows.audit h.stands.history p d (ap (λ (y : Option PairItem). is_some y) found)).here in
      subst (λ m. IsWhole (after_entry rows e) m c t)
      (sym (gone-same (suc (length rows.audit)) (entry.Touched p d) n (λ q. refl) (λ q. refl)))
      (kept-whole rows n n c before e d x.size h legal refl (h.present_kept d here) (λ one. (h.lengths one).present d x.size here (sizes-stored rows.audit h.stands.history p d x found))
      (record { test = λ x. true; placements = sym (filter-all n.placements); sealed = refl; spells = refl; sightings = refl }))

  -- an upload is sealed, and ends
  seal-made : (x : Sealed) → is_some (upload_in (replay rows.audit) x.upload) ≡ true → IsNext (entry.UploadEnded 0 x.upload) → IsWhole (after_entry rows (record { number = suc (length rows.audit); moment = t; kind = entry.UploadEnded 0 x.upload })) (gone_by (suc (length rows.audit)) (Some (entry.UploadEnded 0 x.upload)) (record n { sealed = x ∷ n.sealed })) c t
  unfolding IsNext
  seal-made x known legal =
      let kind = entry.UploadEnded 0 x.upload in
      subst (λ m. IsWhole (after_entry rows (record { number = suc (length rows.audit); moment = t; kind = kind })) m c t)
      (sym (gone-same (suc (length rows.audit)) kind (record n { sealed = x ∷ n.sealed }) (λ d. refl) (λ d. refl)))
      (sealed-whole (after_entry rows (record { number = suc (length rows.audit); moment = t; kind = kind })) n c t x
      (quiet-whole rows n n c before (record { number = suc (length rows.audit); moment = t; kind = kind }) h legal refl (record { sealed = refl; placements = refl; spells = refl; sightings = refl }))
      (ended-gone (suc (length rows.audit)) t x.upload (replay rows.audit))
      (omega (arith, upload-numbered rows.audit x.upload (history-numbered rows.audit h.stands.history) known)))

  -- what a placement has is held
  placement-kept : (upload : ℕ) (d : Digest) (x : Placement) → Settles (state_of rows n) upload d x → IsKept c d
  placement-kept upload d x settles = either (present rows.audit d) refl settles.holds
    where
      either : (b : Bool) → present rows.audit d ≡ b → (b || nat_eq x.gone 0) ≡ true → IsKept c d
      either true here f = h.present_kept d here
      either false absent f = subst (IsKept c) (sym (placement-digest upload d x n.placements settles.found)) (found-all (λ (x : Placement). x.gone ≡ 0 → IsKept c x.digest) (is_placement upload d) x n.placements settles.found h.placed (gone-zero x f))

  placement-sized : (upload : ℕ) (d : Digest) (x : Placement) → Settles (state_of rows n) upload d x → OneLength c → HasLength c d (settled_size rows.audit d x)
  placement-sized upload d x settles one = either (present rows.audit d) refl settles.holds
    where
      either : (b : Bool) → present rows.audit d ≡ b → (b || nat_eq x.gone 0) ≡ true → HasLength c d (settled_size rows.audit d x)
      either true here f = (h.lengths one).present d (settled_size rows.audit d x) here (present-size (stored_in (replay rows.audit) d) (not (has_kind (takes_digest d) (since_kind (stores d) rows.audit))) x.size here)
      either false absent f =
          subst (HasLength c d) (sym (ap (λ b. unwrap_or (cond b (size_of rows.audit d) None) x.size) absent))
          (subst (λ q. HasLength c q x.size) (sym (placement-digest upload d x n.placements settles.found)) (found-all (λ (x : Placement). x.gone ≡ 0 → HasLength c x.digest x.size) (is_placement upload d) x n.placements settles.found (h.lengths one).placed (gone-zero x f)))

  settle-made : (kind : EntryKind) (upload : ℕ) (d : Digest) (x : Placement) → IsNext kind → Settles (state_of rows n) upload d x → Names kind d (settled_size rows.audit d x) → IsWhole (after_entry rows (record { number = suc (length rows.audit); moment = t; kind = kind })) (gone_by (suc (length rows.audit)) (Some kind) (settling upload n)) c t
  unfolding IsNext
  settle-made kind upload d x legal settles is =
      let e : AuditEntry = record { number = suc (length rows.audit); moment = t; kind = kind } in
      let size = settled_size rows.audit d x in
      subst (λ m. IsWhole (after_entry rows e) m c t)
      (sym (gone-same (suc (length rows.audit)) kind (settling upload n) (λ q. untaken kind d size q is) (λ q. uncollected kind d size q is)))
      (kept-whole rows n (settling upload n) c before e d size h legal is (placement-kept upload d x settles) (placement-sized upload d x settles)
      (record { test = λ x. not (nat_eq upload x.upload); placements = refl; sealed = refl; spells = refl; sightings = refl }))

-- ---- every ask
refused-notes : (rows : Tables) (n : Notes) (c : Contents) (t : ℕ) (ask : Ask) (refusal : Refusal) → IsWhole rows n c t → IsWhole rows (noted_ask ask n (Err refusal)) c t
refused-notes rows n c t (ShowProject name) refusal h = h
refused-notes rows n c t (BeginUpload name) refusal h = h
refused-notes rows n c t (EndUpload job upload) refusal h = h
refused-notes rows n c t (Seal upload d size) refusal h = h
refused-notes rows n c t (SealManifest upload p) refusal h = h
refused-notes rows n c t (Settle name upload d) refusal h = settled-whole rows n c t upload h
refused-notes rows n c t (PutArtifact upload p) refusal h = settled-whole rows n c t upload h
refused-notes rows n c t (TouchBlob name d) refusal h = h
refused-notes rows n c t (Look name ref) refusal h = h
refused-notes rows n c t (NotePull name d) refusal h = h

abbrev KeepsMade : Tables → Notes → Contents → ℕ → Ask → Gave → Option EntryKind → Type 0
KeepsMade rows n c t ask gave made = IsWhole (rows_with t made rows) (gone_by (suc (length rows.audit)) made (noted_ask ask n (Ok gave))) c t

some-made : (rows : Tables) (n : Notes) (c : Contents) (before t : ℕ) (ask : Ask) (gave : Gave) (kind : EntryKind) → IsWhole rows n c before → before ≤ t → Legal rows.audit (record { number = suc (length rows.audit); moment = t; kind = kind }) → Commits ask (state_of rows n) kind → KeepsMade rows n c t ask gave (Some kind)
unfolding IsNext
some-made rows n c before t (ShowProject name) gave kind h later legal commits = absurd commits
some-made rows n c before t (TouchBlob name d) gave kind h later legal commits =
    subst (λ k. KeepsMade rows n c t (TouchBlob name d) gave (Some k)) (sym commits.2)
    (touch-made rows n c before t h later (project_of name) d commits.0 commits.1 (subst (λ k. Legal rows.audit (record { number = suc (length rows.audit); moment = t; kind = k })) commits.2 legal))
some-made rows n c before t (BeginUpload name) gave kind h later legal commits =
    subst (λ k. KeepsMade rows n c t (BeginUpload name) gave (Some k)) (sym commits)
    (quiet-made rows n c before t h later (entry.UploadBegun name) (subst (λ k. Legal rows.audit (record { number = suc (length rows.audit); moment = t; kind = k })) commits legal) refl (λ d. refl) (λ d. refl))
some-made rows n c before t (EndUpload job upload) gave kind h later legal commits =
    subst (λ k. KeepsMade rows n c t (EndUpload job upload) gave (Some k)) (sym commits)
    (quiet-made rows n c before t h later (entry.UploadEnded 0 upload) (subst (λ k. Legal rows.audit (record { number = suc (length rows.audit); moment = t; kind = k })) commits legal) refl (λ d. refl) (λ d. refl))
some-made rows n c before t (Seal upload d size) gave kind h later legal commits =
    subst (λ k. KeepsMade rows n c t (Seal upload d size) gave (Some k)) (sym commits.1)
    (seal-made rows n c before t h later (record { upload = upload; digest = d; size = size }) commits.0 (subst (λ k. Legal rows.audit (record { number = suc (length rows.audit); moment = t; kind = k })) commits.1 legal))
some-made rows n c before t (SealManifest upload p) gave kind h later legal commits =
    subst (λ k. KeepsMade rows n c t (SealManifest upload p) gave (Some k)) (sym commits.1)
    (seal-made rows n c before t h later (record { upload = upload; digest = p.digest; size = p.size }) commits.0 (subst (λ k. Legal rows.audit (record { number = suc (length rows.audit); moment = t; kind = k })) commits.1 legal))
some-made rows n c before t (Settle name upload d) gave kind h later legal commits =
    subst (λ k. KeepsMade rows n c t (Settle name upload d) gave (Some k)) (sym commits.2)
    (settle-made rows n c before t h later (entry.Associated (project_of name) d (settled_size rows.audit d commits.0)) upload d commits.0 (subst (λ k. Legal rows.audit (record { number = suc (length rows.audit); moment = t; kind = k })) commits.2 legal) commits.1 (refl, refl))
some-made rows n c before t (PutArtifact upload p) gave kind h later legal commits =
    subst (λ k. KeepsMade rows n c t (PutArtifact upload p) gave (Some k)) (sym commits.2)
    (settle-made rows n c before t h later (entry.ArtifactPut p.name p.digest (settled_size rows.audit p.digest commits.0) p.media p.refs p.children p.tag) upload p.digest commits.0 (subst (λ k. Legal rows.audit (record { number = suc (length rows.audit); moment = t; kind = k })) commits.2 legal) commits.1 (refl, refl))
some-made rows n c before t (Look name ref) gave kind h later legal commits = absurd commits
some-made rows n c before t (NotePull name d) gave kind h later legal commits =
    subst (λ k. KeepsMade rows n c t (NotePull name d) gave (Some k)) (sym commits)
    (quiet-made rows n c before t h later (entry.Pulled name d) (subst (λ k. Legal rows.audit (record { number = suc (length rows.audit); moment = t; kind = k })) commits legal) refl (λ q. refl) (λ q. refl))

-- a reply that gives and makes no entry
abbrev Bare : Reply → Gave → Type 0
Bare r gave = (r.outcome ≡ Ok gave) × (r.entry ≡ None)

bare-behind : (cause : Option Refusal) (r : Reply) (gave : Gave) → Bare (refuse cause r) gave → Bare r gave
bare-behind None r gave h = h
bare-behind (Some x) r gave h = cc (h.0)

no-bare-commit : (j : List AuditEntry) (x : Told) (made : EntryKind) (gave : Gave) → Bare (commits j x made) gave → ⊥
no-bare-commit j x made gave h = some-none (bare-behind (spent j) (record { outcome = Ok (Tells x); entry = Some made }) gave h).1
  where
    some-none : Some made ≡ None → ⊥
    some-none e = cc e

no-bare-seal : (j : List AuditEntry) (t upload : ℕ) (d : Digest) (size : ℕ) (x : Option UploadItem) (gave : Gave) → Bare (seal j t upload d size x) gave → ⊥
no-bare-seal j t upload d size None gave h = cc (h.0)
no-bare-seal j t upload d size (Some x) gave h =
    no-bare-commit j told.Done (entry.UploadEnded 0 upload) gave
    (bare-behind (still_collecting j d t) _ gave (bare-behind (over_limit j (project_of x.name) d size) _ gave h))

no-bare-manifest : (j : List AuditEntry) (t upload : ℕ) (p : PutAsk) (gave : Gave) → Bare (seal_manifest j t upload p) gave → ⊥
no-bare-manifest j t upload p gave h =
    no-bare-commit j told.Done (entry.UploadEnded 0 upload) gave
    (bare-behind (still_collecting j p.digest t) _ gave
    (bare-behind (over_limit j (project_of p.name) p.digest p.size) _ gave
    (bare-behind (immutable_tag j p.name p.digest p.tag) _ gave
    (bare-behind (missing_child j p.name p.children) _ gave
    (bare-behind (missing_ref j (project_of p.name) p.refs) _ gave
    (bare-behind (no_upload_of j p.name upload) _ gave h))))))

none-made : (rows : Tables) (n : Notes) (c : Contents) (before t : ℕ) (ask : Ask) (gave : Gave) → IsWhole rows n c before → before ≤ t → (reply_ask ask (state_of rows n) t).outcome ≡ Ok gave → (reply_ask ask (state_of rows n) t).entry ≡ None → KeepsMade rows n c t ask gave None
none-made rows n c before t (ShowProject name) gave h later ok none = later-whole rows n c before t h later
none-made rows n c before t (BeginUpload name) gave h later ok none = later-whole rows n c before t h later
none-made rows n c before t (EndUpload job upload) gave h later ok none = later-whole rows n c before t h later
none-made rows n c before t (Seal upload d size) gave h later ok none = absurd (no-bare-seal rows.audit t upload d size (upload_in (replay rows.audit) upload) gave (ok, none))
none-made rows n c before t (SealManifest upload p) gave h later ok none = absurd (no-bare-manifest rows.audit t upload p gave (ok, none))
none-made rows n c before t (Settle name upload d) gave h later ok none = settled-whole rows n c t upload (later-whole rows n c before t h later)
none-made rows n c before t (PutArtifact upload p) gave h later ok none = settled-whole rows n c t upload (later-whole rows n c before t h later)
none-made rows n c before t (TouchBlob name d) gave h later ok none = later-whole rows n c before t h later
none-made rows n c before t (Look name ref) gave h later ok none = later-whole rows n c before t h later
none-made rows n c before t (NotePull name d) gave h later ok none = later-whole rows n c before t h later

pub asked-whole : AsksKeepWhole
asked-whole rows n c before t ask (Err refusal) h later fits = refused-notes rows n c t ask refusal (later-whole rows n c before t h later)
asked-whole rows n c before t ask (Ok gave) h later fits = go (reply_ask ask (state_of rows n) t).entry refl
  where
    go : (made : Option EntryKind) → (reply_ask ask (state_of rows n) t).entry ≡ made → KeepsMade rows n c t ask gave made
    go None none = none-made rows n c before t ask gave h later (sym (fits refl)) none
    go (Some kind) some = some-made rows n c before t ask gave kind h later (reply-legal (state_of rows n) (Asked ask) t kind (omega (arith, h.now, later)) some) (ask-commits ask (state_of rows n) t kind some)
