-- What is opened: its bytes have the digest, and its length is the one that was told.
use Rattle.std.proofs.Common.{◌≡◌, ℕ, true, false, cond, List, ◌∷◌, [], length, Option, Some, None, Result, Ok, Err, IfOk, IfSome, IsSomeAnd, is_some, option_map, option_and_then, refl, ap, subst, ◌∙◌}
use Rattle.std.specs.Ordering.{is_eq}
use Rattle.std.specs.declared.cmp.Ordering.{Ordering}
use Rattle.hb_base.specs.Tables.{row_at}
use Rattle.hb_text.specs.Digests.{digest_of}
use Rattle.hb_text.specs.Names.{project_of}
use Rattle.hb_text.specs.declared.digests.Digest.{Digest}
use Rattle.hb_text.specs.declared.references.Reference.{Reference}
use Rattle.hb_text.specs.declared.references.Reference.TheVariants as reference
use Rattle.hb_records.specs.Orders.{artifact_key, named_digest_cmp, pair_key}
use Rattle.hb_records.specs.declared.records.Artifact.{Artifact}
use Rattle.hb_records.specs.declared.records.Assoc.{Assoc}
use Rattle.hb_records.specs.declared.records.TagRow.{TagRow}
use Rattle.hb_records.specs.declared.notes.Notes.{Notes}
use Rattle.hb_rows.specs.Tables.{Tables, artifact_at, pair_at, tag_at}
use Rattle.hb_store.specs.Calls.{Fetches}
use Rattle.hb_store.specs.Contents.{Contents, bytes_of}
use Rattle.hb_model.specs.Registry.{StoredItem, stored_in}
use Rattle.hb_model.specs.Replay.{replay, size_of}
use Rattle.hb_model.specs.Seen.{seen_artifact, seen_pair}
use Rattle.hb_model.specs.Sound.{HasLength, OneLength}
use Rattle.hb_model.specs.Whole.{IsWhole}
use Rattle.hb_history.proofs.ArtifactSizes.{artifact-sizes-stored}
use Rattle.hb_history.proofs.Settled.{exact-digest, same-pair-digest}
use Rattle.hb_history.proofs.Sizes.{sizes-stored}
use Rattle.hb_desk.specs.Calls.{BlobOpened, Call, Content, ManifestOpened, plain}
use Rattle.hb_desk.specs.Reply.{refuse}
use Rattle.hb_desk.specs.declared.gave.Opened.{Opened}
use Rattle.hb_desk.specs.declared.refusals.Refusal.{Refusal}
use Rattle.hb_plan.specs.RowRefusals.{no_project_row}
use Rattle.hb_plan.specs.RowReplies.{open_artifact_row, open_row, row_named_by, row_reply}
use Rattle.hb_plan.proofs.BuiltAudits.{present-stored}
use Rattle.hb_plan.proofs.SeenRows.{artifact-seen, pair-seen}
use Rattle.hb_world.specs.StoreStands.{Stands}
use Rattle.hb_world.specs.Storing.{RowsReply}
use Rattle.hb_world.specs.Worlds.{IsTrueStore, IsWorld, OneLengthTold, RowsStand, Shown}
use Rattle.hb_world.proofs.Opening.{opened_bytes}
use Rattle.hb_world.proofs.StoreEvents.{still-whole}

-- ---- bytes
opened-true : (old new : Option Contents) (d : Digest) (told : Option (List ℕ)) (left : ℕ) → Stands old new → IfSome old IsTrueStore → is_some old ≡ true → Fetches new d told left → IsSomeAnd told (λ b. (digest_of b ≡ d) × (length b ≡ left))
opened-true None new d told left stands h tells fetched = cc tells
opened-true (Some c) new d told left stands h tells fetched = opened_bytes (Some c) new d told left left (h d) stands fetched refl

-- ---- sizes
-- a row that is found has the key that was looked for
found-key : {Row K : Type 0} (compare : K → K → Ordering) (key : Row → K) (k : K) (rows : List Row) (row : Row) → row_at compare key k rows ≡ Some row → is_eq (compare k (key row)) ≡ true
found-key compare key k [] row e = cc e
found-key compare key k (x ∷ rows) row e =
    elim (is_eq (compare k (key x))) as (λ b. is_eq (compare k (key x)) ≡ b → cond b (Some x) (row_at compare key k rows) ≡ Some row → is_eq (compare k (key row)) ≡ true) [
      | true ↦ λ t f. let same : x ≡ row = cc in subst (λ r. is_eq (compare k (key r)) ≡ true) same t
      | false ↦ λ t f. found-key compare key k rows row f
    ] refl e

pair-digest : (r : Tables) (p : List ℕ) (d : Digest) (row : Assoc) → pair_at r p d ≡ Some row → d ≡ row.digest
pair-digest r p d row found = exact-digest d row.digest (same-pair-digest p d row.project row.digest (found-key named_digest_cmp pair_key (p, d) r.pairs row found))

artifact-digest : (r : Tables) (name : List ℕ) (d : Digest) (row : Artifact) → artifact_at r name d ≡ Some row → d ≡ row.digest
artifact-digest r name d row found = exact-digest d row.digest (same-pair-digest name d row.name row.digest (found-key named_digest_cmp artifact_key (name, d) r.artifacts row found))

-- what is stored with a size is held with that length
stored-length : (r : Tables) (w : Shown) (c : Contents) (d : Digest) (size : ℕ) → RowsStand r w → IsWhole r w.notes c w.moment → OneLength c → size_of r.audit d ≡ Some size → HasLength c d size
stored-length r w c d size stand whole one sized =
    (whole.lengths one).present d size (present-stored r.audit stand.built d ∙ stored (stored_in (replay r.audit) d) sized) sized
  where
    stored : (x : Option StoredItem) → option_map (λ (x : StoredItem). x.size) x ≡ Some size → is_some x ≡ true
    stored None e = cc e
    stored (Some x) e = refl

-- a call whose reply names content with the size that is stored
abbrev NamesSized : Tables → Call → Type 0
NamesSized r call = (n : Notes) (d : Digest) (size : ℕ) (media : Option (List ℕ)) → Ok (Content d size media) ≡ (row_reply call r n).outcome → size_of r.audit d ≡ Some size

pub blob-sized : (r : Tables) (w : Shown) (name : List ℕ) (d : Digest) → RowsStand r w → NamesSized r (BlobOpened name d)
blob-sized r w name d stand n q size media e = go (no_project_row r (project_of name)) (pair_at r (project_of name) d) refl e
  where
    go : (cause : Option Refusal) (row : Option Assoc) → pair_at r (project_of name) d ≡ row → Ok (Content q size media) ≡ (refuse cause (open_row row)).outcome → size_of r.audit q ≡ Some size
    go (Some x) row is e = cc e
    go None None is e = cc e
    go None (Some row) is e =
        let same : row.digest ≡ q = cc in
        let long : row.size ≡ size = cc in
        subst (λ x. size_of r.audit x ≡ Some size) (pair-digest r (project_of name) d row is ∙ same)
        (sizes-stored r.audit stand.stands.history (project_of name) d (seen_pair row) (pair-seen r stand.stands (project_of name) d ∙ ap (option_map seen_pair) is) ∙ ap Some long)

artifact-sized : (r : Tables) (w : Shown) (name : List ℕ) (d : Digest) (row : Artifact) → RowsStand r w → artifact_at r name d ≡ Some row → size_of r.audit row.digest ≡ Some row.size
artifact-sized r w name d row stand is =
    subst (λ x. size_of r.audit x ≡ Some row.size) (artifact-digest r name d row is)
    (artifact-sizes-stored r.audit stand.stands.history name d (seen_artifact row) (artifact-seen r stand.stands name d ∙ ap (option_map seen_artifact) is))

named-sized : (r : Tables) (w : Shown) (name : List ℕ) (ref : Reference) (row : Artifact) → RowsStand r w → row_named_by r name ref ≡ Some row → size_of r.audit row.digest ≡ Some row.size
named-sized r w name (reference.Digest d) row stand is = artifact-sized r w name d row stand is
named-sized r w name (reference.Tag tag) row stand is = go (tag_at r name tag) is
  where
    go : (x : Option TagRow) → option_and_then (λ (x : TagRow). artifact_at r name x.digest) x ≡ Some row → size_of r.audit row.digest ≡ Some row.size
    go None e = cc e
    go (Some x) e = artifact-sized r w name x.digest row stand e

pub manifest-sized : (r : Tables) (w : Shown) (name : List ℕ) (ref : Reference) → RowsStand r w → NamesSized r (ManifestOpened name ref)
manifest-sized r w name ref stand n q size media e = go (no_project_row r (project_of name)) (row_named_by r name ref) refl e
  where
    go : (cause : Option Refusal) (row : Option Artifact) → row_named_by r name ref ≡ row → Ok (Content q size media) ≡ (refuse cause (open_artifact_row row)).outcome → size_of r.audit q ≡ Some size
    go (Some x) row is e = cc e
    go None None is e = cc e
    go None (Some row) is e =
        let same : row.digest ≡ q = cc in
        let long : row.size ≡ size = cc in
        subst (λ x. size_of r.audit x ≡ Some size) same (named-sized r w name ref row stand is ∙ ap Some long)

-- ---- what was opened
left-is : (d : Digest) (size left : ℕ) (held told : Option (List ℕ)) → IfSome held (λ b. length b ≡ size) → IsSomeAnd held (λ b. (told ≡ Some b) × (left ≡ length b)) → left ≡ size
left-is d size left None told long fetched = absurd fetched
left-is d size left (Some b) told long fetched = fetched.1 ∙ long

fetched-length : (w : Shown) (contents : Option Contents) (call : Call) (d : Digest) (size : ℕ) (media told : Option (List ℕ)) (left : ℕ) → IsWorld w → Stands w.contents contents → ((r : Tables) → RowsStand r w → NamesSized r call) → RowsReply w.rows w.notes call (Ok (Content d size media)) → Fetches contents d told left → OneLengthTold w.rows contents → left ≡ size
fetched-length w contents call d size media told left h stands sized answers fetched one = go w.rows contents h.rows h.whole stands answers fetched one
  where
    go : (rows : Option Tables) (contents : Option Contents) → IfSome rows (λ r. RowsStand r w) → IfSome rows (λ r. IfSome w.contents (λ c. IsWhole r w.notes c w.moment)) → Stands w.contents contents → RowsReply rows w.notes call (Ok (Content d size media)) → Fetches contents d told left → OneLengthTold rows contents → left ≡ size
    go None contents stand whole stands answers fetched one = absurd one
    go (Some r) None stand whole stands answers fetched one = absurd one
    go (Some r) (Some c) stand whole stands answers fetched one = left-is d size left (bytes_of c d) told (stored-length r w c d size stand (still-whole r w.notes w.moment w.contents c stands whole) one (sized r stand w.notes d size media (answers refl))) fetched

module _ {R : Type 0} (bytes : R → Option (List ℕ)) (left : R → ℕ) (w : Shown) (contents : Option Contents) (h : IsWorld w) (stands : Stands w.contents contents) where
  abbrev Fetched : Result (Opened R) Refusal → Type 0
  Fetched result = IfOk result (λ o. Fetches contents o.digest (bytes o.reader) (left o.reader))

  pub opened-length : (result : Result (Opened R) Refusal) (call : Call) (rows : Option Tables) → rows ≡ w.rows → ((r : Tables) → RowsStand r w → NamesSized r call) → RowsReply w.rows w.notes call (plain (λ o. Content o.digest o.size o.media) result) → Fetched result → OneLengthTold rows contents → IfOk result (λ o. left o.reader ≡ o.size)
  opened-length (Ok o) call rows same sized answers fetched one = fetched-length w contents call o.digest o.size o.media (bytes o.reader) (left o.reader) h stands sized answers fetched (subst (λ rows. OneLengthTold rows contents) same one)
  opened-length (Err refusal) call rows same sized answers fetched one = tt

  pub opened-bytes : (result : Result (Opened R) Refusal) → Fetched result → is_some w.contents ≡ true → IfOk result (λ o. IsSomeAnd (bytes o.reader) (λ b. (digest_of b ≡ o.digest) × (length b ≡ left o.reader)))
  opened-bytes (Ok o) fetched tells = opened-true w.contents contents o.digest (bytes o.reader) (left o.reader) stands h.bytes tells fetched
  opened-bytes (Err refusal) fetched tells = tt
