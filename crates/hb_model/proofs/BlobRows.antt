-- The row of one digest after each entry, and what its bar tells.
use Rattle.std.proofs.Common.{◌≡◌, ℕ, nat_eq, Bool, true, false, not, cond, ◌||◌, List, [], ◌∷◌, fold, Option, Some, None, refl, sym, ap, ◌∙◌, arith}
use Rattle.std.proofs.lemmas.Bool.Decides.{nat_tests}
use Rattle.hb_base.specs.Tables.{changed_at, found, row_at}
use Rattle.hb_base.proofs.TableLaws.{row_at-changed, row_at-with, row_at-without}
use Rattle.hb_text.specs.Orders.{digest_cmp}
use Rattle.hb_text.specs.declared.digests.Digest.{Digest}
use Rattle.hb_text.proofs.KeyOrders.{digest_cmp-order}
use Rattle.hb_records.specs.Entries.{AuditEntry}
use Rattle.hb_records.specs.Orders.{blob_key}
use Rattle.hb_records.specs.declared.entries.EntryKind.{EntryKind}
use Rattle.hb_records.specs.declared.entries.EntryKind.TheVariants.{ProjectMade, LimitSet, RulesSet, UploadBegun, UploadGrown, UploadEnded, Associated, Touched, Unassociated, ArtifactPut, ArtifactDropped, TagDropped, Pulled, JobQueued, JobClaimed, GcMarked, Taking, Collected, GcSkipped, Adopted, GcDone, RetainBegun, RetainTurn, RetainDone}
use Rattle.hb_records.specs.declared.records.Blob.{Blob}
use Rattle.hb_rows.specs.Tables.{Tables, blob_at}
use Rattle.hb_model.specs.ArtifactEffects.{other_refs}
use Rattle.hb_model.specs.BlobEffects.{failed_blob, failed_blobs, idle_row, taken_blob, touched_blob}
use Rattle.hb_model.specs.BlobRows.{BarTells, changed_if, row_after}
use Rattle.hb_model.specs.CollectEffects.{is_failure, marked_blob}
use Rattle.hb_model.specs.Effects.{effect, rows_of}
use Rattle.hb_model.specs.Moves.{stores, takes_digest}
use Rattle.hb_model.specs.Words.{among, has_kind, same_digest, since_kind}

once_more : (a b : Bool) (f : Blob → Blob) → ((r : Blob) → f (f r) ≡ f r) → (x : Option Blob) → changed_if b f (changed_if a f x) ≡ changed_if (a || b) f x
once_more true true f twice None = refl
once_more true true f twice (Some r) = ap Some (twice r)
once_more true false f twice x = refl
once_more false b f twice x = refl

-- a change of several rows
several : (d : Digest) (f : Blob → Blob) → ((r : Blob) → (f r).digest ≡ r.digest) → ((r : Blob) → f (f r) ≡ f r) → (rows : List Blob) (digests : List Digest) → row_at digest_cmp blob_key d (fold (λ rows e. changed_at digest_cmp blob_key e f rows) rows digests) ≡ changed_if (among d digests) f (row_at digest_cmp blob_key d rows)
several d f keeps twice rows [] = refl
several d f keeps twice rows (e ∷ digests) =
    several d f keeps twice (changed_at digest_cmp blob_key e f rows) digests
    ∙ ap (changed_if (among d digests) f) (row_at-changed digest_cmp-order.total blob_key d e f keeps rows)
    ∙ once_more (same_digest d e) (among d digests) f twice (row_at digest_cmp blob_key d rows)

pub blob_at-after : (d : Digest) (t : Tables) (n moment : ℕ) (kind : EntryKind) → blob_at (effect n moment kind t) d ≡ row_after d n moment kind (blob_at t d)
blob_at-after d t n moment (Associated project digest size) = row_at-with digest_cmp-order.total blob_key d (idle_row n moment digest size) t.blobs
blob_at-after d t n moment (Touched project digest) = row_at-changed digest_cmp-order.total blob_key d digest (touched_blob n moment) (λ r. refl) t.blobs
blob_at-after d t n moment (ArtifactPut name digest size media refs children tag) =
    several d (touched_blob n moment) (λ r. refl) (λ r. refl) _ (other_refs digest refs)
    ∙ ap (changed_if (among d (other_refs digest refs)) (touched_blob n moment)) (row_at-with digest_cmp-order.total blob_key d (idle_row n moment digest size) t.blobs)
blob_at-after d t n moment (GcMarked job digests barred upto last) = several d (marked_blob n) (λ r. refl) (λ r. refl) t.blobs digests
blob_at-after d t n moment (Taking job digest) = row_at-changed digest_cmp-order.total blob_key d digest (taken_blob n moment) (λ r. refl) t.blobs
blob_at-after d t n moment (Collected job digest) = row_at-without digest_cmp-order.total blob_key d digest t.blobs
blob_at-after d t n moment (GcSkipped job digest why) = elim (is_failure why) as (λ b. row_at digest_cmp blob_key d (cond b (failed_blobs n digest t.blobs) t.blobs) ≡ cond b (changed_if (same_digest d digest) (failed_blob n) (blob_at t d)) (blob_at t d)) [ true ↦ row_at-changed digest_cmp-order.total blob_key d digest (failed_blob n) (λ r. refl) t.blobs | false ↦ refl ]
blob_at-after d t n moment (Adopted job digest size) = row_at-with digest_cmp-order.total blob_key d (idle_row n moment digest size) t.blobs
blob_at-after d t n moment (ProjectMade project limit) = refl
blob_at-after d t n moment (LimitSet project limit) = refl
blob_at-after d t n moment (RulesSet project rules) = refl
blob_at-after d t n moment (UploadBegun name) = refl
blob_at-after d t n moment (UploadGrown upload offset) = refl
blob_at-after d t n moment (UploadEnded job upload) = refl
blob_at-after d t n moment (Unassociated job project digest) = refl
blob_at-after d t n moment (ArtifactDropped job name digest) = refl
blob_at-after d t n moment (TagDropped name tag) = refl
blob_at-after d t n moment (Pulled name digest) = refl
blob_at-after d t n moment (JobQueued kind) = refl
blob_at-after d t n moment (JobClaimed job) = refl
blob_at-after d t n moment (GcDone job) = refl
blob_at-after d t n moment (RetainBegun job) = refl
blob_at-after d t n moment (RetainTurn job name tag given) = refl
blob_at-after d t n moment (RetainDone job) = refl

-- ---- the bar
-- whether the row's bar tells whether a Taking stands
abbrev Tells : Option Blob → Bool → Type 0
Tells x taken = (row : Blob) → x ≡ Some row → nat_eq row.bar 0 ≡ not taken

-- a change that keeps the bar
keeps-tells : (b taken : Bool) (f : Blob → Blob) → ((r : Blob) → (f r).bar ≡ r.bar) → (x : Option Blob) → Tells x taken → Tells (changed_if b f x) taken
keeps-tells true taken f same None h row e = cc
keeps-tells true taken f same (Some r) h row e = let at : f r ≡ row = cc in ap (λ (z : Blob). nat_eq z.bar 0) (sym at) ∙ ap (λ m. nat_eq m 0) (same r) ∙ h r refl
keeps-tells false taken f same x h row e = h row e

-- a stored row
stored-tells : (b taken : Bool) (n moment : ℕ) (digest : Digest) (size : ℕ) (x : Option Blob) → Tells x taken → Tells (cond b (Some (idle_row n moment digest size)) x) (cond b false taken)
stored-tells true taken n moment digest size x h row e = let at : idle_row n moment digest size ≡ row = cc in ap (λ (z : Blob). nat_eq z.bar 0) (sym at)
stored-tells false taken n moment digest size x h row e = h row e

-- a taking
taking-tells : (b taken : Bool) (n moment : ℕ) (x : Option Blob) → Tells x taken → Tells (changed_if b (taken_blob n moment) x) (b || taken)
taking-tells true taken n moment None h row e = cc
taking-tells true taken n moment (Some r) h row e =
    let at : taken_blob n moment r ≡ row = cc in
    ap (λ (z : Blob). nat_eq z.bar 0) (sym at) ∙ grind (arith, nat_tests)
taking-tells false taken n moment x h row e = h row e

gone-tells : (b taken : Bool) (x : Option Blob) → Tells x taken → Tells (cond b None x) taken
gone-tells true taken x h row e = cc
gone-tells false taken x h row e = h row e

-- a Taking of the digest stands since it was last stored
abbrev pub taken_since : List AuditEntry → Digest → Bool
taken_since j d = has_kind (takes_digest d) (since_kind (stores d) j)

-- the same, with an entry more
abbrev pub taken_after : Digest → EntryKind → Bool → Bool
taken_after d kind taken = cond (stores d kind) false (takes_digest d kind || taken)

tells-after : (d : Digest) (n moment : ℕ) (kind : EntryKind) (x : Option Blob) (taken : Bool) → Tells x taken → Tells (row_after d n moment kind x) (taken_after d kind taken)
tells-after d n moment (Associated project digest size) x taken h = stored-tells (same_digest d digest) taken n moment digest size x h
tells-after d n moment (Adopted job digest size) x taken h = stored-tells (same_digest d digest) taken n moment digest size x h
tells-after d n moment (Touched project digest) x taken h = keeps-tells (same_digest d digest) taken (touched_blob n moment) (λ r. refl) x h
tells-after d n moment (ArtifactPut name digest size media refs children tag) x taken h = keeps-tells (among d (other_refs digest refs)) _ (touched_blob n moment) (λ r. refl) _ (stored-tells (same_digest d digest) taken n moment digest size x h)
tells-after d n moment (GcMarked job digests barred upto last) x taken h = keeps-tells (among d digests) taken (marked_blob n) (λ r. refl) x h
tells-after d n moment (Taking job digest) x taken h = taking-tells (same_digest d digest) taken n moment x h
tells-after d n moment (Collected job digest) x taken h = gone-tells (same_digest d digest) taken x h
tells-after d n moment (GcSkipped job digest why) x taken h = elim (is_failure why) as (λ b. Tells (cond b (changed_if (same_digest d digest) (failed_blob n) x) x) taken) [ true ↦ keeps-tells (same_digest d digest) taken (failed_blob n) (λ r. refl) x h | false ↦ h ]
tells-after d n moment _ x taken h = h

pub taken-since : (d : Digest) (e : AuditEntry) (j : List AuditEntry) → taken_since (e ∷ j) d ≡ taken_after d e.kind (taken_since j d)
taken-since d e j = elim (stores d e.kind) as (λ b. has_kind (takes_digest d) (cond b [] (e ∷ since_kind (stores d) j)) ≡ cond b false (takes_digest d e.kind || taken_since j d)) [ true ↦ refl | false ↦ refl ]

pub bar-tells : (j : List AuditEntry) → BarTells j
bar-tells [] d row found = cc
bar-tells (e ∷ j) d row found =
    tells-after d e.number e.moment e.kind (blob_at (rows_of j) d) (taken_since j d) (bar-tells j d) row (sym (blob_at-after d (rows_of j) e.number e.moment e.kind) ∙ found)
    ∙ ap not (sym (taken-since d e j))
