-- A digest is present exactly where its row says so.
use Rattle.std.proofs.Common.{◌≡◌, ℕ, Bool, true, false, not, cond, ◌&&◌, ◌||◌, List, [], ◌∷◌, Option, Some, None, option_map, is_some, refl, sym, ap, subst, ◌∙◌, nat_eq, arith}
use Rattle.std.proofs.lemmas.Bool.{and_parts, or_right}
use Rattle.std.proofs.lemmas.Bool.Decides.{nat_tests}
use Rattle.hb_base.proofs.MappedTables.{row_at-map}
use Rattle.hb_text.specs.declared.digests.Digest.{Digest}
use Rattle.hb_text.specs.Orders.{digest_cmp}
use Rattle.hb_records.specs.Entries.{AuditEntry}
use Rattle.hb_records.specs.Orders.{blob_key}
use Rattle.hb_records.specs.declared.entries.EntryKind.{EntryKind}
use Rattle.hb_records.specs.declared.entries.EntryKind.TheVariants.{Associated, Touched, ArtifactPut, GcMarked, Taking, Collected, GcSkipped, Adopted}
use Rattle.hb_records.specs.declared.jobs.Verdict.TheVariants as verdict
use Rattle.hb_records.specs.declared.records.Blob.{Blob}
use Rattle.hb_records.specs.declared.records.Status.{Status}
use Rattle.hb_records.specs.declared.records.Status.TheVariants.{Idle, Delete, Deleting, DeleteFailed}
use Rattle.hb_rows.specs.Tables.{blob_at}
use Rattle.hb_model.specs.ArtifactEffects.{other_refs}
use Rattle.hb_model.specs.BlobEffects.{idle_row, touched_blob, taken_blob, failed_blob}
use Rattle.hb_model.specs.BlobRows.{changed_if, row_after}
use Rattle.hb_model.specs.CollectEffects.{marked_blob}
use Rattle.hb_model.specs.Effects.{rows_of}
use Rattle.hb_model.specs.History.{LegalKind, History}
use Rattle.hb_model.specs.Jobs.{takes_for}
use Rattle.hb_model.specs.LegalCollect.{last_move}
use Rattle.hb_model.specs.Moves.{stores, takes_digest, collects, touches, marks, moves}
use Rattle.hb_model.specs.Presence.{present}
use Rattle.hb_model.specs.Registry.{stored_in, stored_key}
use Rattle.hb_model.specs.Replay.{replay}
use Rattle.hb_model.specs.Seen.{seen_blob}
use Rattle.hb_model.specs.Words.{same_digest, among, some_and, has_kind, last_kind, since_kind}
use Rattle.hb_model.proofs.BlobRows.{taken_since, blob_at-after, bar-tells}
use Rattle.hb_model.proofs.SeenRows.{seen-rows}
use Rattle.hb_history.specs.PresentRows.{is_here, is_here_by}
use Rattle.hb_history.proofs.Settled.{exact-digest}

-- the bar that a status asks for
abbrev Fitting : Status → ℕ → Type 0
Fitting Idle bar = nat_eq bar 0 ≡ true
Fitting Delete bar = Unit {0}
Fitting Deleting bar = nat_eq bar 0 ≡ false
Fitting DeleteFailed bar = nat_eq bar 0 ≡ false

abbrev Fits : Option Blob → Type 0
Fits None = Unit {0}
Fits (Some row) = Fitting row.status row.bar

fits-idle : (b : Bool) (n moment : ℕ) (digest : Digest) (size : ℕ) (x : Option Blob) → Fits x → Fits (cond b (Some (idle_row n moment digest size)) x)
fits-idle true n moment digest size x h = refl
fits-idle false n moment digest size x h = h

fits-touched : (b : Bool) (n moment : ℕ) (x : Option Blob) → Fits x → Fits (changed_if b (touched_blob n moment) x)
fits-touched true n moment None h = h
fits-touched true n moment (Some row) h = h
fits-touched false n moment x h = h

fits-marked : (b : Bool) (n : ℕ) (x : Option Blob) → Fits x → Fits (changed_if b (marked_blob n) x)
fits-marked true n None h = h
fits-marked true n (Some row) h = tt
fits-marked false n x h = h

fits-taken : (b : Bool) (n moment : ℕ) (x : Option Blob) → Fits x → Fits (changed_if b (taken_blob n moment) x)
fits-taken true n moment None h = h
fits-taken true n moment (Some row) h = grind (arith, nat_tests)
fits-taken false n moment x h = h

fits-gone : (b : Bool) (x : Option Blob) → Fits x → Fits (cond b None x)
fits-gone true x h = tt
fits-gone false x h = h

fits-failed : (b : Bool) (n : ℕ) (x : Option Blob) → (b ≡ true → (row : Blob) → x ≡ Some row → nat_eq row.bar 0 ≡ false) → Fits x → Fits (changed_if b (failed_blob n) x)
fits-failed true n None barred h = h
fits-failed true n (Some row) barred h = barred refl row refl
fits-failed false n x barred h = h

-- ---- where the last move is a Taking, one stands since the digest was last stored
abbrev last_is_taking : Digest → Option AuditEntry → Bool
last_is_taking d last = some_and (λ e. takes_digest d e.kind) last

-- an entry that stores takes nothing
apart : (d : Digest) (kind : EntryKind) → stores d kind ≡ true → takes_digest d kind ≡ false
apart d (Taking job digest) e = cc
apart d _ e = refl

taking-stands : (d : Digest) (j : List AuditEntry) → last_is_taking d (last_kind (moves d) j) ≡ true → taken_since j d ≡ true
taking-stands d [] = λ g. g
taking-stands d (x ∷ j) =
    let last = last_kind (moves d) j in
    let since = since_kind (stores d) j in
    elim (stores d x.kind) as (λ b. stores d x.kind ≡ b → last_is_taking d (cond (b || takes_digest d x.kind || collects d x.kind || touches d x.kind || marks d x.kind) (Some x) last) ≡ true → has_kind (takes_digest d) (cond b [] (x ∷ since)) ≡ true) [
      | true ↦ λ s g. let none = apart d x.kind s in cc
      | false ↦ λ s. elim (takes_digest d x.kind || collects d x.kind || touches d x.kind || marks d x.kind) as (λ m. last_is_taking d (cond m (Some x) last) ≡ true → (takes_digest d x.kind || has_kind (takes_digest d) since) ≡ true) [
        | true ↦ λ g. ap (λ b. b || has_kind (takes_digest d) since) g
        | false ↦ λ g. or_right (takes_digest d x.kind) (has_kind (takes_digest d) since) (taking-stands d j g)
      ]
    ] refl

taking-of-job : (job : ℕ) (d : Digest) (kind : EntryKind) → takes_for job d kind ≡ true → takes_digest d kind ≡ true
taking-of-job job d (Taking j digest) e = (and_parts (nat_eq job j) (same_digest d digest) e).1
taking-of-job job d _ e = cc

last-of-job : (job : ℕ) (d : Digest) (last : Option AuditEntry) → some_and (λ e. takes_for job d e.kind) last ≡ true → last_is_taking d last ≡ true
last-of-job job d None e = cc
last-of-job job d (Some x) e = taking-of-job job d x.kind e

-- a row whose last move is a Taking has a bar
barred : (j : List AuditEntry) (job : ℕ) (d digest : Digest) → same_digest d digest ≡ true → last_move (takes_for job digest) j digest ≡ true → (row : Blob) → blob_at (rows_of j) d ≡ Some row → nat_eq row.bar 0 ≡ false
barred j job d digest same taken row found =
    let one = exact-digest d digest same in
    let last = last-of-job job d (last_kind (moves d) j) (subst (λ z. last_move (takes_for job z) j z ≡ true) (sym one) taken) in
    bar-tells j d row found ∙ ap not (taking-stands d j last)

fits-after : (j : List AuditEntry) (d : Digest) (n moment : ℕ) (kind : EntryKind) → LegalKind j moment kind → Fits (blob_at (rows_of j) d) → Fits (row_after d n moment kind (blob_at (rows_of j) d))
fits-after j d n moment (Associated project digest size) legal h = fits-idle (same_digest d digest) n moment digest size _ h
fits-after j d n moment (Adopted job digest size) legal h = fits-idle (same_digest d digest) n moment digest size _ h
fits-after j d n moment (Touched project digest) legal h = fits-touched (same_digest d digest) n moment _ h
fits-after j d n moment (ArtifactPut name digest size media refs children tag) legal h = fits-touched (among d (other_refs digest refs)) n moment _ (fits-idle (same_digest d digest) n moment digest size _ h)
fits-after j d n moment (GcMarked job digests barred upto last) legal h = fits-marked (among d digests) n _ h
fits-after j d n moment (Taking job digest) legal h = fits-taken (same_digest d digest) n moment _ h
fits-after j d n moment (Collected job digest) legal h = fits-gone (same_digest d digest) _ h
fits-after j d n moment (GcSkipped job digest verdict.Pending) legal h = h
fits-after j d n moment (GcSkipped job digest verdict.Collected) legal h = h
fits-after j d n moment (GcSkipped job digest verdict.Touched) legal h = h
fits-after j d n moment (GcSkipped job digest verdict.Barred) legal h = fits-failed (same_digest d digest) n _ (λ same row found. barred j job d digest same legal.taken row found) h
fits-after j d n moment (GcSkipped job digest verdict.Failed) legal h = fits-failed (same_digest d digest) n _ (λ same row found. barred j job d digest same legal.taken row found) h
fits-after j d n moment _ legal h = h

fits-rows : (d : Digest) (j : List AuditEntry) → History j → Fits (blob_at (rows_of j) d)
fits-rows d [] legal = tt
fits-rows d (e ∷ j) legal = subst Fits (sym (blob_at-after d (rows_of j) e.number e.moment e.kind)) (fits-after j d e.number e.moment e.kind legal.0.kind (fits-rows d j legal.1))

stored-row : (j : List AuditEntry) (d : Digest) → is_some (stored_in (replay j) d) ≡ is_some (blob_at (rows_of j) d)
stored-row j d = ap (λ m. is_some (stored_in m d)) (sym (seen-rows j)) ∙ ap is_some (row_at-map digest_cmp blob_key stored_key seen_blob (λ r. refl) d (rows_of j).blobs) ∙ some-map (blob_at (rows_of j) d)
  where
    some-map : (x : Option Blob) → is_some (option_map seen_blob x) ≡ is_some x
    some-map None = refl
    some-map (Some row) = refl

here-by : (s : Status) (bar : ℕ) → Fitting s bar → nat_eq bar 0 ≡ is_here_by s bar
here-by Idle bar h = h
here-by Delete bar h = refl
here-by Deleting bar h = h
here-by DeleteFailed bar h = h

here : (taken : Bool) (x : Option Blob) → Fits x → ((row : Blob) → x ≡ Some row → nat_eq row.bar 0 ≡ not taken) → (is_some x && not taken) ≡ is_here x
here taken None h tells = refl
here taken (Some row) h tells = sym (tells row refl) ∙ here-by row.status row.bar h

pub present-rows : (j : List AuditEntry) → History j → (d : Digest) → present j d ≡ is_here (blob_at (rows_of j) d)
present-rows j legal d = ap (λ b. b && not (taken_since j d)) (stored-row j d) ∙ here (taken_since j d) (blob_at (rows_of j) d) (fits-rows d j legal) (bar-tells j d)
