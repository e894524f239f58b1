-- The row of what a project has is idle.
use Rattle.std.proofs.Common.{◌≡◌, ℕ, Bool, true, false, cond, ◌&&◌, List, [], ◌∷◌, Option, Some, None, IsSome, IsSomeAnd, IsTrue, refl, sym, subst}
use Rattle.hb_text.specs.declared.digests.Digest.{Digest}
use Rattle.hb_records.specs.Entries.{AuditEntry}
use Rattle.hb_records.specs.declared.entries.EntryKind.{EntryKind}
use Rattle.hb_records.specs.declared.entries.EntryKind.TheVariants.{Associated, Touched, ArtifactPut, GcMarked, Taking, Collected, GcSkipped, Adopted}
use Rattle.hb_records.specs.declared.records.Blob.{Blob}
use Rattle.hb_records.specs.declared.records.Status.TheVariants.{Idle}
use Rattle.hb_rows.specs.Tables.{blob_at}
use Rattle.hb_model.specs.ArtifactEffects.{other_refs}
use Rattle.hb_model.specs.BlobEffects.{idle_row, touched_blob, taken_blob, failed_blob}
use Rattle.hb_model.specs.BlobRows.{changed_if, row_after}
use Rattle.hb_model.specs.CollectEffects.{is_failure, marked_blob}
use Rattle.hb_model.specs.Effects.{rows_of}
use Rattle.hb_model.specs.History.{Legal, History}
use Rattle.hb_model.specs.Moves.{stores, touches}
use Rattle.hb_model.specs.Registry.{pair_in}
use Rattle.hb_model.specs.Replay.{replay}
use Rattle.hb_model.specs.Words.{same_digest, among}
use Rattle.hb_model.proofs.BlobRows.{blob_at-after}
use Rattle.hb_history.proofs.PairSteps.{pair-step}
use Rattle.hb_history.proofs.Settled.{Unmoved, unmoved, named-pair, named-unmoved, pair-before, settled}

abbrev IsIdle : Option Blob → Type 0
IsIdle x = IsSomeAnd x (λ row. row.status ≡ Idle)

idle-touched : (b : Bool) (n moment : ℕ) (x : Option Blob) → IsIdle x → IsIdle (changed_if b (touched_blob n moment) x)
idle-touched true n moment None h = h
idle-touched true n moment (Some row) h = h
idle-touched false n moment x h = h

-- the row of what an entry stores
idle-stored : (d : Digest) (n moment : ℕ) (kind : EntryKind) (x : Option Blob) → stores d kind ≡ true → IsIdle (row_after d n moment kind x)
idle-stored d n moment (Associated project digest size) x e = subst (λ b. IsIdle (cond b (Some (idle_row n moment digest size)) x)) (sym e) refl
idle-stored d n moment (ArtifactPut name digest size media refs children tag) x e = idle-touched (among d (other_refs digest refs)) n moment _ (subst (λ b. IsIdle (cond b (Some (idle_row n moment digest size)) x)) (sym e) refl)
idle-stored d n moment (Adopted job digest size) x e = subst (λ b. IsIdle (cond b (Some (idle_row n moment digest size)) x)) (sym e) refl
idle-stored d n moment _ x e = cc

-- an idle row that an entry leaves or touches
idle-kept : (d : Digest) (n moment : ℕ) (kind : EntryKind) (x : Option Blob) → stores d kind ≡ false → Unmoved d kind → IsIdle x → IsIdle (row_after d n moment kind x)
idle-kept d n moment (Associated project digest size) x s u h = subst (λ b. IsIdle (cond b (Some (idle_row n moment digest size)) x)) (sym s) h
idle-kept d n moment (Touched project digest) x s u h = idle-touched (same_digest d digest) n moment x h
idle-kept d n moment (ArtifactPut name digest size media refs children tag) x s u h = idle-touched (among d (other_refs digest refs)) n moment _ (subst (λ b. IsIdle (cond b (Some (idle_row n moment digest size)) x)) (sym s) h)
idle-kept d n moment (GcMarked job digests barred upto last) x s u h = subst (λ b. IsIdle (changed_if b (marked_blob n) x)) (sym u.unmarked) h
idle-kept d n moment (Taking job digest) x s u h = subst (λ b. IsIdle (changed_if b (taken_blob n moment) x)) (sym u.untaken) h
idle-kept d n moment (Collected job digest) x s u h = subst (λ b. IsIdle (cond b None x)) (sym u.uncollected) h
idle-kept d n moment (GcSkipped job digest why) x s u h = not-failed (is_failure why) (same_digest d digest) u.unmarked
  where
    not-failed : (fails same : Bool) → (fails && same) ≡ false → IsIdle (cond fails (changed_if same (failed_blob n) x) x)
    not-failed true true e = cc
    not-failed true false e = h
    not-failed false same e = h
idle-kept d n moment (Adopted job digest size) x s u h = subst (λ b. IsIdle (cond b (Some (idle_row n moment digest size)) x)) (sym s) h
idle-kept d n moment _ x s u h = h

idle-step : (j : List AuditEntry) (e : AuditEntry) → History (e ∷ j) → ((p : List ℕ) (d : Digest) → IsSome (pair_in (replay j) p d) → IsIdle (blob_at (rows_of j) d)) → (p : List ℕ) (d : Digest) → IsSome (pair_in (replay (e ∷ j)) p d) → IsIdle (row_after d e.number e.moment e.kind (blob_at (rows_of j) d))
idle-step j e legal before p d there =
    let x = blob_at (rows_of j) d in
    elim (stores d e.kind) as (λ b. stores d e.kind ≡ b → IsIdle (row_after d e.number e.moment e.kind x)) [
      | true ↦ λ s. idle-stored d e.number e.moment e.kind x s
      | false ↦ λ s. elim (touches d e.kind) as (λ b. touches d e.kind ≡ b → IsIdle (row_after d e.number e.moment e.kind x)) [
        | true ↦ λ t. let known = named-pair j e.moment e.kind d legal.0.kind t in idle-kept d e.number e.moment e.kind x s (named-unmoved d e.kind t) (before known.0 d known.1)
        | false ↦ λ t.
            let old = pair-before p d e.kind (pair_in (replay j) p d) s (subst IsSome (pair-step p d e.number e.moment e.kind (replay j)) there) in
            idle-kept d e.number e.moment e.kind x s (unmoved j p d e.moment e.kind old (settled j legal.1 p d old) legal.0.kind) (before p d old)
      ] refl
    ] refl

pub idle-rows : (j : List AuditEntry) → History j → (p : List ℕ) (d : Digest) → IsSome (pair_in (replay j) p d) → IsSomeAnd (blob_at (rows_of j) d) (λ row. row.status ≡ Idle)
idle-rows [] legal p d there = cc
idle-rows (e ∷ j) legal p d there = subst IsIdle (sym (blob_at-after d (rows_of j) e.number e.moment e.kind)) (idle-step j e legal (idle-rows j legal.1) p d there)

-- so is the row of what an entry names
pub idle-touch : (j : List AuditEntry) (e : AuditEntry) → History j → Legal j e → (d : Digest) → IsTrue (touches d e.kind) → IsSomeAnd (blob_at (rows_of j) d) (λ row. row.status ≡ Idle)
idle-touch j e history legal d named = let known = named-pair j e.moment e.kind d legal.kind named in idle-rows j history known.0 d known.1
