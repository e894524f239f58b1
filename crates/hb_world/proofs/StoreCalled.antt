-- What the one call of the store did is what the event made of it.
use Rattle.std.proofs.Common.{◌≡◌, ◌↔◌, ℕ, Option, Some, None, Result, Ok, Err, IfOk, IfSome, option_map, inl, inr, refl, sym, ap, subst}
use Rattle.hb_records.specs.declared.records.Upload.{Upload}
use Rattle.hb_rows.specs.Tables.{Tables, upload_at}
use Rattle.hb_store.specs.Calls.{Becomes, Staging}
use Rattle.hb_store.specs.Contents.{Contents}
use Rattle.hb_store.specs.declared.store.StoreFault.{StoreFault}
use Rattle.hb_store.specs.declared.store.StoreFault.TheVariants as store
use Rattle.hb_model.specs.Registry.{UploadItem}
use Rattle.hb_model.specs.Seen.{seen_upload}
use Rattle.hb_desk.specs.Keeping.{state_of}
use Rattle.hb_desk.specs.StoreCalls.{AreAcknowledged, OneCall}
use Rattle.hb_desk.specs.declared.refusals.Refusal.{Refusal}
use Rattle.hb_desk.specs.declared.refusals.Refusal.TheVariants.{Storage}
use Rattle.hb_plan.proofs.SeenRows.{upload-seen}
use Rattle.hb_world.specs.Storing.{HasOffset, IsStoreFault}
use Rattle.hb_world.specs.Worlds.{RowsStand, Shown, view_of}

pub called-done : (T : Type 0) (Effect : Result (Unit {0}) StoreFault → Contents → Contents → Type 0) (old : Option Contents) (t : ℕ) (x : T) (new : Option Contents) → Becomes old t (Effect (Ok tt)) new → OneCall {T = T} Effect old t (Ok x) new
called-done T Effect old t x new h = inr (Ok tt, refl, h)

pub called-refused : (T : Type 0) (Effect : Result (Unit {0}) StoreFault → Contents → Contents → Type 0) (old : Option Contents) (t : ℕ) (fault : StoreFault) (refusal : Refusal) (new : Option Contents) → (refusal ≡ Storage ↔ (fault ≡ store.Failed)) → IsStoreFault refusal → Becomes old t (Effect (Err fault)) new → OneCall {T = T} Effect old t (Err refusal) new
called-refused T Effect old t store.Failed refusal new failed fault h = inr (Err store.Failed, ap Err (failed.1 refl), h)
called-refused T Effect old t store.Memory refusal new failed (inl memory) h = inr (Err store.Memory, ap Err memory, h)
called-refused T Effect old t store.Memory refusal new failed (inr storage) h = cc (failed.0 storage)

-- refused before the store was asked
pub called-not : (T : Type 0) (Effect : Result (Unit {0}) StoreFault → Contents → Contents → Type 0) (old : Option Contents) (t : ℕ) (refusal : Refusal) → ¬ (refusal ≡ Storage) → OneCall {T = T} Effect old t (Err refusal) old
called-not T Effect old t refusal none = inl (refl, (λ is. none (cc is)), refl)

-- ---- how much a stage keeps
an-offset : (rows : Option Tables) (upload : ℕ) → (keep : ℕ) × HasOffset rows upload keep
an-offset None upload = (0, tt)
an-offset (Some r) upload = of_row (upload_at r upload)
  where
    of_row : (row : Option Upload) → (keep : ℕ) × IfSome row (λ x. x.offset ≡ keep)
    of_row None = (0, tt)
    of_row (Some x) = (x.offset, refl)

-- no stage was taken, and none was asked for
pub staging-not : (T : Type 0) (offset : T → ℕ) (rows : Option Tables) (upload : ℕ) (old : Option Contents) (t : ℕ) (result : Result T Refusal) (refusal : Refusal) → result ≡ Err refusal → ¬ (refusal ≡ Storage)
    → (keep : ℕ) × HasOffset rows upload keep × IfOk result (λ s. offset s ≡ keep) × OneCall (Staging upload keep) old t result old
staging-not T offset rows upload old t (Ok x) refusal is none = cc is
staging-not T offset rows upload old t (Err r) refusal is none = let some = an-offset rows upload in (some.0, some.1, tt, inl (refl, (λ storage. none (cc (storage, is))), refl))

-- a row's offset is what the registry has of the upload
pub acknowledged : (w : Shown) (upload keep : ℕ) → IfSome w.rows (λ r. RowsStand r w) → HasOffset w.rows upload keep → AreAcknowledged (view_of w).state upload keep
acknowledged w upload keep = go w.rows
  where
    seen : (row : Option Upload) (item : Option UploadItem) → item ≡ option_map seen_upload row → IfSome row (λ x. x.offset ≡ keep) → IfSome item (λ x. x.offset ≡ keep)
    seen None item is has = subst (λ i. IfSome i (λ x. x.offset ≡ keep)) (sym is) tt
    seen (Some x) item is has = subst (λ i. IfSome i (λ x. x.offset ≡ keep)) (sym is) has

    go : (rows : Option Tables) → IfSome rows (λ r. RowsStand r w) → HasOffset rows upload keep → AreAcknowledged (option_map (λ r. state_of r w.notes) rows) upload keep
    go None stand has = tt
    go (Some r) stand has = seen (upload_at r upload) _ (upload-seen r stand.stands upload) has
