-- The changes of the entries of a collection make their effect.
use Rattle.std.proofs.Common.{◌≡◌, ℕ, Bool, true, false, cond, List, [], ◌∷◌, ◌++◌, fold, Option, Some, None, option_map, refl, ◌∙◌}
use Rattle.std.specs.Prelude.{if◌then◌else◌}
use Rattle.std.specs.List.{flat_map}
use Rattle.hb_base.specs.Tables.{Rises}
use Rattle.hb_base.proofs.TableLaws.{Rises-changed, changed-again}
use Rattle.hb_text.specs.Orders.{digest_cmp}
use Rattle.hb_text.specs.declared.digests.Digest.{Digest}
use Rattle.hb_text.proofs.KeyOrders.{digest_cmp-order}
use Rattle.hb_records.specs.Orders.{blob_key}
use Rattle.hb_records.specs.declared.batches.Change.TheVariants.{Drop, Set}
use Rattle.hb_records.specs.declared.batches.Row.TheVariants as row
use Rattle.hb_records.specs.declared.jobs.Verdict.{Verdict}
use Rattle.hb_records.specs.declared.jobs.Verdict.TheVariants as verdict
use Rattle.hb_records.specs.declared.keys.Key.TheVariants as key
use Rattle.hb_rows.specs.Batches.{after_changes}
use Rattle.hb_rows.specs.Tables.{AreTables, Tables, blob_at, candidate_at, job_at}
use Rattle.hb_model.specs.BlobEffects.{failed_blob, failed_blobs}
use Rattle.hb_model.specs.CollectEffects.{collect, give_verdict, is_failure, mark_blobs, mark_page, marked_blob, marked_job, skip, with_candidate}
use Rattle.hb_model.specs.ContentChanges.{on_row}
use Rattle.hb_model.specs.JobChanges.{candidate_changes, delete_changes, fail_changes, job_changes, mark_changes, mark_page_changes, skip_changes, verdict_changes}
use Rattle.hb_model.proofs.Tables.{blob-changed, candidate-changed, job-changed, then-changes}

module _ (t : Tables) (h : AreTables t) (n job : ℕ) where
  -- the page so far has marked rows of t
  abbrev Marked : Tables → Type 0
  Marked s = (q : Digest) → option_map (marked_blob n) (blob_at s q) ≡ option_map (marked_blob n) (blob_at t q)

  mark-one : (s : Tables) → Rises digest_cmp blob_key s.blobs → Marked s → (d : Digest) → after_changes s (mark_changes n job t d) ≡ record s { blobs = mark_blobs n d s.blobs; candidates = with_candidate n job d (blob_at t d) s.candidates }
  mark-one s rise same d =
      let u : Tables = record s { candidates = with_candidate n job d (blob_at t d) s.candidates } in
      then-changes s u (record u { blobs = mark_blobs n d s.blobs }) (candidate_changes n job t d) (delete_changes n t d)
      (elim (blob_at t d) as (λ x. after_changes s (on_row x (λ r. Set (row.Candidate (record { job = job; digest = d; size = r.size; version = n; verdict = verdict.Pending })))) ≡ record s { candidates = with_candidate n job d x s.candidates }) [ None ↦ refl | Some r ↦ refl ])
      (blob-changed u d (marked_blob n) (λ r. refl) rise (blob_at t d) (same d))

  mark-all : (s : Tables) → Rises digest_cmp blob_key s.blobs → Marked s → (ds : List Digest) → after_changes s (flat_map (mark_changes n job t) ds) ≡ record s { blobs = fold (λ rows d. mark_blobs n d rows) s.blobs ds; candidates = fold (λ rows d. with_candidate n job d (blob_at t d) rows) s.candidates ds }
  mark-all s rise same [] = refl
  mark-all s rise same (d ∷ ds) =
      let u : Tables = record s { blobs = mark_blobs n d s.blobs; candidates = with_candidate n job d (blob_at t d) s.candidates } in
      then-changes s u (record u { blobs = fold (λ rows d. mark_blobs n d rows) u.blobs ds; candidates = fold (λ rows d. with_candidate n job d (blob_at t d) rows) u.candidates ds }) (mark_changes n job t d) (flat_map (mark_changes n job t) ds)
      (mark-one s rise same d)
      (mark-all u (Rises-changed digest_cmp-order.total blob_key d (marked_blob n) (λ r. refl) s.blobs rise) (λ q. changed-again digest_cmp-order.total blob_key q d (marked_blob n) (λ r. refl) (λ r. refl) s.blobs ∙ same q) ds)

  pub mark_page-batch : (digests barred : List Digest) (upto : Option Digest) (last : Bool) → after_changes t (mark_page_changes n job digests barred upto last t) ≡ mark_page n job digests barred upto last t
  mark_page-batch digests barred upto last =
      let u : Tables = record t { blobs = fold (λ rows d. mark_blobs n d rows) t.blobs digests; candidates = fold (λ rows d. with_candidate n job d (blob_at t d) rows) t.candidates digests } in
      then-changes t u (mark_page n job digests barred upto last t) (flat_map (mark_changes n job t) digests) (job_changes job (marked_job n barred upto last) t)
      (mark-all t h.blobs (λ q. refl) digests)
      (job-changed u job (marked_job n barred upto last) (λ r. refl) h.jobs (job_at t job) refl)

  verdict-batch : (d : Digest) (given : Verdict) → after_changes t (verdict_changes job d given t) ≡ give_verdict job d given t
  verdict-batch d given = candidate-changed t job d (λ r. record r { verdict = given }) (λ r. refl) h.candidates (candidate_at t job d) refl

  pub collect-batch : (d : Digest) → after_changes t (verdict_changes job d verdict.Collected t ++ Drop (key.Blob d) ∷ []) ≡ collect job d t
  collect-batch d = then-changes t (give_verdict job d verdict.Collected t) (collect job d t) (verdict_changes job d verdict.Collected t) (Drop (key.Blob d) ∷ []) (verdict-batch d verdict.Collected) refl

  pub skip-batch : (d : Digest) (why : Verdict) → after_changes t (skip_changes n job d why t) ≡ skip n job d why t
  skip-batch d why =
      let decided : Tables = give_verdict job d why t in
      then-changes t decided (skip n job d why t) (verdict_changes job d why t) (if is_failure why then fail_changes n d t else []) (verdict-batch d why)
      (elim (is_failure why) as (λ b. after_changes decided (cond b (fail_changes n d t) []) ≡ record decided { blobs = cond b (failed_blobs n d t.blobs) t.blobs }) [
        | true ↦ blob-changed decided d (failed_blob n) (λ r. refl) h.blobs (blob_at t d) refl
        | false ↦ refl
      ])
