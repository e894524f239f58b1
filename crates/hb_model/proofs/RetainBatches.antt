-- The changes of the entries of a retention job make their effect.
use Rattle.std.proofs.Common.{◌≡◌, ℕ, true, false, cond, List, [], ◌∷◌, map, fold, refl}
use Rattle.std.specs.Prelude.{if◌then◌else◌}
use Rattle.hb_base.specs.Tables.{changed_at, with_row, without_key}
use Rattle.hb_records.specs.Orders.{job_tag_cmp, named_tag_cmp, snap_key, tag_key}
use Rattle.hb_records.specs.declared.batches.Change.TheVariants.{Drop, Set}
use Rattle.hb_records.specs.declared.batches.Row.TheVariants as row
use Rattle.hb_records.specs.declared.jobs.JobRow.{JobRow}
use Rattle.hb_records.specs.declared.jobs.Phase.TheVariants as phase
use Rattle.hb_records.specs.declared.jobs.SnapTag.{SnapTag}
use Rattle.hb_records.specs.declared.jobs.TagVerdict.{TagVerdict}
use Rattle.hb_records.specs.declared.keys.Key.TheVariants as key
use Rattle.hb_rows.specs.Batches.{after_changes, set_row}
use Rattle.hb_rows.specs.Tables.{AreTables, Tables, job_at, snap_at}
use Rattle.hb_model.specs.ContentChanges.{on_row}
use Rattle.hb_model.specs.JobChanges.{begin_retain_changes, job_changes, snap_changes, turn_changes}
use Rattle.hb_model.specs.RetainEffects.{begin_retain, is_drop, snaps_of, turn_tag}
use Rattle.hb_model.proofs.Tables.{job-changed, snap-changed, then-changes}

snaps-set : (s : Tables) (rows : List SnapTag) → after_changes s (map (λ r. Set (row.Snap r)) rows) ≡ record s { snaps = fold (λ rows row. with_row job_tag_cmp snap_key row rows) s.snaps rows }
snaps-set s [] = refl
snaps-set s (r ∷ rows) = snaps-set (set_row s (row.Snap r)) rows

module _ (t : Tables) (h : AreTables t) (job : ℕ) where
  pub begin_retain-batch : (n moment : ℕ) → after_changes t (begin_retain_changes n moment job t) ≡ begin_retain n moment job t
  begin_retain-batch n moment =
      let begun : JobRow → JobRow = λ r. record r { phase = phase.Turning; version = n } in
      let u : Tables = record t { snaps = fold (λ rows row. with_row job_tag_cmp snap_key row rows) t.snaps (snaps_of job moment (job_at t job) t) } in
      then-changes t u (begin_retain n moment job t) (snap_changes moment job t) (job_changes job begun t)
      (snaps-set t (snaps_of job moment (job_at t job) t))
      (job-changed u job begun (λ r. refl) h.jobs (job_at t job) refl)

  pub turn-batch : (name tag : List ℕ) (given : TagVerdict) → after_changes t (turn_changes job name tag given t) ≡ turn_tag job name tag given t
  turn-batch name tag given =
      let turned : SnapTag → SnapTag = λ r. record r { verdict = given } in
      let u : Tables = record t { snaps = changed_at job_tag_cmp snap_key (job, (name, tag)) turned t.snaps } in
      then-changes t u (turn_tag job name tag given t) (on_row (snap_at t job name tag) (λ r. Set (row.Snap (turned r)))) (if is_drop given then Drop (key.Tag name tag) ∷ [] else [])
      (snap-changed t job name tag turned (λ r. refl) h.snaps (snap_at t job name tag) refl)
      (elim (is_drop given) as (λ b. after_changes u (cond b (Drop (key.Tag name tag) ∷ []) []) ≡ record u { tags = cond b (without_key named_tag_cmp tag_key (name, tag) t.tags) t.tags }) [ true ↦ refl | false ↦ refl ])
