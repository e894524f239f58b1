-- Rows fit or a first misfit is told, and those of a legal audit fit.
use Rattle.std.proofs.Common.{◌≡◌, ℕ, suc, List, [], ◌∷◌, ◌++◌, Option, Some, None, take, drop, reverse, slice_get, sym, ap, subst, ◌∙◌}
use Rattle.std.proofs.lemmas.List.{reverse-append, reverse-reverse, take-append-drop}
use Rattle.std.proofs.lemmas.Option.{none-some}
use Rattle.hb_records.specs.Entries.{AuditEntry}
use Rattle.hb_records.specs.declared.keys.Table.{Table}
use Rattle.hb_records.specs.declared.keys.Table.TheVariants as table
use Rattle.hb_rows.specs.Tables.{Tables}
use Rattle.hb_model.specs.Effects.{rows_of}
use Rattle.hb_model.specs.declared.misfits.Misfit.{Misfit}
use Rattle.hb_model.specs.Fit.{Tells, IsInOrder, Fits, DifferAt, FirstAt, FitOrNot, TellsFrom, unbuilt_at}
use Rattle.hb_model.specs.History.{History, Stands}

-- entries in order, without the newest of them
older-order : (newer j : List AuditEntry) → IsInOrder (newer ++ j) → IsInOrder j
older-order [] j h = h
older-order (e ∷ newer) j h = older-order newer j h.2

oldest-order : (j : List AuditEntry) (n : ℕ) → IsInOrder j → IsInOrder (reverse (take n (reverse j)))
oldest-order j n h =
    older-order (reverse (drop n (reverse j))) (reverse (take n (reverse j)))
    (subst IsInOrder (sym (sym (reverse-append (take n (reverse j)) (drop n (reverse j))) ∙ ap reverse (take-append-drop n (reverse j)) ∙ reverse-reverse j)) h)

history-order : (j : List AuditEntry) → History j → IsInOrder j
history-order [] h = tt
history-order (e ∷ j) h = (h.0.numbered, h.0.later, history-order j h.1)

pub stands-fits : (t : Tables) → Stands t → unbuilt_at t ≡ None → Fits t
stands-fits t stands built = record { built = built; made = stands.made; ordered = history-order t.audit stands.history }

-- no first misfit of rows that are made of their audit
same-there : {A : Type 0} (place : ℕ) (xs ys : List A) → xs ≡ ys → ¬ (DifferAt place xs ys)
same-there place xs ys same h = h.differ (ap (λ zs. slice_get zs h.before) same)

no-misfit : (t made : Tables) (of : Table) (place : ℕ) → t ≡ made → IsInOrder t.audit → ¬ (FirstAt of place t made)
no-misfit t made table.Project place is ordered h = same-there place t.projects made.projects (ap (λ (u : Tables). u.projects) is) h
no-misfit t made table.Blob place is ordered h = same-there place t.blobs made.blobs (ap (λ (u : Tables). u.blobs) is) h.1
no-misfit t made table.Pair place is ordered h = same-there place t.pairs made.pairs (ap (λ (u : Tables). u.pairs) is) h.1
no-misfit t made table.Artifact place is ordered h = same-there place t.artifacts made.artifacts (ap (λ (u : Tables). u.artifacts) is) h.1
no-misfit t made table.Tag place is ordered h = same-there place t.tags made.tags (ap (λ (u : Tables). u.tags) is) h.1
no-misfit t made table.Upload place is ordered h = same-there place t.uploads made.uploads (ap (λ (u : Tables). u.uploads) is) h.1
no-misfit t made table.Job place is ordered h = same-there place t.jobs made.jobs (ap (λ (u : Tables). u.jobs) is) h.1
no-misfit t made table.Candidate place is ordered h = same-there place t.candidates made.candidates (ap (λ (u : Tables). u.candidates) is) h.1
no-misfit t made table.Snap place is ordered h = same-there place t.snaps made.snaps (ap (λ (u : Tables). u.snaps) is) h.1
no-misfit t made table.Entry place is ordered h = h.1.disordered (oldest-order t.audit (suc h.1.before) ordered)

told-fits : (t : Tables) (unbuilt : Option ℕ) → TellsFrom unbuilt t None → Fits t
told-fits t None h = h
told-fits t (Some before) h = absurd (none-some _ h)

pub fit-or-not : (t : Tables) → FitOrNot t
fit-or-not t = record {
  fits = told-fits t (unbuilt_at t);
  told = λ fits. subst (λ unbuilt. TellsFrom unbuilt t None) (sym fits.built) fits;
  apart = λ m fits told. no-misfit t (rows_of t.audit) m.table m.place fits.made fits.ordered (subst (λ unbuilt. TellsFrom unbuilt t (Some m)) fits.built told);
}

-- what fit tells is one of two
pub fits-apart : (t : Tables) (m : Misfit) → Tells t None → ¬ (Tells t (Some m))
fits-apart t m none = (fit-or-not t).apart m ((fit-or-not t).fits none)
