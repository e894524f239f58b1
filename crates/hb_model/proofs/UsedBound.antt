-- What a project uses is bounded by the sizes in the entries of the audit, in every audit.
use Rattle.std.proofs.Common.{◌≡◌, ℕ, ◌+◌, ◌-◌, ◌≤◌, nat_eq, Bool, true, false, cond, List, [], ◌∷◌, Option, Some, None, option_map, refl, ap, arith}
use Rattle.std.proofs.lemmas.Bool.Decides.{nat_tests}
use Rattle.std.proofs.lemmas.List.Sums.{sum_by-cons}
use Rattle.std.specs.Ordering.{is_eq}
use Rattle.hb_base.specs.Tables.{changed_at, row_at, with_row}
use Rattle.hb_base.proofs.TableLaws.{row_at-changed, row_at-with}
use Rattle.hb_text.specs.Names.{project_of}
use Rattle.hb_text.specs.Orders.{text_cmp}
use Rattle.hb_text.proofs.KeyOrders.{text_cmp-order}
use Rattle.hb_records.specs.Entries.{AuditEntry}
use Rattle.hb_records.specs.Orders.{project_key}
use Rattle.hb_records.specs.declared.entries.EntryKind.{EntryKind}
use Rattle.hb_records.specs.declared.entries.EntryKind.TheVariants.{ProjectMade, LimitSet, RulesSet, Associated, Unassociated, ArtifactPut}
use Rattle.hb_records.specs.declared.records.Assoc.{Assoc}
use Rattle.hb_records.specs.declared.records.Project.{Project}
use Rattle.hb_rows.specs.Tables.{Tables, pair_at, project_at}
use Rattle.hb_model.specs.BlobEffects.{projects_with, projects_without}
use Rattle.hb_model.specs.Effects.{effect, rows_of}
use Rattle.hb_model.specs.ProjectEffects.{new_project, with_used}
use Rattle.hb_model.specs.UsedBound.{UsedIsBounded, added_by, used_in}
use Rattle.hb_model.proofs.ContentBatches.{used-name}

-- what is used after a change of it
used-with : (n : ℕ) (f : ℕ → ℕ) (r : Project) → (with_used n f r).used ≡ f r.used
used-with n f r = elim (nat_eq (f r.used) r.used) as (λ b. nat_eq (f r.used) r.used ≡ b → (cond b r (record r { used = f r.used; version = n })).used ≡ f r.used) [ true ↦ λ e. grind (arith, nat_tests) | false ↦ λ e. refl ] refl

-- a change of a row that adds at most s
grown : (b : Bool) (f : Project → Project) (s : ℕ) → ((r : Project) → (f r).used ≤ r.used + s) → (x : Option Project) → used_in (cond b (option_map f x) x) ≤ used_in x + s
grown true f s more None = omega arith
grown true f s more (Some r) = more r
grown false f s more x = omega arith

grown-at : (p q : List ℕ) (f : Project → Project) (s : ℕ) → ((r : Project) → (f r).name ≡ r.name) → ((r : Project) → (f r).used ≤ r.used + s) → (rows : List Project) → used_in (row_at text_cmp project_key q (changed_at text_cmp project_key p f rows)) ≤ used_in (row_at text_cmp project_key q rows) + s
grown-at p q f s keeps more rows = omega (arith, ap used_in (row_at-changed text_cmp-order.total project_key q p f keeps rows), grown (is_eq (text_cmp q p)) f s more (row_at text_cmp project_key q rows))

with-bound : (n : ℕ) (p q : List ℕ) (s : ℕ) (x : Option Assoc) (rows : List Project) → used_in (row_at text_cmp project_key q (projects_with n p s x rows)) ≤ used_in (row_at text_cmp project_key q rows) + s
with-bound n p q s None rows = grown-at p q (with_used n (λ used. used + s)) s (used-name n (λ used. used + s)) (λ r. omega (arith, used-with n (λ used. used + s) r)) rows
with-bound n p q s (Some r) rows = omega arith

without-bound : (n : ℕ) (p q : List ℕ) (x : Option Assoc) (rows : List Project) → used_in (row_at text_cmp project_key q (projects_without n p x rows)) ≤ used_in (row_at text_cmp project_key q rows) + 0
without-bound n p q None rows = omega arith
without-bound n p q (Some x) rows = grown-at p q (with_used n (λ used. used - x.size)) 0 (used-name n (λ used. used - x.size)) (λ r. omega (arith, used-with n (λ used. used - x.size) r)) rows

made-bound : (q : List ℕ) (row : Project) → row.used ≡ 0 → (rows : List Project) → used_in (row_at text_cmp project_key q (with_row text_cmp project_key row rows)) ≤ used_in (row_at text_cmp project_key q rows) + 0
made-bound q row none rows = omega (arith, ap used_in (row_at-with text_cmp-order.total project_key q row rows), by-case (is_eq (text_cmp q row.name)) (row_at text_cmp project_key q rows))
  where
    by-case : (b : Bool) (x : Option Project) → used_in (cond b (Some row) x) ≤ used_in x
    by-case true x = omega (arith, none)
    by-case false x = omega arith

bound-after : (q : List ℕ) (t : Tables) (n moment : ℕ) (kind : EntryKind) → used_in (project_at (effect n moment kind t) q) ≤ used_in (project_at t q) + added_by kind
bound-after q t n moment (ProjectMade project limit) = made-bound q (new_project n project limit) refl t.projects
bound-after q t n moment (LimitSet project limit) = grown-at project q (λ row. record row { limit = limit; version = n }) 0 (λ r. refl) (λ r. omega arith) t.projects
bound-after q t n moment (RulesSet project rules) = grown-at project q (λ row. record row { rules = rules; version = n }) 0 (λ r. refl) (λ r. omega arith) t.projects
bound-after q t n moment (Associated project digest size) = with-bound n project q size (pair_at t project digest) t.projects
bound-after q t n moment (Unassociated job project digest) = without-bound n project q (pair_at t project digest) t.projects
bound-after q t n moment (ArtifactPut name digest size media refs children tag) = with-bound n (project_of name) q size (pair_at t (project_of name) digest) t.projects
bound-after q t n moment _ = omega arith

pub used-bound : (j : List AuditEntry) → UsedIsBounded j
used-bound [] q = omega arith
used-bound (e ∷ j) q = omega (arith, used-bound j q, bound-after q (rows_of j) e.number e.moment e.kind, sum_by-cons (λ (x : AuditEntry). added_by x.kind) e j)
