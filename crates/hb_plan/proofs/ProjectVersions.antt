-- A project's row has the project's version.
use Rattle.std.proofs.Common.{◌≡◌, ◌+◌, ◌-◌, ℕ, nat_eq, Bool, true, false, not, cond, ◌||◌, List, [], ◌∷◌, Option, Some, None, option_map, IfSome, refl, sym, ap, subst, ◌∙◌, arith}
use Rattle.std.proofs.lemmas.Bool.Decides.{nat_tests}
use Rattle.hb_base.specs.Tables.{row_at, changed_at}
use Rattle.hb_base.proofs.TableLaws.{row_at-with, row_at-changed}
use Rattle.hb_text.specs.Names.{project_of}
use Rattle.hb_text.specs.Orders.{text_cmp}
use Rattle.hb_text.proofs.KeyOrders.{text_cmp-order}
use Rattle.hb_records.specs.Entries.{AuditEntry}
use Rattle.hb_records.specs.Orders.{project_key}
use Rattle.hb_records.specs.declared.entries.EntryKind.{EntryKind}
use Rattle.hb_records.specs.declared.entries.EntryKind.TheVariants.{ProjectMade, LimitSet, RulesSet, Associated, Unassociated, ArtifactPut}
use Rattle.hb_records.specs.declared.records.Assoc.{Assoc}
use Rattle.hb_records.specs.declared.records.Project.{Project}
use Rattle.hb_rows.specs.Tables.{Tables, project_at, pair_at}
use Rattle.hb_model.specs.BlobEffects.{projects_with, projects_without}
use Rattle.hb_model.specs.Effects.{effect, rows_of}
use Rattle.hb_model.specs.History.{History}
use Rattle.hb_model.specs.ProjectEffects.{new_project, with_used}
use Rattle.hb_model.specs.Words.{same_text}
use Rattle.hb_model.specs.UsedBound.{used_in}
use Rattle.hb_model.proofs.ContentBatches.{used-name}
use Rattle.hb_history.proofs.UsedRows.{used-rows}
use Rattle.hb_desk.specs.ProjectVersions.{sets_project, project_version}

-- The row of a project before and after an entry of this number: its version moves where the entry sets the
-- project, or what is used moves.
abbrev Follows : ℕ → Bool → Option Project → Option Project → Type 0
Follows n sets x y = (v : ℕ) → IfSome x (λ row. row.version ≡ v) → IfSome y (λ row. row.version ≡ cond (sets || not (nat_eq (used_in y) (used_in x))) n v)

self : (u : ℕ) → nat_eq u u ≡ true
self u = grind (arith, nat_tests)

follows-same : (n : ℕ) (x : Option Project) → Follows n false x x
follows-same n None v h = tt
follows-same n (Some row) v h = h ∙ ap (λ b. cond (not b) n v) (sym (self row.used))

follows-set : (n : ℕ) (b : Bool) (new : Project) (x : Option Project) → new.version ≡ n → Follows n b x (cond b (Some new) x)
follows-set n true new x e v h = e
follows-set n false new x e v h = follows-same n x v h

follows-changed : (n : ℕ) (b : Bool) (f : Project → Project) (x : Option Project) → ((row : Project) → (f row).version ≡ n) → Follows n b x (cond b (option_map f x) x)
follows-changed n true f None e v h = tt
follows-changed n true f (Some row) e v h = e row
follows-changed n false f x e v h = follows-same n x v h

follows-used : (n : ℕ) (b : Bool) (f : ℕ → ℕ) (x : Option Project) → Follows n false x (cond b (option_map (with_used n f) x) x)
follows-used n true f None v h = tt
follows-used n true f (Some row) v h = elim (nat_eq (f row.used) row.used) as (λ b. nat_eq (f row.used) row.used ≡ b → (cond b row (record row { used = f row.used; version = n })).version ≡ cond (not (nat_eq (cond b row (record row { used = f row.used; version = n })).used row.used)) n v) [
  | true ↦ λ e. h ∙ ap (λ b. cond (not b) n v) (sym (self row.used))
  | false ↦ λ e. ap (λ b. cond (not b) n v) (sym e)
] refl
follows-used n false f x v h = follows-same n x v h

module _ (p : List ℕ) (n : ℕ) (t : Tables) where
  in-changed : (sets : Bool) (q : List ℕ) (f : Project → Project) → ((row : Project) → (f row).name ≡ row.name) → Follows n sets (project_at t p) (cond (same_text p q) (option_map f (project_at t p)) (project_at t p)) → Follows n sets (project_at t p) (row_at text_cmp project_key p (changed_at text_cmp project_key q f t.projects))
  in-changed sets q f keeps h = subst (Follows n sets (project_at t p)) (sym (row_at-changed text_cmp-order.total project_key p q f keeps t.projects)) h

  in-more : (q : List ℕ) (s : ℕ) (x : Option Assoc) → Follows n false (project_at t p) (row_at text_cmp project_key p (projects_with n q s x t.projects))
  in-more q s None = in-changed false q (with_used n (λ used. used + s)) (used-name n (λ used. used + s)) (follows-used n (same_text p q) (λ used. used + s) (project_at t p))
  in-more q s (Some row) = follows-same n (project_at t p)

  in-less : (q : List ℕ) (x : Option Assoc) → Follows n false (project_at t p) (row_at text_cmp project_key p (projects_without n q x t.projects))
  in-less q None = follows-same n (project_at t p)
  in-less q (Some row) = in-changed false q (with_used n (λ used. used - row.size)) (used-name n (λ used. used - row.size)) (follows-used n (same_text p q) (λ used. used - row.size) (project_at t p))

  follows : (moment : ℕ) (kind : EntryKind) → Follows n (sets_project p kind) (project_at t p) (project_at (effect n moment kind t) p)
  follows moment (ProjectMade project limit) = subst (Follows n (same_text p project) (project_at t p)) (sym (row_at-with text_cmp-order.total project_key p (new_project n project limit) t.projects)) (follows-set n (same_text p project) (new_project n project limit) (project_at t p) refl)
  follows moment (LimitSet project limit) = in-changed (same_text p project) project (λ row. record row { limit = limit; version = n }) (λ row. refl) (follows-changed n (same_text p project) (λ row. record row { limit = limit; version = n }) (project_at t p) (λ row. refl))
  follows moment (RulesSet project rules) = in-changed (same_text p project) project (λ row. record row { rules = rules; version = n }) (λ row. refl) (follows-changed n (same_text p project) (λ row. record row { rules = rules; version = n }) (project_at t p) (λ row. refl))
  follows moment (Associated project digest size) = in-more project size (pair_at t project digest)
  follows moment (ArtifactPut name digest size media refs children tag) = in-more (project_of name) size (pair_at t (project_of name) digest)
  follows moment (Unassociated job project digest) = in-less project (pair_at t project digest)
  follows moment _ = follows-same n (project_at t p)

pub row-version : (j : List AuditEntry) → History j → (p : List ℕ) → IfSome (project_at (rows_of j) p) (λ row. row.version ≡ project_version j p)
row-version [] legal p = tt
row-version (e ∷ j) legal p =
    let after = used-rows (e ∷ j) legal p in
    let before = used-rows j legal.1 p in
    subst (λ same. IfSome (project_at (rows_of (e ∷ j)) p) (λ row. row.version ≡ cond (sets_project p e.kind || not same) e.number (project_version j p))) (λ i. nat_eq (after i) (before i))
    (follows p e.number (rows_of j) e.moment e.kind (project_version j p) (row-version j legal.1 p))
