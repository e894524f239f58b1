-- What a project's row says it uses is what the sizes of its digests add up to.
use Rattle.std.proofs.Common.{◌≡◌, ℕ, ◌+◌, ◌-◌, Bool, true, false, cond, List, [], ◌∷◌, Option, Some, None, option_map, IsSome, refl, sym, ap, subst, ◌∙◌, nat_eq, sum_by, arith}
use Rattle.std.proofs.lemmas.Bool.Decides.{nat_tests}
use Rattle.std.proofs.lemmas.Cmp.{alike_right}
use Rattle.std.specs.declared.cmp.Ordering.{Ordering}
use Rattle.std.specs.declared.cmp.Ordering.TheVariants.{Less, Equal, Greater}
use Rattle.std.specs.Ordering.{is_eq, ordering_then}
use Rattle.hb_base.specs.Tables.{Rises, row_at, with_row, without_key, changed_at}
use Rattle.hb_base.proofs.MappedTables.{row_at-map}
use Rattle.hb_base.proofs.TableLaws.{equal_from, found_key, without-absent, row_at-with, row_at-changed, row_at-tied, sum-with_new, sum-without}
use Rattle.hb_text.specs.declared.digests.Digest.{Digest}
use Rattle.hb_text.specs.Names.{project_of}
use Rattle.hb_text.specs.Orders.{text_cmp, digest_cmp}
use Rattle.hb_text.proofs.KeyOrders.{text_cmp-order}
use Rattle.hb_records.specs.Entries.{AuditEntry}
use Rattle.hb_records.specs.Orders.{named_digest_cmp, project_key}
use Rattle.hb_records.specs.declared.entries.EntryKind.{EntryKind}
use Rattle.hb_records.specs.declared.entries.EntryKind.TheVariants.{ProjectMade, LimitSet, RulesSet, Associated, Unassociated, ArtifactPut}
use Rattle.hb_records.specs.declared.records.Assoc.{Assoc}
use Rattle.hb_records.specs.declared.records.Project.{Project}
use Rattle.hb_records.proofs.KeyOrders.{named_digest_cmp-order}
use Rattle.hb_rows.specs.Tables.{pair_at, project_at}
use Rattle.hb_model.specs.BlobEffects.{projects_with, projects_without}
use Rattle.hb_model.specs.Effects.{effect, rows_of}
use Rattle.hb_model.specs.History.{LegalKind, History}
use Rattle.hb_model.specs.Presence.{usage}
use Rattle.hb_model.specs.ProjectEffects.{new_project, with_used}
use Rattle.hb_model.specs.Registry.{PairItem, pair_key, pair_in, project_in, project_name}
use Rattle.hb_model.specs.Replay.{pairs_with, replay, step}
use Rattle.hb_model.specs.Seen.{seen_pair, seen_project}
use Rattle.hb_model.proofs.ContentBatches.{used-name}
use Rattle.hb_model.proofs.SeenRows.{seen-rows}
use Rattle.hb_model.specs.UsedBound.{used_in}
use Rattle.hb_history.proofs.PairSteps.{pair_item}
use Rattle.hb_history.proofs.PairTables.{pairs-rise, weight, usage-weight}
use Rattle.hb_records.specs.Orders as rows

-- the rows of projects say what the pairs add up to
abbrev Counts : List Project → List PairItem → Type 0
Counts ps xs = (q : List ℕ) → used_in (row_at text_cmp project_key q ps) ≡ sum_by (weight q) xs

-- ---- projects that change otherwise
used-same : (b : Bool) (f : Project → Project) → ((r : Project) → (f r).used ≡ r.used) → (x : Option Project) → used_in (cond b (option_map f x) x) ≡ used_in x
used-same true f same None = refl
used-same true f same (Some r) = same r
used-same false f same x = refl

counts-changed : (p : List ℕ) (f : Project → Project) → ((r : Project) → (f r).name ≡ r.name) → ((r : Project) → (f r).used ≡ r.used) → (ps : List Project) (xs : List PairItem) → Counts ps xs → Counts (changed_at text_cmp project_key p f ps) xs
counts-changed p f keeps same ps xs h q = ap used_in (row_at-changed text_cmp-order.total project_key q p f keeps ps) ∙ used-same (is_eq (text_cmp q p)) f same (row_at text_cmp project_key q ps) ∙ h q

counts-made : (row : Project) → row.used ≡ 0 → (ps : List Project) (xs : List PairItem) → row_at text_cmp project_key row.name ps ≡ None → Counts ps xs → Counts (with_row text_cmp project_key row ps) xs
counts-made row none ps xs absent h q =
    ap used_in (row_at-with text_cmp-order.total project_key q row ps)
    ∙ elim (is_eq (text_cmp q row.name)) as (λ b. is_eq (text_cmp q row.name) ≡ b → used_in (cond b (Some row) (row_at text_cmp project_key q ps)) ≡ sum_by (weight q) xs) [
      | true ↦ λ e. none ∙ ap used_in (sym (row_at-tied text_cmp-order.total project_key q row.name (equal_from _ e) ps ∙ absent)) ∙ h q
      | false ↦ λ e. h q
    ] refl

-- ---- pairs
used-with_used : (n : ℕ) (f : ℕ → ℕ) (r : Project) → (with_used n f r).used ≡ f r.used
used-with_used n f r = elim (nat_eq (f r.used) r.used) as (λ b. nat_eq (f r.used) r.used ≡ b → (cond b r (record r { used = f r.used; version = n })).used ≡ f r.used) [ true ↦ λ e. grind (arith, nat_tests) | false ↦ λ e. refl ] refl

used-more : (b : Bool) (n s : ℕ) (x : Option Project) → (b ≡ true → IsSome x) → used_in (cond b (option_map (with_used n (λ used. used + s)) x) x) ≡ cond b s 0 + used_in x
used-more true n s None known = let k = known refl in cc
used-more true n s (Some r) known = omega (arith, used-with_used n (λ used. used + s) r)
used-more false n s x known = omega arith

-- what a pair's row says of the pair: x is the row of the pair of p and d
counts-associated : (n : ℕ) (p : List ℕ) (d : Digest) (s : ℕ) (x : Option Assoc) (ps : List Project) (xs : List PairItem) → row_at named_digest_cmp pair_key (p, d) xs ≡ option_map seen_pair x → IsSome (row_at text_cmp project_key p ps) → Counts ps xs → Counts (projects_with n p s x ps) (pairs_with p d s (option_map seen_pair x) xs)
counts-associated n p d s None ps xs absent known h q =
    ap used_in (row_at-changed text_cmp-order.total project_key q p (with_used n (λ used. used + s)) (used-name n (λ used. used + s)) ps)
    ∙ used-more (is_eq (text_cmp q p)) n s (row_at text_cmp project_key q ps) (λ e. subst IsSome (sym (row_at-tied text_cmp-order.total project_key q p (equal_from _ e) ps)) known)
    ∙ ap (λ old. weight q (pair_item p d s) + old) (h q)
    ∙ sym (sum-with_new named_digest_cmp-order.total pair_key (weight q) (pair_item p d s) xs absent)
counts-associated n p d s (Some r) ps xs there known h q = h q

used-less : (b : Bool) (n s left : ℕ) (x : Option Project) → left + cond b s 0 ≡ used_in x → used_in (cond b (option_map (with_used n (λ used. used - s)) x) x) ≡ left
used-less true n s left None e = omega arith
used-less true n s left (Some r) e = omega (arith, used-with_used n (λ used. used - s) r)
used-less false n s left x e = omega arith

then_first : (a b : Ordering) → ordering_then a b ≡ Equal → a ≡ Equal
then_first Less b e = cc
then_first Equal b e = refl
then_first Greater b e = cc

counts-unassociated : (n : ℕ) (p : List ℕ) (d : Digest) (x : Option Assoc) (ps : List Project) (xs : List PairItem) → Rises named_digest_cmp pair_key xs → row_at named_digest_cmp pair_key (p, d) xs ≡ option_map seen_pair x → Counts ps xs → Counts (projects_without n p x ps) (without_key named_digest_cmp pair_key (p, d) xs)
counts-unassociated n p d None ps xs rise absent h q = h q ∙ ap (sum_by (weight q)) (sym (without-absent named_digest_cmp-order.total pair_key (p, d) xs absent))
counts-unassociated n p d (Some r) ps xs rise there h q =
    let own : is_eq (text_cmp q p) ≡ is_eq (text_cmp q r.project) = ap is_eq (alike_right text_cmp-order.total p r.project q (then_first (text_cmp p r.project) (digest_cmp d r.digest) (found_key named_digest_cmp-order.total pair_key (p, d) (seen_pair r) xs there))) in
    let less : cond (is_eq (text_cmp q p)) r.size 0 ≡ weight q (seen_pair r) = ap (λ b. cond b r.size 0) own in
    ap used_in (row_at-changed text_cmp-order.total project_key q p (with_used n (λ used. used - r.size)) (used-name n (λ used. used - r.size)) ps)
    ∙ used-less (is_eq (text_cmp q p)) n r.size (sum_by (weight q) (without_key named_digest_cmp pair_key (p, d) xs)) (row_at text_cmp project_key q ps) (omega (arith, less, h q, sum-without named_digest_cmp-order.total pair_key (weight q) (p, d) (seen_pair r) xs rise there))

-- ---- legal entries
known-row : (x : Option Project) → IsSome (option_map seen_project x) → IsSome x
known-row None h = h
known-row (Some r) h = refl

absent-row : (x : Option Project) → option_map seen_project x ≡ None → x ≡ None
absent-row None h = refl
absent-row (Some r) h = cc

seen-project : (j : List AuditEntry) (p : List ℕ) → project_in (replay j) p ≡ option_map seen_project (project_at (rows_of j) p)
seen-project j p = ap (λ m. project_in m p) (sym (seen-rows j)) ∙ row_at-map text_cmp project_key project_name seen_project (λ r. refl) p (rows_of j).projects

seen-pair : (j : List AuditEntry) (p : List ℕ) (d : Digest) → pair_in (replay j) p d ≡ option_map seen_pair (pair_at (rows_of j) p d)
seen-pair j p d = ap (λ m. pair_in m p d) (sym (seen-rows j)) ∙ row_at-map named_digest_cmp rows.pair_key pair_key seen_pair (λ r. refl) (p, d) (rows_of j).pairs

counts-pair : (j : List AuditEntry) (n : ℕ) (p : List ℕ) (d : Digest) (s : ℕ) → IsSome (project_in (replay j) p) → Counts (rows_of j).projects (replay j).pairs → Counts (projects_with n p s (pair_at (rows_of j) p d) (rows_of j).projects) (pairs_with p d s (pair_in (replay j) p d) (replay j).pairs)
counts-pair j n p d s known h =
    let t = rows_of j in
    subst (λ y. Counts (projects_with n p s (pair_at t p d) t.projects) (pairs_with p d s y (replay j).pairs)) (sym (seen-pair j p d)) (counts-associated n p d s (pair_at t p d) t.projects (replay j).pairs (seen-pair j p d) (known-row _ (subst IsSome (seen-project j p) known)) h)

counts-after : (j : List AuditEntry) (n moment : ℕ) (kind : EntryKind) → LegalKind j moment kind → Counts (rows_of j).projects (replay j).pairs → Counts (effect n moment kind (rows_of j)).projects (step n moment kind (replay j)).pairs
counts-after j n moment (ProjectMade project limit) legal h = counts-made (new_project n project limit) refl (rows_of j).projects (replay j).pairs (absent-row _ (sym (seen-project j project) ∙ legal.new)) h
counts-after j n moment (LimitSet project limit) legal h = counts-changed project (λ row. record row { limit = limit; version = n }) (λ r. refl) (λ r. refl) (rows_of j).projects (replay j).pairs h
counts-after j n moment (RulesSet project rules) legal h = counts-changed project (λ row. record row { rules = rules; version = n }) (λ r. refl) (λ r. refl) (rows_of j).projects (replay j).pairs h
counts-after j n moment (Associated project digest size) legal h = counts-pair j n project digest size legal.known h
counts-after j n moment (ArtifactPut name digest size media refs children tag) legal h = counts-pair j n (project_of name) digest size legal.own.known h
counts-after j n moment (Unassociated job project digest) legal h = counts-unassociated n project digest (pair_at (rows_of j) project digest) (rows_of j).projects (replay j).pairs (pairs-rise j) (seen-pair j project digest) h
counts-after j n moment _ legal h = h

counts-rows : (j : List AuditEntry) → History j → Counts (rows_of j).projects (replay j).pairs
counts-rows [] legal = λ q. refl
counts-rows (e ∷ j) legal = counts-after j e.number e.moment e.kind legal.0.kind (counts-rows j legal.1)

pub used-rows : (j : List AuditEntry) → History j → (p : List ℕ) → used_in (project_at (rows_of j) p) ≡ usage (replay j) p
used-rows j legal p = counts-rows j legal p ∙ sym (usage-weight (replay j) p)
