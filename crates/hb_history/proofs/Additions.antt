-- An entry by which a project uses more leaves it within its limit.
use Rattle.std.proofs.Common.{◌≡◌, ℕ, ◌+◌, ◌<◌, ◌≤◌, Bool, true, false, not, cond, ◌||◌, List, [], ◌∷◌, Option, Some, None, is_some, IsSomeAnd, IsTrue, refl, sym, ap, subst, nat_eq, sum_by, arith}
use Rattle.std.proofs.lemmas.Bool.Decides.{nat_tests}
use Rattle.std.proofs.lemmas.List.Sums.{sum_by-cons}
use Rattle.std.specs.List.{filter}
use Rattle.hb_base.proofs.TableLaws.{equal_from, sum-with_new}
use Rattle.hb_text.specs.declared.digests.Digest.{Digest}
use Rattle.hb_text.specs.Names.{project_of}
use Rattle.hb_text.proofs.KeyOrders.{text_cmp-order}
use Rattle.hb_records.specs.Entries.{AuditEntry}
use Rattle.hb_records.specs.declared.entries.EntryKind.{EntryKind}
use Rattle.hb_records.specs.declared.entries.EntryKind.TheVariants.{Associated, Unassociated, ArtifactPut}
use Rattle.hb_records.proofs.KeyOrders.{named_digest_cmp-order}
use Rattle.hb_model.specs.History.{LegalKind, Legal}
use Rattle.hb_model.specs.LegalBlobs.{allows, fits_limit}
use Rattle.hb_model.specs.Presence.{usage}
use Rattle.hb_model.specs.Registry.{ProjectItem, PairItem, pair_key, pair_in, project_in}
use Rattle.hb_model.specs.Replay.{pairs_with, replay, step}
use Rattle.hb_model.specs.Words.{same_text, some_and}
use Rattle.hb_history.proofs.PairSteps.{same_pair, pair_item}
use Rattle.hb_history.proofs.PairTables.{weight, usage-weight}

abbrev Within : List AuditEntry → List ℕ → ℕ → Type 0
Within j p total = IsSomeAnd (project_in (replay j) p) (λ x. IsTrue (allows x.limit total))

-- what isn't more adds nothing
not-more : (j : List AuditEntry) (p : List ℕ) (before after : ℕ) → after ≤ before → before < after → Within j p after
not-more j p before after h more = absurd (omega (arith, h, more))

-- the rows that are kept add up to no more
sum-kept : (f : PairItem → ℕ) (test : PairItem → Bool) (items : List PairItem) → sum_by f (filter test items) ≤ sum_by f items
sum-kept f test [] = omega arith
sum-kept f test (x ∷ items) = elim (test x) as (λ b. sum_by f (cond b (x ∷ filter test items) (filter test items)) ≤ sum_by f (x ∷ items)) [
  | true ↦ omega (arith, sum_by-cons f x (filter test items), sum_by-cons f x items, sum-kept f test items)
  | false ↦ omega (arith, sum_by-cons f x items, sum-kept f test items)
]

third : (a b c : Bool) → a ≡ false → b ≡ false → (a || b || c) ≡ true → c ≡ true
third true b c e f g = cc
third false true c e f g = cc
third false false c e f g = g

within : (total : ℕ) (x : Option ProjectItem) → some_and (λ project. allows project.limit total) x ≡ true → IsSomeAnd x (λ project. IsTrue (allows project.limit total))
within total None e = cc
within total (Some x) e = e

added : (j : List AuditEntry) (project : List ℕ) (digest : Digest) (size : ℕ) (p : List ℕ) → IsTrue (fits_limit j project digest size) → (after : ℕ) → after ≡ sum_by (weight p) (pairs_with project digest size (pair_in (replay j) project digest) (replay j).pairs) → usage (replay j) p < after → Within j p after
added j project digest size p fits after e more =
    let m = replay j in
    let total = usage m p in
    let new = pair_item project digest size in
    elim (pair_in m project digest) as (λ y. pair_in m project digest ≡ y → after ≡ sum_by (weight p) (pairs_with project digest size y m.pairs) → Within j p after) [
      | Some y ↦ λ there f. not-more j p total after (omega (arith, f, usage-weight m p)) more
      | None ↦ λ absent f.
          let sum = sum-with_new named_digest_cmp-order.total pair_key (weight p) new m.pairs absent in
          elim (same_text p project) as (λ b. same_text p project ≡ b → Within j p after) [
            | false ↦ λ other. let none : weight p new ≡ 0 = ap (λ b. cond b size 0) other in not-more j p total after (omega (arith, f, sum, none, usage-weight m p)) more
            | true ↦ λ same.
                let is : p ≡ project = text_cmp-order.ties p project (equal_from _ same) in
                let all : weight p new ≡ size = ap (λ b. cond b size 0) same in
                let grown : after ≡ total + size = omega (arith, f, sum, all, usage-weight m p) in
                let some : nat_eq size 0 ≡ false = grind (arith, nat_tests, grown, more) in
                subst (Within j p) (sym grown) (within (total + size) (project_in m p) (third (is_some (pair_in m p digest)) (nat_eq size 0) _ (ap is_some (subst (λ z. pair_in m z digest ≡ None) (sym is) absent)) some (subst (λ z. fits_limit j z digest size ≡ true) (sym is) fits)))
          ] refl
    ] refl e

within-step : (j : List AuditEntry) (n t : ℕ) (kind : EntryKind) → LegalKind j t kind → (p : List ℕ) → usage (replay j) p < usage (step n t kind (replay j)) p → Within j p (usage (step n t kind (replay j)) p)
within-step j n t (Associated project digest size) legal p more = added j project digest size p legal.fits (usage (step n t (Associated project digest size) (replay j)) p) (usage-weight (step n t (Associated project digest size) (replay j)) p) more
within-step j n t (ArtifactPut name digest size media refs children tag) legal p more = added j (project_of name) digest size p legal.own.fits (usage (step n t (ArtifactPut name digest size media refs children tag) (replay j)) p) (usage-weight (step n t (ArtifactPut name digest size media refs children tag) (replay j)) p) more
within-step j n t (Unassociated job project digest) legal p more = not-more j p (usage (replay j) p) (usage (step n t (Unassociated job project digest) (replay j)) p) (omega (arith, usage-weight (step n t (Unassociated job project digest) (replay j)) p, sum-kept (weight p) (λ x. not (same_pair project digest x.project x.digest)) (replay j).pairs, usage-weight (replay j) p)) more
within-step j n t _ legal p more = not-more j p (usage (replay j) p) (usage (replay j) p) (omega arith) more

pub added-within : (j : List AuditEntry) (e : AuditEntry) → Legal j e → (p : List ℕ) → usage (replay j) p < usage (replay (e ∷ j)) p → IsSomeAnd (project_in (replay j) p) (λ x. IsTrue (allows x.limit (usage (replay (e ∷ j)) p)))
added-within j e legal p more = within-step j e.number e.moment e.kind legal.kind p more
