-- What one entry changes of the pair of a project and a digest, and of what is stored under a digest.
use Rattle.std.proofs.Common.{◌≡◌, ℕ, Bool, true, false, cond, List, Option, Some, None, refl, sym, ap, ◌∙◌}
use Rattle.std.specs.Ordering.{is_eq}
use Rattle.hb_base.specs.Tables.{row_at}
use Rattle.hb_base.proofs.TableLaws.{equal_from, row_at-with, row_at-without, row_at-tied}
use Rattle.hb_text.specs.declared.digests.Digest.{Digest}
use Rattle.hb_text.specs.Names.{project_of}
use Rattle.hb_text.proofs.KeyOrders.{digest_cmp-order}
use Rattle.hb_records.specs.declared.entries.EntryKind.{EntryKind}
use Rattle.hb_records.specs.declared.entries.EntryKind.TheVariants.{Associated, Unassociated, ArtifactPut, Collected, Adopted}
use Rattle.hb_records.specs.Orders.{named_digest_cmp}
use Rattle.hb_records.proofs.KeyOrders.{named_digest_cmp-order}
use Rattle.hb_model.specs.Words.{same_digest}
use Rattle.hb_model.specs.Registry.{Registry, PairItem, StoredItem, pair_key, stored_key, pair_in, stored_in}
use Rattle.hb_model.specs.Replay.{pairs_with, step}

abbrev pub same_pair : List ℕ → Digest → List ℕ → Digest → Bool
same_pair p d q e = is_eq (named_digest_cmp (p, d) (q, e))

abbrev pub pair_item : List ℕ → Digest → ℕ → PairItem
pair_item project digest size = record { project = project; digest = digest; size = size }

-- what is there, or the new item
abbrev pub kept_or : PairItem → Option PairItem → Option PairItem
kept_or new None = Some new
kept_or new (Some x) = Some x

abbrev pub pair_after : List ℕ → Digest → EntryKind → Option PairItem → Option PairItem
pair_after p d (Associated project digest size) x = cond (same_pair p d project digest) (kept_or (pair_item project digest size) x) x
pair_after p d (ArtifactPut name digest size media refs children tag) x = cond (same_pair p d (project_of name) digest) (kept_or (pair_item (project_of name) digest size) x) x
pair_after p d (Unassociated job project digest) x = cond (same_pair p d project digest) None x
pair_after p d _ x = x

associated-pair : (p : List ℕ) (d : Digest) (project : List ℕ) (digest : Digest) (size : ℕ) (m : Registry) → row_at named_digest_cmp pair_key (p, d) (pairs_with project digest size (pair_in m project digest) m.pairs) ≡ cond (same_pair p d project digest) (kept_or (pair_item project digest size) (pair_in m p d)) (pair_in m p d)
associated-pair p d project digest size m =
    let new = pair_item project digest size in
    let x = pair_in m p d in
    elim (pair_in m project digest) as (λ y. pair_in m project digest ≡ y → row_at named_digest_cmp pair_key (p, d) (pairs_with project digest size y m.pairs) ≡ cond (same_pair p d project digest) (kept_or new x) x) [
      | None ↦ λ absent.
          row_at-with named_digest_cmp-order.total pair_key (p, d) new m.pairs
          ∙ elim (same_pair p d project digest) as (λ b. same_pair p d project digest ≡ b → cond b (Some new) x ≡ cond b (kept_or new x) x) [
            | true ↦ λ e. ap (kept_or new) (sym (row_at-tied named_digest_cmp-order.total pair_key (p, d) (project, digest) (equal_from _ e) m.pairs ∙ absent))
            | false ↦ λ e. refl
          ] refl
      | Some y ↦ λ there. elim (same_pair p d project digest) as (λ b. same_pair p d project digest ≡ b → x ≡ cond b (kept_or new x) x) [
        | true ↦ λ e. let here = row_at-tied named_digest_cmp-order.total pair_key (p, d) (project, digest) (equal_from _ e) m.pairs ∙ there in here ∙ sym (ap (kept_or new) here)
        | false ↦ λ e. refl
      ] refl
    ] refl

pub pair-step : (p : List ℕ) (d : Digest) (n moment : ℕ) (kind : EntryKind) (m : Registry) → pair_in (step n moment kind m) p d ≡ pair_after p d kind (pair_in m p d)
pair-step p d n moment (Associated project digest size) m = associated-pair p d project digest size m
pair-step p d n moment (ArtifactPut name digest size media refs children tag) m = associated-pair p d (project_of name) digest size m
pair-step p d n moment (Unassociated job project digest) m = row_at-without named_digest_cmp-order.total pair_key (p, d) (project, digest) m.pairs
pair-step p d n moment _ m = refl

abbrev pub stored_item : Digest → ℕ → StoredItem
stored_item digest size = record { digest = digest; size = size }

abbrev pub stored_after : Digest → EntryKind → Option StoredItem → Option StoredItem
stored_after d (Associated project digest size) x = cond (same_digest d digest) (Some (stored_item digest size)) x
stored_after d (ArtifactPut name digest size media refs children tag) x = cond (same_digest d digest) (Some (stored_item digest size)) x
stored_after d (Adopted job digest size) x = cond (same_digest d digest) (Some (stored_item digest size)) x
stored_after d (Collected job digest) x = cond (same_digest d digest) None x
stored_after d _ x = x

pub stored-step : (d : Digest) (n moment : ℕ) (kind : EntryKind) (m : Registry) → stored_in (step n moment kind m) d ≡ stored_after d kind (stored_in m d)
stored-step d n moment (Associated project digest size) m = row_at-with digest_cmp-order.total stored_key d (stored_item digest size) m.stored
stored-step d n moment (ArtifactPut name digest size media refs children tag) m = row_at-with digest_cmp-order.total stored_key d (stored_item digest size) m.stored
stored-step d n moment (Adopted job digest size) m = row_at-with digest_cmp-order.total stored_key d (stored_item digest size) m.stored
stored-step d n moment (Collected job digest) m = row_at-without digest_cmp-order.total stored_key d digest m.stored
stored-step d n moment _ m = refl
