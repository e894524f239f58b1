-- The sizes of pairs are those that are stored.
use Rattle.std.proofs.Common.{◌≡◌, ℕ, Bool, true, false, not, cond, List, [], ◌∷◌, Option, Some, None, option_map, IsSome, is_some, refl, sym, ap, subst, ◌∙◌}
use Rattle.std.proofs.lemmas.Bool.{and_parts}
use Rattle.hb_text.specs.declared.digests.Digest.{Digest}
use Rattle.hb_text.specs.Names.{project_of}
use Rattle.hb_records.specs.Entries.{AuditEntry}
use Rattle.hb_records.specs.declared.entries.EntryKind.{EntryKind}
use Rattle.hb_records.specs.declared.entries.EntryKind.TheVariants.{Associated, Unassociated, ArtifactPut, Collected, Adopted}
use Rattle.hb_model.specs.Words.{same_digest, has_kind, since_kind}
use Rattle.hb_model.specs.Registry.{PairItem, StoredItem, pair_in, stored_in}
use Rattle.hb_model.specs.Replay.{replay, size_of}
use Rattle.hb_model.specs.Moves.{stores, takes_digest}
use Rattle.hb_model.specs.Presence.{present}
use Rattle.hb_model.specs.LegalBlobs.{LegalAssociated}
use Rattle.hb_model.specs.History.{LegalKind, History}
use Rattle.hb_history.proofs.PairSteps.{same_pair, pair_item, kept_or, pair_after, pair-step, stored_item, stored_after, stored-step}
use Rattle.hb_history.proofs.Settled.{exact-digest, same-pair-digest, Settled, settled, unmoved}

abbrev size_in : Option StoredItem → Option ℕ
size_in = option_map (λ (x : StoredItem). x.size)

-- what is known of the audit before
abbrev Sized : List AuditEntry → List ℕ → Digest → Type 0
Sized j p d = (x : PairItem) → pair_in (replay j) p d ≡ Some x → size_of j d ≡ Some x.size

made-size : (b : Bool) (new x : PairItem) → cond b (kept_or new None) None ≡ Some x → Some new.size ≡ Some x.size
made-size true new x e = cc
made-size false new x e = cc

kept-item : (b : Bool) (new y x : PairItem) → cond b (kept_or new (Some y)) (Some y) ≡ Some x → Some y ≡ Some x
kept-item true new y x e = e
kept-item false new y x e = e

sizes-associated : (j : List AuditEntry) (t : ℕ) (project : List ℕ) (digest : Digest) (size : ℕ) (p : List ℕ) (d : Digest) → LegalAssociated j t project digest size → (IsSome (pair_in (replay j) p d) → Settled j d) → Sized j p d → (x : PairItem) → cond (same_pair p d project digest) (kept_or (pair_item project digest size) (pair_in (replay j) p d)) (pair_in (replay j) p d) ≡ Some x → size_in (cond (same_digest d digest) (Some (stored_item digest size)) (stored_in (replay j) d)) ≡ Some x.size
sizes-associated j t project digest size p d legal settles sized x e =
    let same = same_pair p d project digest in
    let new = pair_item project digest size in
    elim (same_digest d digest) as (λ b. same_digest d digest ≡ b → size_in (cond b (Some (stored_item digest size)) (stored_in (replay j) d)) ≡ Some x.size) [
      | true ↦ λ one. elim (pair_in (replay j) p d) as (λ y. pair_in (replay j) p d ≡ y → cond same (kept_or new y) y ≡ Some x → Some size ≡ Some x.size) [
        | None ↦ λ absent f. made-size same new x f
        | Some y ↦ λ there f.
            let is = exact-digest d digest one in
            let here = (settles (ap is_some there)).here in
            sym (subst (λ z. size_of j z ≡ Some size) (sym is) (legal.same_size (subst (λ z. present j z ≡ true) is here))) ∙ sized x (there ∙ kept-item same new y x f)
      ] refl e
      | false ↦ λ other. sized x (subst (λ b. cond b (kept_or new (pair_in (replay j) p d)) (pair_in (replay j) p d) ≡ Some x) (not-same same (same_digest d digest) (same-pair-digest p d project digest) other) e)
    ] refl
  where
    not-same : (b c : Bool) → (b ≡ true → c ≡ true) → c ≡ false → b ≡ false
    not-same true c f e = let g = f refl in cc
    not-same false c f e = refl

left-item : (b : Bool) (y : Option PairItem) (x : PairItem) → cond b None y ≡ Some x → y ≡ Some x
left-item true y x e = cc
left-item false y x e = e

sizes-step : (j : List AuditEntry) (p : List ℕ) (d : Digest) (t : ℕ) (kind : EntryKind) → LegalKind j t kind → (IsSome (pair_in (replay j) p d) → Settled j d) → Sized j p d → (x : PairItem) → pair_after p d kind (pair_in (replay j) p d) ≡ Some x → size_in (stored_after d kind (stored_in (replay j) d)) ≡ Some x.size
sizes-step j p d t (Associated project digest size) legal settles sized x e = sizes-associated j t project digest size p d legal settles sized x e
sizes-step j p d t (ArtifactPut name digest size media refs children tag) legal settles sized x e = sizes-associated j t (project_of name) digest size p d legal.own settles sized x e
sizes-step j p d t (Unassociated job project digest) legal settles sized x e = sized x (left-item (same_pair p d project digest) (pair_in (replay j) p d) x e)
sizes-step j p d t (Adopted job digest size) legal settles sized x e =
    let here = (settles (ap is_some e)).here in
    let stored = (and_parts (is_some (stored_in (replay j) d)) (not (has_kind (takes_digest d) (since_kind (stores d) j))) here).0 in
    elim (same_digest d digest) as (λ b. same_digest d digest ≡ b → size_in (cond b (Some (stored_item digest size)) (stored_in (replay j) d)) ≡ Some x.size) [
      | true ↦ λ one. let none = subst (λ z. stored_in (replay j) z ≡ None) (sym (exact-digest d digest one)) legal.new in cc
      | false ↦ λ other. sized x e
    ] refl
sizes-step j p d t (Collected job digest) legal settles sized x e =
    let there = ap is_some e in
    ap (λ b. size_in (cond b None (stored_in (replay j) d))) (unmoved j p d t (Collected job digest) there (settles there) legal).uncollected ∙ sized x e
sizes-step j p d t _ legal settles sized x e = sized x e

pub sizes-stored : (j : List AuditEntry) → History j → (p : List ℕ) (d : Digest) (x : PairItem) → pair_in (replay j) p d ≡ Some x → size_of j d ≡ Some x.size
sizes-stored [] legal p d x e = cc
sizes-stored (e ∷ j) legal p d x there =
    ap size_in (stored-step d e.number e.moment e.kind (replay j))
    ∙ sizes-step j p d e.moment e.kind legal.0.kind (settled j legal.1 p d) (sizes-stored j legal.1 p d) x (sym (pair-step p d e.number e.moment e.kind (replay j)) ∙ there)
