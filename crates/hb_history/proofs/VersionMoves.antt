-- Rows whose version is the number of the entry that last changed them.
use Rattle.std.proofs.Common.{◌≡◌, ◌<◌, ◌≤◌, ℕ, Bool, true, false, cond, List, [], ◌∷◌, ◌++◌, length, Option, Some, None, option_map, sym, ap, ◌∙◌, ◌⊎◌, ⊎_elim, inl, inr, arith}
use Rattle.std.proofs.lemmas.List.{length-append}
use Rattle.hb_records.specs.Entries.{AuditEntry}
use Rattle.hb_model.specs.History.{History}

module _ {Row : Type 0} (version : Row → ℕ) where
  -- a row is as it was before, or has the entry's number as its version
  abbrev pub Moved : ℕ → Option Row → Option Row → Type 0
  Moved n before after = (row : Row) → after ≡ Some row → (before ≡ Some row) ⊎ (version row ≡ n)

  pub moved-same : (n : ℕ) (x : Option Row) → Moved n x x
  moved-same n x row e = inl e

  pub moved-set : (n : ℕ) (b : Bool) (new : Row) (x : Option Row) → version new ≡ n → Moved n x (cond b (Some new) x)
  moved-set n true new x e row f = let same : new ≡ row = cc in inr (ap version (sym same) ∙ e)
  moved-set n false new x e row f = inl f

  pub moved-changed : (n : ℕ) (b : Bool) (change : Row → Row) (x : Option Row) → ((row : Row) → (change row ≡ row) ⊎ (version (change row) ≡ n)) → Moved n x (cond b (option_map change x) x)
  moved-changed n true change None h row f = cc
  moved-changed n true change (Some old) h row f =
      let same : change old ≡ row = cc in
      ⊎_elim (λ (kept : change old ≡ old). inl (ap Some (sym kept) ∙ f)) (λ (new : version (change old) ≡ n). inr (ap version (sym same) ∙ new)) (h old)
  moved-changed n false change x h row f = inl f

  pub moved-dropped : (n : ℕ) (b : Bool) (x : Option Row) → Moved n x (cond b None x)
  moved-dropped n true x row f = cc
  moved-dropped n false x row f = inl f

  -- a row found in another way
  pub moved-found : (n : ℕ) (x y z : Option Row) → z ≡ y → Moved n x y → Moved n x z
  moved-found n x y z e h row f = h row (sym e ∙ f)

  -- one change after another
  pub moved-then : (n : ℕ) (x y z : Option Row) → Moved n x y → Moved n y z → Moved n x z
  moved-then n x y z g h row f = ⊎_elim (λ (old : y ≡ Some row). g row old) (λ (new : version row ≡ n). inr new) (h row f)

  -- What is looked up after each legal audit: there is nothing at the start, and each entry moves it.
  module _ (look : List AuditEntry → Option Row) (start : look [] ≡ None) (step : (e : AuditEntry) (j : List AuditEntry) → History j → Moved e.number (look j) (look (e ∷ j))) where
    bounded : (j : List AuditEntry) → History j → (row : Row) → look j ≡ Some row → version row ≤ length j
    bounded [] legal row f = let none = sym start ∙ f in cc
    bounded (e ∷ j) legal row f = ⊎_elim (λ (old : look j ≡ Some row). omega (arith, bounded j legal.1 row old)) (λ (new : version row ≡ e.number). omega (arith, new, legal.0.numbered)) (step e j legal.1 row f)

    -- a row that an audit has when it has gone on is one from before, or is newer than all of before
    since : (newer j : List AuditEntry) → History (newer ++ j) → (row : Row) → look (newer ++ j) ≡ Some row → (look j ≡ Some row) ⊎ (length j < version row)
    since [] j legal row f = inl f
    since (e ∷ newer) j legal row f = ⊎_elim (λ (old : look (newer ++ j) ≡ Some row). since newer j legal.1 row old) (λ (new : version row ≡ e.number). inr (omega (arith, new, legal.0.numbered, length-append newer j))) (step e (newer ++ j) legal.1 row f)

    history-before : (newer j : List AuditEntry) → History (newer ++ j) → History j
    history-before [] j legal = legal
    history-before (e ∷ newer) j legal = history-before newer j legal.1

    pub same-version : (newer j : List AuditEntry) → History (newer ++ j) → (a b : Row) → look j ≡ Some a → look (newer ++ j) ≡ Some b → version a ≡ version b → a ≡ b
    same-version newer j legal a b f g same = ⊎_elim (λ (old : look j ≡ Some b). the_same a b (sym f ∙ old)) (λ (new : length j < version b). absurd (omega (arith, new, same, bounded j (history-before newer j legal) a f))) (since newer j legal b g)
      where
        the_same : (a b : Row) → Some a ≡ Some b → a ≡ b
        the_same a b e = cc
