-- What a caller seals and places whose upload is none of another's.
use Rattle.std.proofs.Common.{◌≡◌, ◌||◌, ℕ, Bool, true, false, cond, List, [], ◌∷◌, Option, Some, None, Ok, Err, IfSome, nat_eq, refl, subst, sym, arith}
use Rattle.std.proofs.lemmas.Bool.Decides.{nat_tests}
use Rattle.std.specs.List.{list_any}
use Rattle.hb_records.specs.declared.notes.Sealed.{Sealed}
use Rattle.hb_desk.specs.Calls.{Asked, Outcome}
use Rattle.hb_desk.specs.Clause.{Between, Causes, EventOf, View, moves_seal}
use Rattle.hb_desk.specs.Notes.{is_sealed, sealed_at}
use Rattle.hb_desk.specs.Noting.{seal_of}
use Rattle.hb_desk.specs.declared.asks.Ask.{Ask}
use Rattle.hb_desk.specs.declared.asks.Ask.TheVariants.{ShowProject, TouchBlob, BeginUpload, EndUpload, Seal, SealManifest, Settle, PutArtifact, Look, NotePull}
use Rattle.hb_desk.proofs.Interleave.{one-between}

pub none-sealed : (upload : ℕ) (own : List Sealed) → list_any (is_sealed upload) own ≡ false → sealed_at upload own ≡ None
none-sealed upload [] none = refl
none-sealed upload (x ∷ own) none = go (nat_eq upload x.upload) none (none-sealed upload own)
  where
    go : (b : Bool) → (b || list_any (is_sealed upload) own) ≡ false → (list_any (is_sealed upload) own ≡ false → sealed_at upload own ≡ None) → cond b (Some x) (sealed_at upload own) ≡ None
    go true none rest = absurd (cc none)
    go false none rest = rest none

-- what the other has sealed is of other uploads
pub others-sealed : (upload : ℕ) (own : List Sealed) → sealed_at upload own ≡ None → (u : ℕ) (x : Sealed) → sealed_at u own ≡ Some x → nat_eq u upload ≡ false
others-sealed upload own none u x is = go (nat_eq u upload) refl
  where
    go : (b : Bool) → nat_eq u upload ≡ b → b ≡ false
    go true tied =
        let same : u ≡ upload = grind (arith, nat_tests) in
        let found = subst (λ k. sealed_at k own ≡ Some x) same is in
        absurd (cc (none, found))
    go false tied = refl

-- ---- the ask that seals
unmoved-by : (ask : Ask) (outcome : Outcome) (x : Sealed) (u : ℕ) → seal_of ask ≡ Some x → nat_eq u x.upload ≡ false → moves_seal u (Asked ask) outcome ≡ false
unmoved-by (ShowProject name) outcome x u is apart = refl
unmoved-by (BeginUpload name) outcome x u is apart = refl
unmoved-by (EndUpload job upload) outcome x u is apart = refl
unmoved-by (Seal upload d size) (Ok gave) x u is apart = subst (λ (o : Option Sealed). IfSome o (λ y. nat_eq u y.upload ≡ false)) (sym is) apart
unmoved-by (Seal upload d size) (Err refusal) x u is apart = refl
unmoved-by (SealManifest upload put) (Ok gave) x u is apart = subst (λ (o : Option Sealed). IfSome o (λ y. nat_eq u y.upload ≡ false)) (sym is) apart
unmoved-by (SealManifest upload put) (Err refusal) x u is apart = refl
unmoved-by (Settle name upload d) outcome x u is apart = refl
unmoved-by (PutArtifact upload put) outcome x u is apart = refl
unmoved-by (TouchBlob name d) outcome x u is apart = refl
unmoved-by (Look name ref) outcome x u is apart = refl
unmoved-by (NotePull name d) outcome x u is apart = refl

pub sealing-between : (own : List Sealed) (old new : View) (now : ℕ) (ask : Ask) (outcome : Outcome) (x : Sealed) → seal_of ask ≡ Some x → sealed_at x.upload own ≡ None → old.spent ≡ false → new.spent ≡ false → EventOf old new (Asked ask) outcome → Causes old new now (Asked ask) outcome → Between own old new
sealing-between own old new now ask outcome x is none before seat event causes = one-between own old new now (Asked ask) outcome (λ u y mine. unmoved-by ask outcome x u is (others-sealed x.upload own none u y mine)) before seat event causes
