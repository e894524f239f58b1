-- What the calls of a store leave of what it holds.
use Rattle.std.proofs.Common.{◌≡◌, ℕ, Bool, true, false, cond, List, [], ◌∷◌, length, Option, Some, None, Result, Ok, Err, IfSome, IsSome, IsSomeAnd, refl, sym, ap, subst, ◌∙◌, fold, arith}
use Rattle.std.specs.List.{AllByRecursion}
use Rattle.std.specs.Ordering.{nat_cmp, is_eq}
use Rattle.std.proofs.lemmas.Cmp.{tied_itself, nat_cmp_total}
use Rattle.hb_base.specs.Tables.{row_at}
use Rattle.hb_base.proofs.TableLaws.{row_at-without}
use Rattle.hb_text.specs.Digests.{digest_of}
use Rattle.hb_text.specs.declared.digests.Digest.{Digest}
use Rattle.hb_store.specs.Contents.{Contents, digest_cmp, bytes_of, stage_key, IsLapsing, lapsed, holding, counting, unstaged}
use Rattle.hb_store.specs.Calls.{Finds, Becomes, Staging, Placing, Dropping, Unchanged}
use Rattle.hb_store.specs.declared.rows.StagedBytes.{StagedBytes}
use Rattle.hb_store.specs.declared.store.StoreFault.{StoreFault}
use Rattle.hb_store.specs.declared.store.StoreFault.TheVariants.{Failed, Memory}
use Rattle.hb_store.proofs.HeldBytes.{digest_cmp-equal, digest_cmp-same, bytes_of-holding, bytes_of-lapsed}
use Rattle.hb_model.specs.Whole.{IsWhole}
use Rattle.hb_desk.specs.StoreCalls.{HasNoStage}
use Rattle.hb_world.specs.StoreStands.{IsHeld, Stands, StillHolds}
use Rattle.hb_world.specs.Worlds.{IsTrueTo}
use Rattle.hb_world.proofs.StoreSteps.{IsWhole-counting, IsWhole-found, IsWhole-placed, IsWhole-stages}

StillHolds-trans : (a b c : Contents) → StillHolds a b → StillHolds b c → StillHolds a c
StillHolds-trans a b c x y = record {
  true_still = λ d h. y.true_still d (x.true_still d h);
  none_lapsing = λ e. y.none_lapsing (x.none_lapsing e);
  held_still = λ e d h. y.held_still (x.none_lapsing e) d (x.held_still e d h);
  whole_still = λ rows n t h. y.whole_still rows n t (x.whole_still rows n t h);
}

StillHolds-same : (c : Contents) → StillHolds c c
StillHolds-same c = record { true_still = λ d h. h; none_lapsing = λ e. e; held_still = λ e d h. h; whole_still = λ rows n t h. h }

-- the same blobs and the same removals
StillHolds-stages : (c : Contents) (stages : List StagedBytes) → StillHolds c (record c { stages = stages })
StillHolds-stages c stages = record {
  true_still = λ d h. h;
  none_lapsing = λ e. e;
  held_still = λ e d h. h;
  whole_still = λ rows n t h. IsWhole-stages rows n c stages t h;
}

true_unless : (d : Digest) (b : Bool) (held : Option (List ℕ)) → IfSome held (λ bytes. digest_of bytes ≡ d) → IfSome (cond b None held) (λ bytes. digest_of bytes ≡ d)
true_unless d true held h = tt
true_unless d false held h = h

-- a removal that takes effect leaves the other blobs
IsTrueTo-lapsed : (c : Contents) (x d : Digest) → IsTrueTo c d → IsTrueTo (lapsed c x) d
IsTrueTo-lapsed c x d h = subst (λ held. IfSome held (λ bytes. digest_of bytes ≡ d)) (sym (bytes_of-lapsed c x d)) (true_unless d (is_eq (digest_cmp d x)) (bytes_of c d) h)

IsTrueTo-folded : (c : Contents) (xs : List Digest) (d : Digest) → IsTrueTo c d → IsTrueTo (fold lapsed c xs) d
IsTrueTo-folded c [] d h = h
IsTrueTo-folded c (x ∷ xs) d h = IsTrueTo-folded (lapsed c x) xs d (IsTrueTo-lapsed c x d h)

-- where a removal is lapsing, some are
none_is_none : (c : Contents) (x : Digest) → IsLapsing c x → c.lapsing ≡ [] → ⊥
none_is_none c x l e = let none : length c.lapsing ≡ 0 = ap length e in let some = l.1.1 in absurd (omega arith)

none_lapses : (c : Contents) (xs : List Digest) → AllByRecursion (IsLapsing c) xs → c.lapsing ≡ [] → xs ≡ []
none_lapses c [] live e = refl
none_lapses c (x ∷ xs) live e = absurd (none_is_none c x live.0 e)

-- what a call finds
StillHolds-found : (c : Contents) (now : ℕ) (found : Contents) → Finds c now found → StillHolds c found
StillHolds-found c now found finds =
    let none = none_lapses c finds.digests finds.live in
    subst (StillHolds c) (sym finds.is) (record {
      true_still = IsTrueTo-folded c finds.digests;
      none_lapsing = λ e. subst (λ xs. (fold lapsed c xs).lapsing ≡ []) (sym (none e)) e;
      held_still = λ e d h. subst (λ xs. IsHeld (fold lapsed c xs) d) (sym (none e)) h;
      whole_still = λ rows n t h. subst (λ c. IsWhole rows n c t) finds.is (IsWhole-found rows n c found t now finds h);
    })

-- the bytes that were placed have their digest, and the others are as before
IsTrueTo-holding : (c : Contents) (d q : Digest) (bytes : List ℕ) → digest_of bytes ≡ d → IsTrueTo c q → IsTrueTo (holding d bytes c) q
IsTrueTo-holding c d q bytes same h =
    subst (λ held. IfSome held (λ bytes. digest_of bytes ≡ q)) (sym (bytes_of-holding c d q bytes))
    (elim (is_eq (digest_cmp q d)) as (λ b. is_eq (digest_cmp q d) ≡ b → IfSome (cond b (Some bytes) (bytes_of c q)) (λ bytes. digest_of bytes ≡ q)) [
      | true ↦ λ e. same ∙ sym (digest_cmp-equal q d e)
      | false ↦ λ e. h
    ] refl)

held_or : (b : Bool) (bytes : List ℕ) (held : Option (List ℕ)) → IsSome held → IsSome (cond b (Some bytes) held)
held_or true bytes held h = refl
held_or false bytes held h = h

StillHolds-placed : (c : Contents) (d : Digest) (bytes : List ℕ) → digest_of bytes ≡ d → StillHolds c (holding d bytes (counting d bytes c))
StillHolds-placed c d bytes same = record {
  true_still = λ q h. IsTrueTo-holding c d q bytes same h;
  none_lapsing = λ e. e;
  held_still = λ e q h. subst IsSome (sym (bytes_of-holding c d q bytes)) (held_or (is_eq (digest_cmp q d)) bytes (bytes_of c q) h);
  whole_still = λ rows n t h. IsWhole-placed rows n t c d bytes same h;
}

StillHolds-counting : (c : Contents) (d : Digest) (bytes : List ℕ) → StillHolds c (counting d bytes c)
StillHolds-counting c d bytes = record {
  true_still = λ d h. h;
  none_lapsing = λ e. e;
  held_still = λ e d h. h;
  whole_still = λ rows n t h. IsWhole-counting rows n t c d bytes h;
}

-- a call stands where its own effect does
Stands-becomes : (old : Option Contents) (now : ℕ) (Effect : Contents → Contents → Type 0) (new : Option Contents) → ((found c : Contents) → Effect found c → StillHolds found c) → Becomes old now Effect new → Stands old new
Stands-becomes None now Effect new keeps becomes = becomes
Stands-becomes (Some c) now Effect None keeps becomes = becomes.2
Stands-becomes (Some c) now Effect (Some c') keeps becomes = StillHolds-trans c becomes.0 c' (StillHolds-found c now becomes.0 becomes.1) (keeps becomes.0 c' becomes.2)

-- Stages touch no blob.
StillHolds-staging : {T : Type 0} (id keep : ℕ) (result : Result T StoreFault) (found c : Contents) → Staging id keep result found c → StillHolds found c
StillHolds-staging id keep (Ok s) found c effect = subst (StillHolds found) (sym effect.1) (StillHolds-stages found _)
StillHolds-staging id keep (Err Failed) found c (true, is) = subst (StillHolds found) (sym is) (StillHolds-stages found _)
StillHolds-staging id keep (Err Failed) found c (false, is) = subst (StillHolds found) (sym is) (StillHolds-same found)
StillHolds-staging id keep (Err Memory) found c effect = subst (StillHolds found) (sym effect) (StillHolds-same found)

pub Stands-staging : {T : Type 0} (old : Option Contents) (now id keep : ℕ) (result : Result T StoreFault) (new : Option Contents) → Becomes old now (Staging id keep result) new → Stands old new
Stands-staging old now id keep result new = Stands-becomes old now (Staging id keep result) new (StillHolds-staging id keep result)

StillHolds-unstaged : (id : ℕ) (c : Contents) → StillHolds c (unstaged id c)
StillHolds-unstaged id c = StillHolds-stages c (unstaged id c).stages

StillHolds-dropping : {T : Type 0} (id : ℕ) (result : Result T StoreFault) (found c : Contents) → Dropping id result found c → StillHolds found c
StillHolds-dropping id (Ok s) found c effect = subst (StillHolds found) (sym effect) (StillHolds-unstaged id found)
StillHolds-dropping id (Err Failed) found c (true, is) = subst (StillHolds found) (sym is) (StillHolds-unstaged id found)
StillHolds-dropping id (Err Failed) found c (false, is) = subst (StillHolds found) (sym is) (StillHolds-same found)
StillHolds-dropping id (Err Memory) found c effect = subst (StillHolds found) (sym effect) (StillHolds-same found)

pub Stands-dropping : {T : Type 0} (old : Option Contents) (now id : ℕ) (result : Result T StoreFault) (new : Option Contents) → Becomes old now (Dropping id result) new → Stands old new
Stands-dropping old now id result new = Stands-becomes old now (Dropping id result) new (StillHolds-dropping id result)

-- an upload whose stage was ended has none
unstaged-none : (id : ℕ) (c : Contents) → row_at nat_cmp stage_key id (unstaged id c).stages ≡ None
unstaged-none id c = row_at-without nat_cmp_total stage_key id id c.stages ∙ ap (λ o. cond (is_eq o) None (row_at nat_cmp stage_key id c.stages)) (tied_itself nat_cmp_total id)

ended-by : (old : Option Contents) (now id : ℕ) (Effect : Contents → Contents → Type 0) (before : Contents → Contents) (new : Option Contents) → ((found c : Contents) → Effect found c → c ≡ unstaged id (before found)) → Becomes old now Effect new → HasNoStage new id
ended-by None now id Effect before new is becomes = subst (λ new. HasNoStage new id) (sym becomes) tt
ended-by (Some c) now id Effect before None is becomes = tt
ended-by (Some c) now id Effect before (Some c') is becomes = subst (λ x. HasNoStage (Some x) id) (sym (is becomes.0 c' becomes.2)) (unstaged-none id (before becomes.0))

pub dropped-ended : (old : Option Contents) (now id : ℕ) (x : Unit {0}) (new : Option Contents) → Becomes old now (Dropping id (Ok x)) new → HasNoStage new id
dropped-ended old now id x new = ended-by old now id (Dropping id (Ok x)) (λ found. found) new (λ found c e. e)

pub placed-ended : (old : Option Contents) (now id : ℕ) (told : Option (List ℕ)) (d : Digest) (x : Unit {0}) (new : Option Contents) → Becomes old now (Placing id told d (Ok x)) new → HasNoStage new id
placed-ended old now id None d x new = ended-by old now id (Placing id None d (Ok x)) (λ found. found) new (λ found c e. absurd e)
placed-ended old now id (Some bytes) d x new = ended-by old now id (Placing id (Some bytes) d (Ok x)) (λ found. holding d bytes (counting d bytes found)) new (λ found c e. e)

-- a content that stands, without a stage
without_stage : (id : ℕ) (found c : Contents) → StillHolds found c → StillHolds found (unstaged id c)
without_stage id found c h = StillHolds-trans found c (unstaged id c) h (StillHolds-unstaged id c)

-- a content of the right digest is placed, and held where the call was acknowledged
StillHolds-placing : {T : Type 0} (id : ℕ) (d : Digest) (bytes : List ℕ) (result : Result T StoreFault) (found c : Contents) → digest_of bytes ≡ d → Placing id (Some bytes) d result found c → StillHolds found c
StillHolds-placing id d bytes (Ok s) found c same effect = subst (StillHolds found) (sym effect) (without_stage id found _ (StillHolds-placed found d bytes same))
StillHolds-placing id d bytes (Err Failed) found c same (true, true, is) = subst (StillHolds found) (sym is) (without_stage id found _ (StillHolds-placed found d bytes same))
StillHolds-placing id d bytes (Err Failed) found c same (true, false, is) = subst (StillHolds found) (sym is) (StillHolds-placed found d bytes same)
StillHolds-placing id d bytes (Err Failed) found c same (false, true, is) = subst (StillHolds found) (sym is) (without_stage id found _ (StillHolds-counting found d bytes))
StillHolds-placing id d bytes (Err Failed) found c same (false, false, is) = subst (StillHolds found) (sym is) (StillHolds-counting found d bytes)
StillHolds-placing id d bytes (Err Memory) found c same effect = subst (StillHolds found) (sym effect) (StillHolds-same found)

-- where the store tells its contents, the stage tells its bytes
Stands-placing : {T : Type 0} (old : Option Contents) (now id : ℕ) (told : Option (List ℕ)) (d : Digest) (bytes : List ℕ) (result : Result T StoreFault) (new : Option Contents) → digest_of bytes ≡ d → IfSome old (λ c. told ≡ Some bytes) → Becomes old now (Placing id told d result) new → Stands old new
Stands-placing None now id told d bytes result new same is becomes = becomes
Stands-placing (Some c) now id told d bytes result new same is becomes =
    Stands-becomes (Some c) now (Placing id (Some bytes) d result) new (λ found c. StillHolds-placing id d bytes result found c same) (subst (λ told. Becomes (Some c) now (Placing id told d result) new) is becomes)

bytes_of-placed : (c : Contents) (d : Digest) (bytes : List ℕ) → bytes_of (holding d bytes c) d ≡ Some bytes
bytes_of-placed c d bytes = bytes_of-holding c d d bytes ∙ ap (λ b. cond b (Some bytes) (bytes_of c d)) (digest_cmp-same d)

placed_there : (id : ℕ) (d : Digest) (bytes : List ℕ) (found c : Contents) → c ≡ unstaged id (holding d bytes (counting d bytes found)) → bytes_of c d ≡ Some bytes
placed_there id d bytes found c is = ap (λ c. bytes_of c d) is ∙ bytes_of-placed found d bytes

pub Stands-unchanged : (old : Option Contents) (now : ℕ) (new : Option Contents) → Becomes old now Unchanged new → Stands old new
Stands-unchanged old now new = Stands-becomes old now Unchanged new (λ found c e. subst (StillHolds found) (sym e) (StillHolds-same found))

-- the same of a stage whose bytes have the digest, and more that holds of them
pub Stands-given : {T : Type 0} (P : List ℕ → Type 0) (old : Option Contents) (now id : ℕ) (told : Option (List ℕ)) (d : Digest) (result : Result T StoreFault) (new : Option Contents) → ((bytes : List ℕ) → P bytes → digest_of bytes ≡ d) → IfSome old (λ c. IsSomeAnd told P) → Becomes old now (Placing id told d result) new → Stands old new
Stands-given P None now id told d result new own given becomes = becomes
Stands-given P (Some c) now id None d result new own given becomes = absurd given
Stands-given P (Some c) now id (Some bytes) d result new own given becomes = Stands-placing (Some c) now id (Some bytes) d bytes result new (own bytes given) refl becomes

pub held-given : {T : Type 0} (P : List ℕ → Type 0) (old : Option Contents) (now id : ℕ) (told : Option (List ℕ)) (d : Digest) (x : T) (new : Option Contents) → IfSome old (λ c. IsSomeAnd told P) → Becomes old now (Placing id told d (Ok x)) new → IfSome new (λ c. IsSomeAnd (bytes_of c d) P)
held-given P None now id told d x new given becomes = subst (λ new. IfSome new (λ c. IsSomeAnd (bytes_of c d) P)) (sym becomes) tt
held-given P (Some c) now id None d x new given becomes = absurd given
held-given P (Some c) now id (Some bytes) d x None given becomes = tt
held-given P (Some c) now id (Some bytes) d x (Some c') given becomes = subst (λ held. IsSomeAnd held P) (sym (placed_there id d bytes becomes.0 c' becomes.2)) given
