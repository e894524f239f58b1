-- What a store's effects keep: a registry that fitted a store still fits it after time has passed, after a stage was
-- made or dropped, and after a content was placed under its own digest, whatever the world remembers.
use Rattle.std.proofs.Common.{◌≡◌, ◌<◌, ℕ, Bool, true, false, cond, List, [], ◌∷◌, length, Option, Some, None, IfSome, IsSomeAnd, IsTrue, option_map, refl, sym, ap, subst, ◌∙◌, fold, arith}
use Rattle.std.specs.List.{filter, Contains, AllByRecursion}
use Rattle.std.specs.declared.cmp.Ordering.{Ordering}
use Rattle.std.specs.declared.cmp.Ordering.TheVariants.{Less, Equal, Greater}
use Rattle.std.specs.Ordering.{is_eq}
use Rattle.std.proofs.lemmas.List.Elements.{All-contains, All-contains_itself, All-filter, All-from_recursion, recursion_from_All, Contains-append_left, Contains-append_right, Contains-push}
use Rattle.hb_base.specs.Tables.{placed, row_at, with_row_by}
use Rattle.hb_text.specs.Digests.{digest_of}
use Rattle.hb_text.specs.declared.digests.Digest.{Digest}
use Rattle.hb_records.specs.declared.notes.Notes.{Notes}
use Rattle.hb_records.specs.declared.notes.Placement.{Placement}
use Rattle.hb_records.specs.declared.notes.Sighting.{Sighting}
use Rattle.hb_records.specs.declared.notes.Spell.{Spell}
use Rattle.hb_rows.specs.Tables.{Tables}
use Rattle.hb_store.specs.declared.rows.HeldBlob.{HeldBlob}
use Rattle.hb_store.specs.declared.rows.Lapsing.{Lapsing}
use Rattle.hb_store.specs.declared.rows.Placed.{Placed}
use Rattle.hb_store.specs.declared.rows.StagedBytes.{StagedBytes}
use Rattle.hb_store.specs.Calls.{Finds}
use Rattle.hb_store.specs.Contents.{Contents, IsLapsing, at_moment, bytes_of, counting, digest_cmp, held_in, held_key, holding, lapsed}
use Rattle.hb_store.proofs.HeldBytes.{bytes_of-holding, bytes_of-lapsed, digest_cmp-equal}
use Rattle.hb_model.specs.Replay.{replay}
use Rattle.hb_model.specs.Registry.{stored_in}
use Rattle.hb_model.specs.Sound.{HasLength, IsHeld, OneLength}
use Rattle.hb_model.specs.Whole.{IsKept, IsWhole, is_last_move}
use Rattle.hb_model.proofs.EntrySteps.{All-weaker}

-- ---- lists
Contains-next : {A : Type 0} (first x : A) (xs : List A) → Contains xs x → Contains (first ∷ xs) x
Contains-next first x xs h = Contains-append_right (first ∷ []) xs x h

Contains-first : {A : Type 0} (x : A) (xs : List A) → Contains (x ∷ xs) x
Contains-first x xs = Contains-append_left (x ∷ []) xs x (Contains-push [] x)

-- what passes was there
Contains-passed : {A : Type 0} (p : A → Bool) (xs : List A) (x : A) → Contains (filter p xs) x → Contains xs x
Contains-passed p xs x h = All-contains (Contains xs) (filter p xs) x (All-filter p (Contains xs) xs (All-contains_itself xs)) h

pub All-passed : {A : Type 0} (P : A → Type 0) (p : A → Bool) (xs : List A) → AllByRecursion P xs → AllByRecursion P (filter p xs)
All-passed P p xs h = recursion_from_All P (filter p xs) (All-filter p P xs (All-from_recursion P xs h))

All-with_row : {A : Type 0} (P : A → Type 0) (order : A → A → Ordering) (row : A) (rows : List A) → P row → AllByRecursion P rows → AllByRecursion P (with_row_by order row rows)
All-with_row P order row [] now h = (now, tt)
All-with_row P order row (first ∷ rest) now h =
    elim (order row first) as (λ r. AllByRecursion P (placed r row first rest (with_row_by order row rest))) [
      | Less ↦ (now, h)
      | Equal ↦ (now, h.1)
      | Greater ↦ (h.0, All-with_row P order row rest now h.1)
    ]

All-both : {A : Type 0} (P Q R : A → Type 0) → ((x : A) → P x → Q x → R x) → (xs : List A) → AllByRecursion P xs → AllByRecursion Q xs → AllByRecursion R xs
All-both P Q R f [] h k = tt
All-both P Q R f (x ∷ xs) h k = (f x h.0 k.0, All-both P Q R f xs h.1 k.1)

-- ---- contents that follow
abbrev HasDigest : HeldBlob → Type 0
HasDigest x = digest_of x.bytes ≡ x.digest

abbrev IsCounted : Contents → HeldBlob → Type 0
IsCounted c x = Contains c.placed (record { digest = x.digest; size = length x.bytes })

-- What was kept is held, with the lengths that it had; no removal is new; and what is held more was counted and has
-- its digest.
record Follows (c c' : Contents) : Type 0 where
  held : (d : Digest) → IsKept c d → IsHeld c' d
  live : (x : Lapsing) → Contains c'.lapsing x → c'.clock < x.until → Contains c.lapsing x × (c.clock < x.until)
  true_digests : AllByRecursion HasDigest c.held → AllByRecursion HasDigest c'.held
  counted : AllByRecursion (IsCounted c) c.held → AllByRecursion (IsCounted c') c'.held
  fewer : OneLength c' → OneLength c
  lengths : OneLength c' → AllByRecursion (IsCounted c) c.held → (d : Digest) (size : ℕ) → IsKept c d → HasLength c d size → HasLength c' d size

module _ (c c' : Contents) (f : Follows c c') where
  lapsing-before : (d : Digest) → IsLapsing c' d → IsLapsing c d
  lapsing-before d l = let x : Lapsing = record { digest = d; until = l.0 } in let before = f.live x l.1 l.2 in (l.0, before.0, before.1)

  IsKept-follows : (d : Digest) → IsKept c d → IsKept c' d
  IsKept-follows d h = record { held = f.held d h; safe = λ l. h.safe (lapsing-before d l) }

  IsWhole-follows : (rows : Tables) (n : Notes) (t : ℕ) → IsWhole rows n c t → IsWhole rows n c' t
  IsWhole-follows rows n t h = record {
    stands = h.stands;
    now = h.now;
    pairs_present = h.pairs_present;
    complete = h.complete;
    present_kept = λ d here. IsKept-follows d (h.present_kept d here);
    may_lapse = λ x there live. let before = f.live x there live in h.may_lapse x before.0 before.1;
    one_spell = h.one_spell;
    acknowledged = All-weaker _ (λ (x : Spell). IsTrue x.acknowledged → IsTrue (is_last_move rows.audit x) → ¬ (IsLapsing c' x.digest)) (λ x none done last l. none done last (lapsing-before x.digest l)) n.spells h.acknowledged;
    placed = All-weaker _ (λ (x : Placement). x.gone ≡ 0 → IsKept c' x.digest) (λ x kept here. IsKept-follows x.digest (kept here)) n.placements h.placed;
    sighted = All-weaker _ (λ (x : Sighting). stored_in (replay rows.audit) x.digest ≡ None → IsKept c' x.digest) (λ x kept none. IsKept-follows x.digest (kept none)) n.sightings h.sighted;
    sealed = h.sealed;
    true_digests = f.true_digests h.true_digests;
    counted = f.counted h.counted;
    lengths = λ one. let before = h.lengths (f.fewer one) in record {
      present = λ d size here sized. f.lengths one h.counted d size (h.present_kept d here) (before.present d size here sized);
      placed = All-both _ _ (λ (x : Placement). x.gone ≡ 0 → HasLength c' x.digest x.size) (λ x kept long here. f.lengths one h.counted x.digest x.size (kept here) (long here)) n.placements h.placed before.placed;
      sighted = All-both _ _ (λ (x : Sighting). stored_in (replay rows.audit) x.digest ≡ None → HasLength c' x.digest x.size) (λ x kept long none. f.lengths one h.counted x.digest x.size (kept none) (long none)) n.sightings h.sighted before.sighted;
    };
  }

-- ---- a stage is made or dropped
pub IsWhole-stages : (rows : Tables) (n : Notes) (c : Contents) (stages : List StagedBytes) (t : ℕ) → IsWhole rows n c t → IsWhole rows n (record c { stages = stages }) t
IsWhole-stages rows n c stages t = IsWhole-follows c (record c { stages = stages }) (record {
  held = λ d h. h.held;
  live = λ x there later. (there, later);
  true_digests = λ h. h;
  counted = λ h. h;
  fewer = λ one. one;
  lengths = λ one counted d size h long. long;
}) rows n t

-- ---- time passes
-- what is held under a digest of which no removal takes effect
bytes_of-passed : (c : Contents) (xs : List Digest) (d : Digest) → AllByRecursion (λ x. is_eq (digest_cmp d x) ≡ false) xs → bytes_of (fold lapsed c xs) d ≡ bytes_of c d
bytes_of-passed c [] d h = refl
bytes_of-passed c (x ∷ xs) d h = bytes_of-passed (lapsed c x) xs d h.1 ∙ bytes_of-lapsed c x d ∙ ap (λ b. cond b None (bytes_of c d)) h.0

lapsing-passed : (c : Contents) (xs : List Digest) (x : Lapsing) → Contains (fold lapsed c xs).lapsing x → Contains c.lapsing x
lapsing-passed c [] x h = h
lapsing-passed c (d ∷ xs) x h = Contains-passed _ c.lapsing x (lapsing-passed (lapsed c d) xs x h)

held-passed : (P : HeldBlob → Type 0) (c : Contents) (xs : List Digest) → AllByRecursion P c.held → AllByRecursion P (fold lapsed c xs).held
held-passed P c [] h = h
held-passed P c (d ∷ xs) h = held-passed P (lapsed c d) xs (All-passed P _ c.held h)

clock-passed : (c : Contents) (xs : List Digest) → (fold lapsed c xs).clock ≡ c.clock
clock-passed c [] = refl
clock-passed c (d ∷ xs) = clock-passed (lapsed c d) xs

placed-passed : (c : Contents) (xs : List Digest) → (fold lapsed c xs).placed ≡ c.placed
placed-passed c [] = refl
placed-passed c (d ∷ xs) = placed-passed (lapsed c d) xs

-- a digest that is safe is none of those that lapse
safe-other : (c : Contents) (d : Digest) (xs : List Digest) → ¬ (IsLapsing c d) → AllByRecursion (IsLapsing c) xs → AllByRecursion (λ x. is_eq (digest_cmp d x) ≡ false) xs
safe-other c d xs safe = All-weaker (IsLapsing c) (λ x. is_eq (digest_cmp d x) ≡ false) (λ x l.
    elim (is_eq (digest_cmp d x)) as (λ b. is_eq (digest_cmp d x) ≡ b → b ≡ false) [ true ↦ λ e. absurd (safe (subst (IsLapsing c) (sym (digest_cmp-equal d x e)) l)) | false ↦ λ e. refl ] refl) xs

module _ (c : Contents) (now : ℕ) (xs : List Digest) (live : AllByRecursion (IsLapsing c) xs) where
  abbrev later : Contents
  later = at_moment now (fold lapsed c xs)

  same_bytes : (d : Digest) → IsKept c d → bytes_of later d ≡ bytes_of c d
  same_bytes d h = bytes_of-passed c xs d (safe-other c d xs h.safe live)

  Follows-passed : Follows c later
  Follows-passed = record {
    held = λ d h. subst (λ held. IsSomeAnd held (λ bytes. digest_of bytes ≡ d)) (sym (same_bytes d h)) h.held;
    live = λ x there after. (lapsing-passed c xs x there, omega (arith, clock-passed c xs));
    true_digests = held-passed HasDigest c xs;
    counted = λ h. subst (λ placed. AllByRecursion (λ x. Contains placed (record { digest = x.digest; size = length x.bytes })) later.held) (sym (placed-passed c xs)) (held-passed (IsCounted c) c xs h);
    fewer = λ one a b there too same. one a b (subst (λ placed. Contains placed a) (sym (placed-passed c xs)) there) (subst (λ placed. Contains placed b) (sym (placed-passed c xs)) too) same;
    lengths = λ one counted d size h long. subst (λ held. IfSome held (λ bytes. length bytes ≡ size)) (sym (same_bytes d h)) long;
  }

pub IsWhole-found : (rows : Tables) (n : Notes) (c found : Contents) (t now : ℕ) → Finds c now found → IsWhole rows n c t → IsWhole rows n found t
IsWhole-found rows n c found t now finds h = subst (λ c. IsWhole rows n c t) (sym finds.is) (IsWhole-follows c (at_moment now (fold lapsed c finds.digests)) (Follows-passed c now finds.digests finds.live) rows n t h)

-- ---- a content is counted, and held
Follows-counting : (c : Contents) (d : Digest) (bytes : List ℕ) → Follows c (counting d bytes c)
Follows-counting c d bytes = record {
  held = λ q h. h.held;
  live = λ x there after. (there, after);
  true_digests = λ h. h;
  counted = All-weaker (IsCounted c) (IsCounted (counting d bytes c)) (λ x there. Contains-next _ _ c.placed there) c.held;
  fewer = λ one a b there too same. one a b (Contains-next _ a c.placed there) (Contains-next _ b c.placed too) same;
  lengths = λ one counted q size h long. long;
}

-- what holds of each row holds of what is found
pub found_bytes : (P : Digest → List ℕ → Type 0) (d : Digest) (rows : List HeldBlob) (bytes : List ℕ) → AllByRecursion (λ x. P x.digest x.bytes) rows → held_in d rows ≡ Some bytes → P d bytes
found_bytes P d [] bytes h e = cc
found_bytes P d (x ∷ rows) bytes h e =
    elim (is_eq (digest_cmp d x.digest)) as (λ b. is_eq (digest_cmp d x.digest) ≡ b → option_map (λ row. row.bytes) (cond b (Some x) (row_at digest_cmp held_key d rows)) ≡ Some bytes → P d bytes) [
      | true ↦ λ t f. let same : x.bytes ≡ bytes = cc in subst (λ d. P d bytes) (sym (digest_cmp-equal d x.digest t)) (subst (P x.digest) same h.0)
      | false ↦ λ t f. found_bytes P d rows bytes h.1 f
    ] refl e

-- bytes that are as long as what is held under a digest have the length that this has
same_length : (d : Digest) (bytes : List ℕ) (size : ℕ) (held : Option (List ℕ)) → ((b : List ℕ) → held ≡ Some b → length bytes ≡ length b) → IsSomeAnd held (λ b. digest_of b ≡ d) → IfSome held (λ b. length b ≡ size) → length bytes ≡ size
same_length d bytes size None same here long = absurd here
same_length d bytes size (Some b) same here long = same b refl ∙ long

abbrev by_digest : HeldBlob → HeldBlob → Ordering
by_digest a b = digest_cmp a.digest b.digest

module _ (c : Contents) (d : Digest) (bytes : List ℕ) (own : digest_of bytes ≡ d) where
  abbrev after : Contents
  after = holding d bytes (counting d bytes c)

  -- what holds of the bytes that are placed, and held before of the digest's, holds of what is held under it now
  held-after : (P : List ℕ → Type 0) (q : Digest) → (q ≡ d → P bytes) → IfSome (bytes_of c q) P → IfSome (bytes_of after q) P
  held-after P q now before =
      subst (λ held. IfSome held P) (sym (bytes_of-holding c d q bytes))
      (elim (is_eq (digest_cmp q d)) as (λ b. is_eq (digest_cmp q d) ≡ b → IfSome (cond b (Some bytes) (bytes_of c q)) P) [
        | true ↦ λ e. now (digest_cmp-equal q d e)
        | false ↦ λ e. before
      ] refl)

  IsHeld-after : (q : Digest) → IsHeld c q → IsHeld after q
  IsHeld-after q h =
      subst (λ held. IsSomeAnd held (λ b. digest_of b ≡ q)) (sym (bytes_of-holding c d q bytes))
      (elim (is_eq (digest_cmp q d)) as (λ b. is_eq (digest_cmp q d) ≡ b → IsSomeAnd (cond b (Some bytes) (bytes_of c q)) (λ b. digest_of b ≡ q)) [
        | true ↦ λ e. own ∙ sym (digest_cmp-equal q d e)
        | false ↦ λ e. h
      ] refl)

  -- the bytes that are placed are as long as those that were held under their digest
  one_length : OneLength after → AllByRecursion (IsCounted c) c.held → (q : Digest) → q ≡ d → (b : List ℕ) → bytes_of c q ≡ Some b → length bytes ≡ length b
  one_length one counted q same b there =
      let old : Placed = record { digest = q; size = length b } in
      let new : Placed = record { digest = d; size = length bytes } in
      one new old (Contains-first new c.placed) (Contains-next new old c.placed (found_bytes (λ d bytes. Contains c.placed (record { digest = d; size = length bytes })) q c.held b counted there)) (sym same)

  Follows-placed : Follows c after
  Follows-placed = let more = Follows-counting c d bytes in record {
    held = λ q h. IsHeld-after q h.held;
    live = λ x there later. (there, later);
    true_digests = λ h. All-with_row HasDigest by_digest (record { digest = d; bytes = bytes }) c.held own h;
    counted = λ h. All-with_row (IsCounted after) by_digest (record { digest = d; bytes = bytes }) c.held (Contains-first _ c.placed) (more.counted h);
    fewer = more.fewer;
    lengths = λ one counted q size h long. held-after (λ b. length b ≡ size) q (λ same. same_length q bytes size (bytes_of c q) (one_length one counted q same) h.held long) long;
  }

module _ (rows : Tables) (n : Notes) (t : ℕ) where
  pub IsWhole-counting : (c : Contents) (d : Digest) (bytes : List ℕ) → IsWhole rows n c t → IsWhole rows n (counting d bytes c) t
  IsWhole-counting c d bytes = IsWhole-follows c (counting d bytes c) (Follows-counting c d bytes) rows n t

  pub IsWhole-placed : (c : Contents) (d : Digest) (bytes : List ℕ) → digest_of bytes ≡ d → IsWhole rows n c t → IsWhole rows n (holding d bytes (counting d bytes c)) t
  IsWhole-placed c d bytes own = IsWhole-follows c (holding d bytes (counting d bytes c)) (Follows-placed c d bytes own) rows n t
