-- The rows of an audit are made anew, entry by entry.
use Rattle.std.proofs.Common.{◌≡◌, ℕ, ◌+◌, ◌*◌, ◌^◌, ◌≤◌, ◌<◌, Bool, true, false, not, cond, List, [], ◌∷◌, ◌++◌, Option, Some, None, IfSome, IfNone, length, take, drop, reverse, get_or, sum_by, nat_lt, nat_eq, suc, zero, refl, sym, ap, subst, ◌∙◌, arith}
use Rattle.std.proofs.Math.Seq.{take-suc}
use Rattle.std.proofs.lemmas.List.{reverse-append, reverse-reverse, length-take-le, take_all, take-append-drop}
use Rattle.std.proofs.lemmas.Bool.Decides.{nat_tests}
use Rattle.std.specs.Cmp.{ranks}
use Rattle.std.specs.declared.cmp.Ordering.TheVariants.{Less}
use Rattle.std.proofs.lemmas.List.Folds.{position_or_len_push, prefix_len-append}
use Rattle.std.proofs.lemmas.List.Sums.{sum_by-cons}
use Rattle.std.specs.List.{AllByRecursion, position_or_len, position, prefix_len}
use Rattle.std.specs.Ordering.{nat_cmp, MatchOrdering}
use Rattle.hb_base.specs.Tables.{Rises}
use Rattle.hb_text.specs.Names.{project_of}
use Rattle.hb_records.specs.Entries.{AuditEntry}
use Rattle.hb_records.specs.Orders.{entry_key}
use Rattle.hb_records.specs.declared.batches.Batch.{Batch}
use Rattle.hb_records.specs.declared.entries.EntryKind.{EntryKind}
use Rattle.hb_records.specs.declared.entries.EntryKind.TheVariants.{Associated, ArtifactPut}
use Rattle.hb_records.specs.declared.records.Project.{Project}
use Rattle.hb_rows.specs.Batches.{after_batch}
use Rattle.hb_rows.specs.Tables.{Tables, AreTables, empty_tables, entries, project_at}
use Rattle.hb_model.specs.Built.{is_built, HasRoom}
use Rattle.hb_model.specs.Changes.{changes_of}
use Rattle.hb_model.specs.Effects.{rows_of, after_entry}
use Rattle.hb_model.specs.Fit.{IsInOrder, unbuilt_at, SameToSnaps, FirstAt, TellsMade, TellsFrom, Tells}
use Rattle.hb_model.specs.declared.misfits.Misfit.{Misfit}
use Rattle.hb_model.specs.UsedBound.{added_by, used_in}
use Rattle.hb_model.proofs.Batches.{IsNewest, newest-reverse, batch-entry, rows-audit}
use Rattle.hb_model.proofs.UsedBound.{used-bound}

abbrev pub is_unbuilt : AuditEntry → Bool
is_unbuilt e = not (is_built e.kind)

-- the rows of the first entries, whose kinds are built
pub record Goes (es : List AuditEntry) (i : ℕ) (made : Tables) : Type 0 where
  pub rows : made ≡ rows_of (reverse (take i es))
  pub built : position_or_len is_unbuilt (take i es) ≡ i
  pub bounded : sum_by (λ e. added_by e.kind) (reverse (take i es)) ≤ 2 ^ 64 * i

-- a batch of the entry's changes, made of rows of which it is the newest entry
pub adds-entry : (t new : Tables) (b : Batch) (e : AuditEntry) → b.entry ≡ e → AreTables t → IsNewest e.number t.audit → b.changes ≡ changes_of t e → new ≡ after_batch t b → new ≡ after_entry t e
adds-entry t new b e is tables newest same made = made ∙ batch-entry t b tables (subst (λ x. IsNewest x.number t.audit) (sym is) newest) (same ∙ ap (changes_of t) (sym is)) ∙ ap (after_entry t) is

-- the first entries and the next
next-number : (i : ℕ) → i + 1 ≡ suc i
next-number i = omega arith

one-more : (es : List AuditEntry) (i : ℕ) (e : AuditEntry) → i < length es → e ≡ get_or es i e → take (i + 1) es ≡ take i es ++ e ∷ []
one-more es i e within is = ap (λ n. take n es) (next-number i) ∙ take-suc es i e within ∙ ap (λ x. take i es ++ x ∷ []) (sym is)

next-take : (es : List AuditEntry) (i : ℕ) (e : AuditEntry) → i < length es → e ≡ get_or es i e → reverse (take (i + 1) es) ≡ e ∷ reverse (take i es)
next-take es i e within is = ap reverse (one-more es i e within is) ∙ reverse-append (take i es) (e ∷ [])

-- all that stood before passed, and then the first that doesn't decides
chosen : (a b i c : ℕ) → a ≡ i → b ≡ i → cond (nat_eq a b) (b + c) a ≡ i + c
chosen a b i c e f = let tied : nat_eq a b ≡ true = grind (arith, nat_tests) in ap (λ t. cond t (b + c) a) tied ∙ ap (λ n. n + c) f

stopped : (a b i c : ℕ) → a ≡ i → b ≡ i + 1 → cond (nat_eq a b) c a ≡ i
stopped a b i c e f = let apart : nat_eq a b ≡ false = grind (arith, nat_tests) in ap (λ t. cond t c a) apart ∙ e

unbuilt-next : (es : List AuditEntry) (i : ℕ) (e : AuditEntry) → i < length es → e ≡ get_or es i e → position_or_len is_unbuilt (take i es) ≡ i → position_or_len is_unbuilt (take (i + 1) es) ≡ i + cond (is_unbuilt e) 0 1
unbuilt-next es i e within is built =
    ap (position_or_len is_unbuilt) (one-more es i e within is)
    ∙ position_or_len_push is_unbuilt (take i es) e
    ∙ chosen (position_or_len is_unbuilt (take i es)) (length (take i es)) i (cond (is_unbuilt e) 0 1) built (length-take-le i es (omega (arith, within)))

-- an entry of a kind that is built
pub goes-on : (es : List AuditEntry) (i : ℕ) (made : Tables) (e : AuditEntry) → i < length es → e ≡ get_or es i e → is_built e.kind ≡ true → added_by e.kind < 2 ^ 64 → Goes es i made → Goes es (i + 1) (after_entry made e)
goes-on es i made e within is built small goes = record {
  rows = ap (λ t. after_entry t e) goes.rows ∙ ap rows_of (sym (next-take es i e within is));
  built = unbuilt-next es i e within is goes.built ∙ ap (λ b. i + cond (not b) 0 1) built;
  bounded = subst (λ j. sum_by (λ e. added_by e.kind) j ≤ 2 ^ 64 * (i + 1)) (sym (next-take es i e within is)) (omega (arith, goes.bounded, small, sum_by-cons (λ (x : AuditEntry). added_by x.kind) e (reverse (take i es))));
}

-- what a project uses has room for what the next entry adds
can-add : (x : Option Project) (most size : ℕ) → used_in x ≤ most → most + size < 2 ^ 128 → IfSome x (λ row. row.used + size < 2 ^ 128)
can-add None most size bound small = tt
can-add (Some row) most size bound small = omega (arith, bound, small)

has-room : (t : Tables) (kind : EntryKind) (most : ℕ) → ((p : List ℕ) → used_in (project_at t p) ≤ most) → most + added_by kind < 2 ^ 128 → HasRoom t kind
has-room t (Associated project digest size) most bound small = can-add (project_at t project) most size (bound project) small
has-room t (ArtifactPut name digest size media refs children tag) most bound small = can-add (project_at t (project_of name)) most size (bound (project_of name)) small
has-room t _ most bound small = tt

pub goes-room : (es : List AuditEntry) (i : ℕ) (made : Tables) (kind : EntryKind) → i < 2 ^ 64 → added_by kind < 2 ^ 64 → Goes es i made → HasRoom made kind
goes-room es i made kind few small goes = has-room made kind (2 ^ 64 * i) (λ p. subst (λ t. used_in (project_at t p) ≤ 2 ^ 64 * i) (sym goes.rows) (omega (arith, used-bound (reverse (take i es)) p, goes.bounded))) (omega (arith, few, small))

-- the next entry's number is above those of the entries before it
less-from : (a b : ℕ) → nat_cmp a b ≡ Less → a < b
less-from a b e = subst (λ r. MatchOrdering r (a < b) (a ≡ b) (b < a)) e (ranks a b)

all-at : (P : AuditEntry → Type 0) (es : List AuditEntry) (i : ℕ) (d : AuditEntry) → AllByRecursion P es → i < length es → P (get_or es i d)
all-at P [] i d h within = absurd (omega (arith, within))
all-at P (x ∷ es) zero d h within = h.0
all-at P (x ∷ es) (suc i) d h within = all-at P es i d h.1 (omega (arith, within))

newest-at : (es : List AuditEntry) (i : ℕ) (e : AuditEntry) → Rises nat_cmp entry_key es → i < length es → e ≡ get_or es i e → IsNewest e.number (take i es)
newest-at es zero e rises within is = tt
newest-at [] (suc i) e rises within is = tt
newest-at (x ∷ es) (suc i) e rises within is = (
  less-from x.number e.number (subst (λ y. nat_cmp x.number y.number ≡ Less) (sym is) (all-at (λ y. nat_cmp x.number y.number ≡ Less) es i e rises.0 (omega (arith, within)))),
  newest-at es i e rises.1 (omega (arith, within)) is,
)

pub goes-newest : (es : List AuditEntry) (i : ℕ) (made : Tables) (e : AuditEntry) → Rises nat_cmp entry_key es → i < length es → e ≡ get_or es i e → Goes es i made → IsNewest e.number made.audit
goes-newest es i made e rises within is goes =
    subst (IsNewest e.number) (sym (ap (λ (t : Tables). t.audit) goes.rows ∙ rows-audit (reverse (take i es)))) (newest-reverse e.number (take i es) (newest-at es i e rises within is))

-- where an entry of a kind that isn't built stands
placed-at : (n i most : ℕ) → n ≡ i → i < most → cond (nat_lt n most) (Some n) None ≡ Some i
placed-at n i most e less = let within : nat_lt n most ≡ true = grind (arith, nat_tests) in ap (λ t. cond t (Some n) None) within ∙ ap Some e

pub goes-unbuilt : (es : List AuditEntry) (i : ℕ) (made : Tables) (e : AuditEntry) → i < length es → e ≡ get_or es i e → is_built e.kind ≡ false → Goes es i made → position is_unbuilt es ≡ Some i
goes-unbuilt es i made e within is unbuilt goes =
    let front = take (i + 1) es in
    let here : position_or_len is_unbuilt front ≡ i = unbuilt-next es i e within is goes.built ∙ ap (λ b. i + cond (not b) 0 1) unbuilt ∙ omega arith in
    placed-at (position_or_len is_unbuilt es) i (length es)
    (ap (position_or_len is_unbuilt) (sym (take-append-drop (i + 1) es))
    ∙ prefix_len-append (λ x. not (is_unbuilt x)) front (drop (i + 1) es)
    ∙ stopped (position_or_len is_unbuilt front) (length front) i (length front + prefix_len (λ x. not (is_unbuilt x)) (drop (i + 1) es)) here (length-take-le (i + 1) es (omega (arith, within))))
    within

-- all entries
no-place : (n most : ℕ) → most ≤ n → cond (nat_lt n most) (Some n) None ≡ None
no-place n most more = let past : nat_lt n most ≡ false = grind (arith, nat_tests) in ap (λ t. cond t (Some n) None) past

pub goes-whole : (t : Tables) (i : ℕ) (made : Tables) → length (entries t) ≤ i → Goes (entries t) i made → (position is_unbuilt (entries t) ≡ None) × (made ≡ rows_of t.audit)
goes-whole t i made whole goes =
    let es = entries t in
    let all = take_all i es whole in (
      no-place (position_or_len is_unbuilt es) (length es) (omega (arith, whole, sym (ap (position_or_len is_unbuilt) all) ∙ goes.built)),
      goes.rows ∙ ap (λ xs. rows_of (reverse xs)) all ∙ ap rows_of (reverse-reverse t.audit),
    )

pub goes-start : (es : List AuditEntry) → Goes es 0 empty_tables
goes-start es = record { rows = refl; built = refl; bounded = omega arith }

-- ---- what is told of the rows
same-tables : (t made : Tables) → SameToSnaps t made → t.audit ≡ made.audit → t ≡ made
same-tables t made h audit = λ i. record {
  projects = h.0.0.0.0.0.0.0.0 i;
  blobs = h.0.0.0.0.0.0.0.1 i;
  pairs = h.0.0.0.0.0.0.1 i;
  artifacts = h.0.0.0.0.0.1 i;
  tags = h.0.0.0.0.1 i;
  uploads = h.0.0.0.1 i;
  jobs = h.0.0.1 i;
  candidates = h.0.1 i;
  snaps = h.1 i;
  audit = audit i;
}

told-made : (t made : Tables) (found : Option Misfit) → unbuilt_at t ≡ None → made ≡ rows_of t.audit → IfNone found (SameToSnaps t made × IsInOrder (reverse (entries t))) → IfSome found (λ m. FirstAt m.table m.place t made) → TellsMade t found
told-made t made None built is none some = record {
  built = built;
  made = same-tables t made none.0 (sym (ap (λ (u : Tables). u.audit) is ∙ rows-audit t.audit)) ∙ is;
  ordered = subst IsInOrder (reverse-reverse t.audit) none.1;
}
told-made t made (Some m) built is none some = subst (FirstAt m.table m.place t) is some

pub told : (t made : Tables) (found : Option Misfit) → unbuilt_at t ≡ None → made ≡ rows_of t.audit → IfNone found (SameToSnaps t made × IsInOrder (reverse (entries t))) → IfSome found (λ m. FirstAt m.table m.place t made) → Tells t found
told t made found built is none some = subst (λ before. TellsFrom before t found) (sym built) (told-made t made found built is none some)
