-- Words that several definitions use.
use Rattle.std.specs.Prelude.{ℕ, ◌+◌, Bool, false, List, [], ◌∷◌, Option, Some, None, nat_le, if◌then◌else◌}
use Rattle.std.specs.List.{list_any, find}
use Rattle.std.specs.Ordering.{is_eq}
use Rattle.hb_text.specs.declared.digests.Digest.{Digest}
use Rattle.hb_text.specs.Orders.{text_cmp, digest_cmp}
use Rattle.hb_records.specs.Entries.{AuditEntry}
use Rattle.hb_records.specs.declared.entries.EntryKind.{EntryKind}

-- the seconds for which what was pushed or named is safe, and within which a removal may take effect
abbrev pub WINDOW : ℕ
WINDOW = 7200

-- the window since the moment is over at t
abbrev pub is_over : ℕ → ℕ → Bool
is_over moment t = nat_le (moment + WINDOW) t

abbrev pub same_text : List ℕ → List ℕ → Bool
same_text a b = is_eq (text_cmp a b)

abbrev pub same_digest : Digest → Digest → Bool
same_digest a b = is_eq (digest_cmp a b)

abbrev pub among : Digest → List Digest → Bool
among digest digests = list_any (same_digest digest) digests

-- the value's test, and false where there is none
abbrev pub some_and : {A : Type 0} → (A → Bool) → Option A → Bool
some_and test None = false
some_and test (Some x) = test x

-- An audit has its newest entry first. What is newer than the last that passes, or all where none does
abbrev pub since_last : {A : Type 0} → (A → Bool) → List A → List A
since_last test [] = []
since_last test (x ∷ older) = if test x then [] else x ∷ since_last test older

-- what is older than the last that passes
abbrev pub before_last : {A : Type 0} → (A → Bool) → List A → List A
before_last test [] = []
before_last test (x ∷ older) = if test x then older else before_last test older

-- an entry of the kind stands there
abbrev pub has_kind : (EntryKind → Bool) → List AuditEntry → Bool
has_kind test entries = list_any (λ e. test e.kind) entries

-- the newest entry of the kind
abbrev pub last_kind : (EntryKind → Bool) → List AuditEntry → Option AuditEntry
last_kind test = find (λ e. test e.kind)

-- what is newer than it
abbrev pub since_kind : (EntryKind → Bool) → List AuditEntry → List AuditEntry
since_kind test = since_last (λ e. test e.kind)
