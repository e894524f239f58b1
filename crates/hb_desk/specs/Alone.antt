-- What contracts see of a caller that isn't alone.
use Rattle.std.specs.Prelude.{◌≡◌, ◌≤◌, ℕ, Bool, false, List, Some, None, nat_eq}
use Rattle.std.specs.List.{list_any}
use Rattle.hb_records.specs.declared.notes.Sealed.{Sealed}
use Rattle.hb_desk.specs.Clause.{View}
use Rattle.hb_desk.specs.Notes.{sealed_at}

-- a desk, others that act on it, and what the caller did itself: the numbers of its entries, the last of them, and
-- what it sealed and hasn't placed
pub record AloneParts (D X : Type 0) : Type 0 where
  pub desk : D
  pub others : X
  pub own : List ℕ
  pub last : ℕ
  pub sealed : List Sealed

abbrev pub is_own : List ℕ → ℕ → Bool
is_own own n = list_any (nat_eq n) own

-- The desk's view, with what is the caller's own, and with others. What the desk tells of events is theirs too, so that the
-- caller's own aren't told.
abbrev pub alone_view : View → List ℕ → ℕ → List Sealed → View
alone_view v own last sealed = record {
  state = v.state;
  events = None;
  entries = v.entries;
  moment = v.moment;
  mine = is_own own;
  last = last;
  sealed = sealed;
  keeper_faults = v.keeper_faults;
  store_faults = v.store_faults;
  told_bytes = v.told_bytes;
  sole = false;
  spent = v.spent;
}

-- what is always known of such a caller: its last number is one of an entry, and what it sealed the desk has sealed
pub record AloneKnows (v : View) (last : ℕ) (sealed : List Sealed) : Type 0 where
  pub low : last ≤ v.entries
  pub own : (u : ℕ) (x : Sealed) → sealed_at u sealed ≡ Some x → sealed_at u v.sealed ≡ Some x
