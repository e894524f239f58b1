-- What contracts see of a world, and what always holds of it.
use Rattle.std.specs.Prelude.{◌≡◌, ◌≤◌, ◌^◌, ℕ, true, false, length, is_some, nat_lt, IfSome, Some, None}
use Rattle.std.specs.declared.option.Option.{Option}
use Rattle.std.specs.Option.{option_map}
use Rattle.hb_records.specs.Entries.{LAST_MOMENT}
use Rattle.hb_records.specs.declared.notes.Notes.{Notes}
use Rattle.hb_rows.specs.Tables.{Tables}
use Rattle.hb_store.specs.Contents.{Contents, bytes_of}
use Rattle.hb_text.specs.Digests.{digest_of}
use Rattle.hb_text.specs.declared.digests.Digest.{Digest}
use Rattle.hb_model.specs.History.{Stands, latest}
use Rattle.hb_model.specs.Sound.{OneLength}
use Rattle.hb_model.specs.Whole.{IsWhole}
use Rattle.hb_desk.specs.Clause.{View}
use Rattle.hb_desk.specs.Keeping.{state_of}
use Rattle.hb_plan.specs.BuiltAudits.{AllBuilt, NoneGone}

-- its devices and its notes; how many entries the audit has, and had at the start; the greatest moment so far; and the
-- number of the last entry since the start, or 0
pub record WorldParts (K S : Type 0) : Type 0 where
  pub keeper : K
  pub store : S
  pub notes : Notes
  pub entries : ℕ
  pub moment : ℕ
  pub start : ℕ
  pub last : ℕ

-- a world with what its devices tell in the devices' place
pub record Shown : Type 0 where
  pub rows : Option Tables
  pub contents : Option Contents
  pub keeper_faults : ℕ
  pub store_faults : ℕ
  pub notes : Notes
  pub entries : ℕ
  pub moment : ℕ
  pub start : ℕ
  pub last : ℕ

abbrev pub shown : {K S : Type 0} → (K → Option Tables) → (K → ℕ) → (S → Option Contents) → (S → ℕ) → WorldParts K S → Shown
shown rows keeper_faults contents store_faults w = record {
  rows = rows w.keeper;
  contents = contents w.store;
  keeper_faults = keeper_faults w.keeper;
  store_faults = store_faults w.store;
  notes = w.notes;
  entries = w.entries;
  moment = w.moment;
  start = w.start;
  last = w.last;
}

-- Rows that are told are those of a legal audit with entries of the built kinds alone, and nothing placed is gone.
pub record RowsStand (r : Tables) (w : Shown) : Type 0 where
  pub stands : Stands r
  pub built : AllBuilt r.audit
  pub here : NoneGone w.notes
  pub later : latest r.audit ≤ w.moment
  pub count : w.entries ≡ length r.audit

-- what is held under the digest has it
abbrev pub IsTrueTo : Contents → Digest → Type 0
IsTrueTo c d = IfSome (bytes_of c d) (λ bytes. digest_of bytes ≡ d)

-- each content that is held has its digest
abbrev pub IsTrueStore : Contents → Type 0
IsTrueStore c = (d : Digest) → IsTrueTo c d

-- What every event keeps.
pub record IsWorld (w : Shown) : Type 0 where
  pub rows : IfSome w.rows (λ r. RowsStand r w)
  pub whole : IfSome w.rows (λ r. IfSome w.contents (λ c. IsWhole r w.notes c w.moment))
  pub bytes : IfSome w.contents IsTrueStore
  pub room : w.entries ≤ 2 ^ 62
  pub since : w.start ≤ w.entries
  pub low : w.last ≤ w.entries
  pub past : w.moment ≤ LAST_MOMENT

-- As a desk: each entry since the start is its caller's own, and so is each sealed upload.
abbrev pub view_of : Shown → View
view_of w = record {
  state = option_map (λ r. state_of r w.notes) w.rows;
  events = None;
  entries = w.entries;
  moment = w.moment;
  mine = nat_lt w.start;
  last = w.last;
  sealed = w.notes.sealed;
  keeper_faults = w.keeper_faults;
  store_faults = w.store_faults;
  told_bytes = is_some w.contents;
  sole = true;
  spent = false;
}

-- both devices tell, and no digest stands for two lengths in what the store ever placed
abbrev pub OneLengthTold : Option Tables → Option Contents → Type 0
OneLengthTold (Some r) (Some c) = OneLength c
OneLengthTold (Some r) None = ⊥
OneLengthTold None contents = ⊥
