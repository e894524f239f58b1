-- What a call of the store leaves of its contents.
use Rattle.std.specs.Prelude.{◌≡◌, ℕ, [], Some, None, IsSome, IsSomeAnd}
use Rattle.std.specs.declared.option.Option.{Option}
use Rattle.hb_text.specs.declared.digests.Digest.{Digest}
use Rattle.hb_records.specs.declared.notes.Notes.{Notes}
use Rattle.hb_rows.specs.Tables.{Tables}
use Rattle.hb_store.specs.Contents.{Contents, bytes_of}
use Rattle.hb_model.specs.Whole.{IsWhole}
use Rattle.hb_world.specs.Worlds.{IsTrueTo}

abbrev pub IsHeld : Contents → Digest → Type 0
IsHeld c d = IsSome (bytes_of c d)

-- what was true still is; and where no removal was lapsing none is, and what was held still is; and whatever fitted the
-- store still does, rows with what a world remembers
pub record StillHolds (c c' : Contents) : Type 0 where
  pub true_still : (d : Digest) → IsTrueTo c d → IsTrueTo c' d
  pub none_lapsing : c.lapsing ≡ [] → c'.lapsing ≡ []
  pub held_still : c.lapsing ≡ [] → (d : Digest) → IsHeld c d → IsHeld c' d
  pub whole_still : (rows : Tables) (n : Notes) (t : ℕ) → IsWhole rows n c t → IsWhole rows n c' t

-- a store that tells its contents still holds, and goes on telling
abbrev pub Stands : Option Contents → Option Contents → Type 0
Stands None new = new ≡ None
Stands (Some c) new = IsSomeAnd new (StillHolds c)
