-- What the world remembers of uploads: whose stage is out, which are sealed, and which are placed.
use Rattle.std.specs.Prelude.{ℕ, not, ◌&&◌, Bool, List, Option, nat_eq}
use Rattle.std.specs.List.{filter, find, list_any}
use Rattle.hb_text.specs.declared.digests.Digest.{Digest}
use Rattle.hb_records.specs.declared.notes.Notes.{Notes}
use Rattle.hb_records.specs.declared.notes.Sealed.{Sealed}
use Rattle.hb_records.specs.declared.notes.Placement.{Placement}
use Rattle.hb_model.specs.Words.{same_digest}

abbrev pub is_out : Notes → ℕ → Bool
is_out n upload = list_any (nat_eq upload) n.out

abbrev pub is_sealed : ℕ → Sealed → Bool
is_sealed upload x = nat_eq upload x.upload

abbrev pub sealed_at : ℕ → List Sealed → Option Sealed
sealed_at upload = find (is_sealed upload)

-- the upload's placement of this digest
abbrev pub is_placement : ℕ → Digest → Placement → Bool
is_placement upload d x = nat_eq upload x.upload && same_digest d x.digest

abbrev pub placement_of : Notes → ℕ → Digest → Option Placement
placement_of n upload d = find (is_placement upload d) n.placements

abbrev pub without_out : ℕ → List ℕ → List ℕ
without_out upload = filter (λ x. not (nat_eq upload x))

abbrev pub without_sealed : ℕ → List Sealed → List Sealed
without_sealed upload = filter (λ x. not (is_sealed upload x))

abbrev pub without_placement : ℕ → List Placement → List Placement
without_placement upload = filter (λ x. not (nat_eq upload x.upload))
