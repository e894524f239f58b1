-- What a plan finds in the rows, and what it decides by it.
use Rattle.std.specs.Prelude.{◌≡◌, ℕ, List, not, is_some, Option, Result, Ok, Err}
use Rattle.std.specs.List.{find}
use Rattle.hb_text.specs.declared.digests.Digest.{Digest}
use Rattle.hb_records.specs.declared.puts.PutAsk.{PutAsk}
use Rattle.hb_rows.specs.Tables.{Tables, project_at, pair_at, artifact_at}
use Rattle.hb_desk.specs.Reply.{Reply, refused}
use Rattle.hb_desk.specs.declared.refusals.Refusal.{Refusal}
use Rattle.hb_plan.specs.declared.planned.Holding.{Holding}
use Rattle.hb_plan.specs.declared.planned.Parts.{Parts}

-- the project's row, and its having the digest
abbrev pub holding_of : Tables → List ℕ → Digest → Holding
holding_of r p d = record { project = project_at r p; pair = pair_at r p d }

-- the first reference that the project hasn't, and the first child that the repository hasn't
abbrev pub first_missing_ref : Tables → List ℕ → List Digest → Option Digest
first_missing_ref r p refs = find (λ d. not (is_some (pair_at r p d))) refs

abbrev pub first_missing_child : Tables → List ℕ → List Digest → Option Digest
first_missing_child r name children = find (λ d. not (is_some (artifact_at r name d))) children

abbrev pub parts_of : Tables → List ℕ → PutAsk → Parts
parts_of r p put = record { missing_ref = first_missing_ref r p put.refs; missing_child = first_missing_child r put.name put.children; held = holding_of r p put.digest }

-- a decision: the reply is the refusal, or what follows of the value that was found
abbrev pub Decides : {A : Type 0} → Reply → (A → Reply) → Result A Refusal → Type 0
Decides reply next (Ok x) = reply ≡ next x
Decides reply next (Err refusal) = reply ≡ refused refusal
