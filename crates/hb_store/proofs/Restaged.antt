-- What an upload's stage has once it was set.
use Rattle.std.proofs.Common.{◌≡◌, ℕ, cond, List, length, Option, Some, option_map, unwrap_or, [], sym, ap, ◌∙◌}
use Rattle.std.specs.Ordering.{nat_cmp, is_eq}
use Rattle.std.proofs.lemmas.Cmp.{tied_itself, nat_cmp_total}
use Rattle.hb_base.specs.Tables.{row_at, with_row}
use Rattle.hb_base.proofs.TableLaws.{row_at-with}
use Rattle.hb_store.specs.Contents.{stage_key, staged_in}
use Rattle.hb_store.specs.declared.rows.StagedBytes.{StagedBytes}

-- the bytes that were set
pub staged_in-with_row : (id : ℕ) (bytes : List ℕ) (stages : List StagedBytes) → staged_in id (with_row nat_cmp stage_key (record { id = id; bytes = bytes }) stages) ≡ bytes
staged_in-with_row id bytes stages =
    ap (λ (found : Option StagedBytes). unwrap_or (option_map (λ row. row.bytes) found) []) (row_at-with nat_cmp_total stage_key id (record { id = id; bytes = bytes }) stages)
    ∙ ap (λ o. unwrap_or (option_map (λ row. row.bytes) (cond (is_eq o) (Some (record { id = id; bytes = bytes })) (row_at nat_cmp stage_key id stages))) []) (tied_itself nat_cmp_total id)

-- a stage of as many bytes as were asked for, and the store's row of it
pub Stages-with_row : (id keep : ℕ) (bytes kept : List ℕ) (old new : List StagedBytes) → new ≡ with_row nat_cmp stage_key (record { id = id; bytes = kept }) old → bytes ≡ kept → length bytes ≡ keep → (Some bytes ≡ Some (staged_in id new)) × (length (staged_in id new) ≡ keep)
Stages-with_row id keep bytes kept old new set same long =
    let is : staged_in id new ≡ bytes = ap (staged_in id) set ∙ staged_in-with_row id kept old ∙ sym same in
    (ap Some (sym is), ap length is ∙ long)
