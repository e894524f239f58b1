use Rattle.std.proofs.Common.{◌≡◌, ◌≤◌, length, drop}
use Rattle.std.specs.List.{filter}
use Rattle.std.specs.Option.{option_copied}
use Rattle.hb_rows.specs.Pages.{is_behind, rows_behind}
use Rattle.hb_rows.proofs.PageRows.{filled}
use Rattle.hb_rows.proofs.keyed.rows_behind.Given as goal

-- the rows so far, filled up with those behind the key that are left, are the page
abbrev pub invariant-loop-row : goal.invariant-loop-row
invariant-loop-row g l = record {
  filled : filled l.page (filter (λ row. is_behind (option_copied l.fn.after) (g.T.Keyed.key_of row)) (drop l.row-index l.fn.rows)) ≡ rows_behind g.T.Keyed.key_of (option_copied l.fn.after) l.fn.rows;
  short : length l.page ≤ 256;
}
