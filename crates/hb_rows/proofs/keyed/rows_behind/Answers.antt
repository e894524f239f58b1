use Rattle.std.proofs.Common.{rules, length-append, ◌<◌, Bool, ◌+◌, ◌≡◌, ◌∷◌, [], ◌++◌, length, ap, ◌∙◌, arith, drop}
use Rattle.std.specs.List.{filter}
use Rattle.std.specs.Option.{option_copied}
use Rattle.hb_rows.specs.Pages.{is_behind}
use Rattle.hb_rows.proofs.PageRows.{filled, filled_taken, filled_passed}
use Rattle.hb_rows.proofs.keyed.rows_behind.Goals.{then-is_behind+in_ok-copy+in_ok-push, else-is_behind}
use Rattle.hb_rows.proofs.keyed.rows_behind.Goals as goal

pub loop-row-preserved : goal.loop-row-preserved
loop-row-preserved g c =
    let p : g.row.T.Denot → Bool = λ row. is_behind (option_copied c.args.after) (g.T.Keyed.key_of row) in
    let rest = filter p (drop (c.loop-row.row-index + 1) c.args.rows.now) in
    elim c.if-is_behind.branch [
      | then-is_behind+in_ok-copy+in_ok-push w ↦
          let page : c.if-is_behind.page ≡ c.loop-row.page ++ c.row-item.result ∷ [] = w.page-is ∙ w.in_ok-push.ensures.ok ∙ ap (λ y. c.loop-row.page ++ y ∷ []) w.in_ok-copy.ensures in
          let room : length c.loop-row.page < 256 = search rules in
          record {
            filled = ap (λ xs. filled xs rest) page ∙ filled_taken p c.loop-row.page c.args.rows.now c.loop-row.row-index c.row-item.result (search rules) c.row-item.is (search rules) room ∙ c.loop-row.invariant.filled;
            short = omega (arith, room, ap length page, length-append c.loop-row.page (c.row-item.result ∷ []));
          }
      | else-is_behind w ↦ record {
        filled = ap (λ xs. filled xs rest) w.page-is ∙ filled_passed p c.loop-row.page c.args.rows.now c.loop-row.row-index c.row-item.result (search rules) c.row-item.is (search rules) ∙ c.loop-row.invariant.filled;
        short = search rules;
      }
    ]
