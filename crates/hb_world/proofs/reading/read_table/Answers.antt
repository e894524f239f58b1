use Rattle.std.proofs.Common.{◌≡◌, IfSome, refl, subst, ◌∙◌, arith}
use Rattle.hb_rows.specs.Pages.{page_of}
use Rattle.hb_rows.specs.Tables.{AreTables}
use Rattle.hb_world.specs.Reading.{IsRead, rows_on}
use Rattle.hb_world.proofs.ReadPages.{told-last, told-next, told-none}
use Rattle.hb_world.proofs.reading.read_table.Goals as goal

pub loop-init : goal.loop-init
loop-init g c = record { same = refl; later = omega arith; told = told-none _ c.args.table c.args.rows.now }

pub loop-preserved : goal.loop-preserved
loop-preserved g c =
    let page = c.in_ok-page.page in
    let told = subst (λ after. IfSome (g.K.Keeper.rows c.loop.keeper) (λ t. page ≡ page_of t c.args.table after)) c.as_ref.ensures.value c.in_ok-page.ensures.told in
    let read = subst (IsRead c.loop.rows c.set_page.new.rows (rows_on page)) c.in-Some.is c.in_ok-key.ensures in
    record {
      same = c.page.ensures.rows ∙ c.loop.invariant.same;
      later = omega (arith, c.page.ensures.cause.later, c.loop.invariant.later);
      told = told-next _ c.args.table c.args.rows.now c.loop.rows c.set_page.new.rows c.loop.after page c.in-Some.key c.loop.invariant.told
          (subst (λ rows. IfSome rows AreTables) c.loop.invariant.same c.page.ensures.tables)
          (subst (λ rows. IfSome rows (λ t. page ≡ page_of t c.args.table c.loop.after)) c.loop.invariant.same told)
          read;
    }

pub returns-in-None-clause-told : goal.returns-in-None-clause-told
returns-in-None-clause-told g c =
    let page = c.in_ok-page.page in
    let told = subst (λ after. IfSome (g.K.Keeper.rows c.loop.keeper) (λ t. page ≡ page_of t c.args.table after)) c.as_ref.ensures.value c.in_ok-page.ensures.told in
    let read = subst (IsRead c.loop.rows c.set_page.new.rows (rows_on page)) c.in-None.is c.in_ok-key.ensures in
    told-last _ c.args.table c.args.rows.now c.loop.rows c.set_page.new.rows c.loop.after page c.loop.invariant.told
    (subst (λ rows. IfSome rows (λ t. page ≡ page_of t c.args.table c.loop.after)) c.loop.invariant.same told)
    read
