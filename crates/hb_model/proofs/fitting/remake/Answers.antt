use Rattle.std.proofs.Common.{◌≡◌, ◌<◌, ◌+◌, ◌^◌, Some, subst, sym, ap, ◌∙◌, arith}
use Rattle.std.specs.List.{position}
use Rattle.std.specs.Ordering.{nat_cmp}
use Rattle.hb_base.specs.Tables.{Rises}
use Rattle.hb_records.specs.Entries.{AuditEntry}
use Rattle.hb_records.specs.Orders.{entry_key}
use Rattle.hb_model.specs.UsedBound.{added_by}
use Rattle.hb_model.proofs.Remaking.{Goes, is_unbuilt, goes-on, goes-room, goes-newest, goes-unbuilt}
use Rattle.hb_model.proofs.fitting.remake.Goals as goal

pub add_entry-requires-clause-room : goal.add_entry-requires-clause-room
add_entry-requires-clause-room c =
    let small : added_by c.entry-item.result.kind < 2 ^ 64 = subst (λ (x : AuditEntry). added_by x.kind < 2 ^ 64) c.entry.view_is (omega (arith, c.added_by-added.ensures, c.added_by-added.type_inv)) in
    goes-room c.entries-entry-items.result.now c.loop-entry.entry-index c.loop-entry.made c.entry-item.result.kind (omega (arith, c.loop-entry.invariant.counted, c.loop-entry.auto.place-fits)) small c.loop-entry.invariant.goes

pub add_entry-requires-clause-newest : goal.add_entry-requires-clause-newest
add_entry-requires-clause-newest c = goes-newest c.entries-entry-items.result.now c.loop-entry.entry-index c.loop-entry.made c.entry-item.result (subst (Rises nat_cmp entry_key) (sym c.loop-entry.invariant.items) c.keys_rise.ensures.audit) c.loop-entry-test.true c.entry-item.is c.loop-entry.invariant.goes

pub returns-then-not-branch : goal.returns-then-not-branch
returns-then-not-branch c = (
  c.loop-entry.entry-index,
  omega (arith, c.loop-entry.invariant.counted),
  subst (λ es. position is_unbuilt es ≡ Some c.loop-entry.entry-index) c.loop-entry.invariant.items
      (goes-unbuilt c.entries-entry-items.result.now c.loop-entry.entry-index c.loop-entry.made c.entry-item.result c.loop-entry-test.true c.entry-item.is (sym c.in_ok-add_entry.ensures.built ∙ c.if-not-branch.true) c.loop-entry.invariant.goes),
)

pub loop-entry-preserved : goal.loop-entry-preserved
loop-entry-preserved c = record {
  goes = subst (Goes c.entries-entry-items.result.now (c.loop-entry.entry-index + 1)) (sym (c.in_ok-add_entry.ensures.made c.if-not-branch.false))
      (goes-on c.entries-entry-items.result.now c.loop-entry.entry-index c.loop-entry.made c.entry-item.result c.loop-entry-test.true c.entry-item.is (sym c.in_ok-add_entry.ensures.built ∙ c.if-not-branch.false) (subst (λ (x : AuditEntry). added_by x.kind < 2 ^ 64) c.entry.view_is (omega (arith, c.added_by-added.ensures, c.added_by-added.type_inv))) c.loop-entry.invariant.goes);
  counted = ap (λ n. n + 1) c.loop-entry.invariant.counted;
  items = c.loop-entry.invariant.items;
}
