use Rattle.hb_text.proofs.KeyOrders.{text_cmp-order, digest_cmp-order}
use Rattle.hb_text.proofs.orders.keys_are_in_total_order.Goals as goal

pub returns-clause-texts : goal.returns-clause-texts
returns-clause-texts c = text_cmp-order

pub returns-clause-digests : goal.returns-clause-digests
returns-clause-digests c = digest_cmp-order
