use Rattle.hb_records.proofs.KeyOrders.{named_digest_cmp-order, named_tag_cmp-order, job_digest_cmp-order, job_tag_cmp-order}
use Rattle.hb_records.proofs.laws.keys_are_in_total_order.Goals as goal

pub returns-clause-named_digests : goal.returns-clause-named_digests
returns-clause-named_digests c = named_digest_cmp-order

pub returns-clause-named_tags : goal.returns-clause-named_tags
returns-clause-named_tags c = named_tag_cmp-order

pub returns-clause-job_digests : goal.returns-clause-job_digests
returns-clause-job_digests c = job_digest_cmp-order

pub returns-clause-job_tags : goal.returns-clause-job_tags
returns-clause-job_tags c = job_tag_cmp-order
