use Rattle.std.proofs.Common.{is_some, sym, ap, ◌∙◌}
use Rattle.std.specs.Option.{option_copied}
use Rattle.hb_plan.specs.RowRefusals.{stored_size}
use Rattle.hb_plan.proofs.Puts.{put_commits, put-left}
use Rattle.hb_plan.proofs.deciding.puts.Goals as goal

pub returns-in-Ok-clause-decides : goal.returns-in-Ok-clause-decides
returns-in-Ok-clause-decides c r parts blob =
    put-left r c.args.put.now (option_copied c.args.placement) c.in-Some.placement.now c.stored_size-size.result
    (ap (λ x. is_some x.held.project) parts ∙ c.if-is_none.ensures) (ap (λ x. option_copied x) c.in-Some.is) (ap (λ b. stored_size b c.in-Some.placement.now) blob ∙ sym c.stored_size-size.ensures)
    ∙ c.in-Ok.ensures.decides r (put_commits r c.args.put.now c.stored_size-size.result) parts

pub returns-in-Err-clause-decides : goal.returns-in-Err-clause-decides
returns-in-Err-clause-decides c r parts blob =
    put-left r c.args.put.now (option_copied c.args.placement) c.in-Some.placement.now c.stored_size-size.result
    (ap (λ x. is_some x.held.project) parts ∙ c.if-is_none.ensures) (ap (λ x. option_copied x) c.in-Some.is) (ap (λ b. stored_size b c.in-Some.placement.now) blob ∙ sym c.stored_size-size.ensures)
    ∙ c.in-Err.ensures.decides r (put_commits r c.args.put.now c.stored_size-size.result) parts
