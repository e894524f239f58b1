use Rattle.std.proofs.Common.{ap, arith, length, subst, Ok, Err}
use Rattle.hb_http.specs.Parts.{HoldsNoPart}
use Rattle.hb_http.specs.Told.{IsToldAt}
use Rattle.hb_http.specs.declared.places.Place.TheVariants.{Between}
use Rattle.hb_http.proofs.PartLemmas.{gives_fault, gives_head}
use Rattle.hb_http.proofs.session.Session.part_between.Goals as goal

pub go_on-requires-clause-fits : goal.go_on-requires-clause-fits
go_on-requires-clause-fits c =
    let told : IsToldAt c.waiting.result.now c.in-Ok-Some.head c.in-Ok-Some.len = c.in-Ok-Some.ensures.head _ _ (ap Ok c.in-Ok-Some.field-0-is) in
    let within = told.within in
    let same = ap length c.waiting.ensures in
    omega arith

pub no_head-requires-clause-none : goal.no_head-requires-clause-none
no_head-requires-clause-none c = subst (HoldsNoPart Between) c.waiting.ensures (c.in-Ok-None.ensures.more (ap Ok c.in-Ok-None.field-0-is))

pub returns-in-Ok-Some : goal.returns-in-Ok-Some
returns-in-Ok-Some c =
    let told : IsToldAt c.waiting.result.now c.in-Ok-Some.head c.in-Ok-Some.len = c.in-Ok-Some.ensures.head _ _ (ap Ok c.in-Ok-Some.field-0-is) in
    gives_head c.args.self.now _ _ _ _ _ c.waiting.ensures c.requires told c.body_place.ensures c.go_on.ensures

pub returns-in-Err : goal.returns-in-Err
returns-in-Err c = gives_fault c.args.self.now _ _ c.in-Err.fault c.waiting.ensures c.requires c.stay.ensures
    (λ e. c.in-Err.ensures.bad (ap Err e)) (λ e. c.in-Err.ensures.many (ap Err e)) (λ e. c.in-Err.ensures.long (ap Err e)) (λ e. c.in-Err.ensures.not_cut (ap Err e))
