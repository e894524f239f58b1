use Rattle.std.proofs.Common.{cond, refl, sym, ap, ◌∙◌, Some, None, codes, arith}
use Rattle.std.specs.Str.{is_utf8}
use Rattle.matchit.specs.Params.{walk}
use Rattle.matchit.specs.Router.{RouteOf}
use Rattle.hb_routes.specs.Resources.{control_named}
use Rattle.hb_routes.specs.Resources.Resource.{Project as NamedProject, Rules as NamedRules, Jobs as NamedJobs, Job as NamedJob}
use Rattle.hb_routes.specs.declared.control_paths.Control.{Control}
use Rattle.hb_routes.specs.declared.control_paths.Control.TheVariants.{Project, Rules, Jobs, Job}
use Rattle.hb_routes.proofs.Captured.{not-text, are-bytes, answered, matched, project-takes, rules-takes, job-takes, named-resource, named-by-part, gave-a-part}
use Rattle.hb_routes.proofs.control_paths.control_resource.Goals as goal

pub returns-in_default : goal.returns-in_default
returns-in_default c = sym (ap (λ t. cond t (control_named c.args.path.now) None) (not-text c.args.path.now (is_utf8 c.args.path.now) c.in_default.ensures.cases.0 refl))

pub returns-in-Err : goal.returns-in-Err
returns-in-Err c =
    let text = c.in-Ok.ensures.cases in
    let small = are-bytes c.args.path.now (λ i. let b = c.type_inv.path i in omega (arith, b)) in
    sym (named-resource c.args.path.now None text.1 (answered c.args.matcher.now c.in-Ok.text.now c.args.path.now None c.requires text.0 c.in-Err.ensures.missing small))

pub returns-in-Jobs : goal.returns-in-Jobs
returns-in-Jobs c =
    let text = c.in-Ok.ensures.cases in
    let small = are-bytes c.args.path.now (λ i. let b = c.type_inv.path i in omega (arith, b)) in
    let found = c.in-Ok-at.found in
    let route : RouteOf Control = record { pattern = found.params.pattern.now; text = found.params.text.now; names = found.params.names.now; value = found.value.now } in
    let agreed = answered c.args.matcher.now c.in-Ok.text.now c.args.path.now (Some route) c.requires text.0 c.in-Ok-at.ensures.found small in
    let is = matched c.args.path.now route Jobs agreed c.in-Jobs.is in
    sym (named-resource c.args.path.now (Some NamedJobs) text.1 (ap control_named is.1))

pub returns-in_err-get-in-Project : goal.returns-in_err-get-in-Project
returns-in_err-get-in-Project c =
    let text = c.in-Ok.ensures.cases in
    let small = are-bytes c.args.path.now (λ i. let b = c.type_inv.path i in omega (arith, b)) in
    let found = c.in-Ok-at.found in
    let route : RouteOf Control = record { pattern = found.params.pattern.now; text = found.params.text.now; names = found.params.names.now; value = found.value.now } in
    let agreed = answered c.args.matcher.now c.in-Ok.text.now c.args.path.now (Some route) c.requires text.0 c.in-Ok-at.ensures.found small in
    let taken = walk route.pattern route.text found.params.path.now route.names 0 0 in
    let takes = project-takes route found.params.path.now c.args.path.now (matched c.args.path.now route Project agreed c.in-Project.is) (c.in-Ok-at.ensures.path ∙ text.0) text.1 in
    absurd (gave-a-part c.args.path.now taken (codes "name") (λ part. NamedProject part) takes c.in_err-get-in-Project.ensures)

pub returns-in_ok-get-in-Project : goal.returns-in_ok-get-in-Project
returns-in_ok-get-in-Project c =
    let text = c.in-Ok.ensures.cases in
    let small = are-bytes c.args.path.now (λ i. let b = c.type_inv.path i in omega (arith, b)) in
    let found = c.in-Ok-at.found in
    let route : RouteOf Control = record { pattern = found.params.pattern.now; text = found.params.text.now; names = found.params.names.now; value = found.value.now } in
    let agreed = answered c.args.matcher.now c.in-Ok.text.now c.args.path.now (Some route) c.requires text.0 c.in-Ok-at.ensures.found small in
    let taken = walk route.pattern route.text found.params.path.now route.names 0 0 in
    let takes = project-takes route found.params.path.now c.args.path.now (matched c.args.path.now route Project agreed c.in-Project.is) (c.in-Ok-at.ensures.path ∙ text.0) text.1 in
    named-by-part c.args.path.now taken (codes "name") c.in_ok-get-in-Project.field-0.now c.as_bytes-name.result.now (λ part. NamedProject part) takes text.1 c.in_ok-get-in-Project.ensures c.as_bytes-name.ensures.value

pub returns-in_err-get-in-Rules : goal.returns-in_err-get-in-Rules
returns-in_err-get-in-Rules c =
    let text = c.in-Ok.ensures.cases in
    let small = are-bytes c.args.path.now (λ i. let b = c.type_inv.path i in omega (arith, b)) in
    let found = c.in-Ok-at.found in
    let route : RouteOf Control = record { pattern = found.params.pattern.now; text = found.params.text.now; names = found.params.names.now; value = found.value.now } in
    let agreed = answered c.args.matcher.now c.in-Ok.text.now c.args.path.now (Some route) c.requires text.0 c.in-Ok-at.ensures.found small in
    let taken = walk route.pattern route.text found.params.path.now route.names 0 0 in
    let takes = rules-takes route found.params.path.now c.args.path.now (matched c.args.path.now route Rules agreed c.in-Rules.is) (c.in-Ok-at.ensures.path ∙ text.0) text.1 in
    absurd (gave-a-part c.args.path.now taken (codes "name") (λ part. NamedRules part) takes c.in_err-get-in-Rules.ensures)

pub returns-in_ok-get-in-Rules : goal.returns-in_ok-get-in-Rules
returns-in_ok-get-in-Rules c =
    let text = c.in-Ok.ensures.cases in
    let small = are-bytes c.args.path.now (λ i. let b = c.type_inv.path i in omega (arith, b)) in
    let found = c.in-Ok-at.found in
    let route : RouteOf Control = record { pattern = found.params.pattern.now; text = found.params.text.now; names = found.params.names.now; value = found.value.now } in
    let agreed = answered c.args.matcher.now c.in-Ok.text.now c.args.path.now (Some route) c.requires text.0 c.in-Ok-at.ensures.found small in
    let taken = walk route.pattern route.text found.params.path.now route.names 0 0 in
    let takes = rules-takes route found.params.path.now c.args.path.now (matched c.args.path.now route Rules agreed c.in-Rules.is) (c.in-Ok-at.ensures.path ∙ text.0) text.1 in
    named-by-part c.args.path.now taken (codes "name") c.in_ok-get-in-Rules.field-0.now c.as_bytes-name-in-Rules.result.now (λ part. NamedRules part) takes text.1 c.in_ok-get-in-Rules.ensures c.as_bytes-name-in-Rules.ensures.value

pub returns-in_err-get-in-Job : goal.returns-in_err-get-in-Job
returns-in_err-get-in-Job c =
    let text = c.in-Ok.ensures.cases in
    let small = are-bytes c.args.path.now (λ i. let b = c.type_inv.path i in omega (arith, b)) in
    let found = c.in-Ok-at.found in
    let route : RouteOf Control = record { pattern = found.params.pattern.now; text = found.params.text.now; names = found.params.names.now; value = found.value.now } in
    let agreed = answered c.args.matcher.now c.in-Ok.text.now c.args.path.now (Some route) c.requires text.0 c.in-Ok-at.ensures.found small in
    let taken = walk route.pattern route.text found.params.path.now route.names 0 0 in
    let takes = job-takes route found.params.path.now c.args.path.now (matched c.args.path.now route Job agreed c.in-Job.is) (c.in-Ok-at.ensures.path ∙ text.0) text.1 in
    absurd (gave-a-part c.args.path.now taken (codes "job") (λ part. NamedJob part) takes c.in_err-get-in-Job.ensures)

pub returns-in_ok-get-in-Job : goal.returns-in_ok-get-in-Job
returns-in_ok-get-in-Job c =
    let text = c.in-Ok.ensures.cases in
    let small = are-bytes c.args.path.now (λ i. let b = c.type_inv.path i in omega (arith, b)) in
    let found = c.in-Ok-at.found in
    let route : RouteOf Control = record { pattern = found.params.pattern.now; text = found.params.text.now; names = found.params.names.now; value = found.value.now } in
    let agreed = answered c.args.matcher.now c.in-Ok.text.now c.args.path.now (Some route) c.requires text.0 c.in-Ok-at.ensures.found small in
    let taken = walk route.pattern route.text found.params.path.now route.names 0 0 in
    let takes = job-takes route found.params.path.now c.args.path.now (matched c.args.path.now route Job agreed c.in-Job.is) (c.in-Ok-at.ensures.path ∙ text.0) text.1 in
    named-by-part c.args.path.now taken (codes "job") c.in_ok-get-in-Job.field-0.now c.as_bytes-id.result.now (λ part. NamedJob part) takes text.1 c.in_ok-get-in-Job.ensures c.as_bytes-id.ensures.value
