-- The rows of control paths answer what the definition says: a front, one part, an end.
use Rattle.std.proofs.Common.{◌≡◌, ◌≢◌, ◌⊎◌, inl, inr, ℕ, ◌-◌, ◌<◌, Bool, true, false, cond, List, [], ◌∷◌, ◌++◌, length, refl, sym, ap, subst, ◌∙◌, eqb, nat_eq, Option, Some, None, option_map, option_and_then, arith, codes, lit<}
use Rattle.std.proofs.lemmas.Bool.{false≢true}
use Rattle.std.proofs.lemmas.Bool.Decides.{nat_tests}
use Rattle.matchit.specs.Rows.{RowsOf}
use Rattle.matchit.specs.Router.{RouteOf}
use Rattle.matchit.specs.Seek.{first, seek, or_else, param_step}
use Rattle.hb_routes.specs.ControlRows.{control_rows}
use Rattle.hb_routes.specs.Cuts.{is_same, behind_front, before_end}
use Rattle.hb_routes.specs.Resources.{Resource, is_part, part_between, either, control_named}
use Rattle.hb_routes.specs.Resources.Resource.{Project as NamedProject, Rules as NamedRules, Jobs as NamedJobs, Job as NamedJob}
use Rattle.hb_routes.specs.declared.control_paths.Control.{Control}
use Rattle.hb_routes.specs.declared.control_paths.Control.TheVariants.{Project, Rules, Jobs, Job}
use Rattle.hb_routes.proofs.Fronts.{behind-front, has-front, longer-front, other-text, before-nothing, before-end, has-end, of-part, part-plain, part-slashed, slashed-append, first-slash, one-slash}
use Rattle.hb_routes.proofs.Matching.{AreBytes, under, under_front, seek-nil, param_step-nil, or_else-none, first-under_front, first-two}
use Rattle.hb_routes.proofs.Parameters.{slashed, first-ended, first-ended_nil, one-nil, one-plain, one-slashed, two-nil, two-plain, two-empty, two-part}

-- ---- the rows
-- what the router keeps of a pattern
unfoldable pub route_to : Control → RouteOf Control
route_to Project = record { pattern = codes "/harbor/projects/" ++ 256 ∷ []; text = codes "/harbor/projects/{name}"; names = (18, 22) ∷ []; value = Project }
route_to Rules = record { pattern = codes "/harbor/projects/" ++ 256 ∷ codes "/rules"; text = codes "/harbor/projects/{name}/rules"; names = (18, 22) ∷ []; value = Rules }
route_to Jobs = record { pattern = codes "/harbor/jobs"; text = codes "/harbor/jobs"; names = []; value = Jobs }
route_to Job = record { pattern = codes "/harbor/jobs/" ++ 256 ∷ []; text = codes "/harbor/jobs/{job}"; names = (14, 17) ∷ []; value = Job }

-- the rows behind `/harbor/projects/`, behind `/harbor/jobs`, and behind `/harbor/`
abbrev project_rows : RowsOf (RouteOf Control)
project_rows = (256 ∷ codes "/rules", route_to Rules) ∷ (256 ∷ [], route_to Project) ∷ []

abbrev job_rows : RowsOf (RouteOf Control)
job_rows = (47 ∷ 256 ∷ [], route_to Job) ∷ ([], route_to Jobs) ∷ []

abbrev harbor_rows : RowsOf (RouteOf Control)
harbor_rows = under 106 (under_front (codes "obs") job_rows) ++ under 112 (under_front (codes "rojects/") project_rows)

are-rows : control_rows ≡ under_front (codes "/harbor/") harbor_rows
unfolding route_to
are-rows = refl

-- ---- what the rows answer
first-harbor : (path : List ℕ) → first control_rows path ≡ option_and_then (first harbor_rows) (behind_front (codes "/harbor/") path)
first-harbor path = ap (λ rs. first rs path) are-rows ∙ first-under_front (codes "/harbor/") harbor_rows path (lit< tt, (lit< tt, (lit< tt, (lit< tt, (lit< tt, (lit< tt, (lit< tt, (lit< tt, tt))))))))

first-inner : (rest : List ℕ) → first harbor_rows rest ≡ or_else (option_and_then (first job_rows) (behind_front (codes "jobs") rest)) (option_and_then (first project_rows) (behind_front (codes "projects/") rest))
first-inner rest =
    let apart : 106 ≢ 112 = λ (e : 106 ≡ 112). false≢true (sym (ap (eqb 106) e)) in
    first-two 106 112 (under_front (codes "obs") job_rows) (under_front (codes "rojects/") project_rows) rest (lit< tt) (lit< tt) apart
    ∙ ap (λ o. or_else o (first (under 112 (under_front (codes "rojects/") project_rows)) rest)) (first-under_front (codes "jobs") job_rows rest (lit< tt, (lit< tt, (lit< tt, (lit< tt, tt)))))
    ∙ ap (or_else (option_and_then (first job_rows) (behind_front (codes "jobs") rest))) (first-under_front (codes "projects/") project_rows rest (lit< tt, (lit< tt, (lit< tt, (lit< tt, (lit< tt, (lit< tt, (lit< tt, (lit< tt, (lit< tt, tt))))))))))

-- behind `/harbor/jobs`
first-jobs : (b : ℕ) (id : List ℕ) (v : Bool) → b < 256 → eqb 47 b ≡ v → first job_rows (b ∷ id) ≡ cond v (first ((256 ∷ [], route_to Job) ∷ []) id) None
unfolding seek
first-jobs b id true small e =
    let taken = (param_step {K = RouteOf Control} [] (b ∷ id)).0 - 1 in
    rw (e, param_step-nil {K = RouteOf Control} (b ∷ id), seek-nil {K = RouteOf Control} taken id) (or_else-none (seek 0 ((256 ∷ [], route_to Job) ∷ []) id))
first-jobs b id false small e =
    let taken = (param_step {K = RouteOf Control} [] (b ∷ id)).0 - 1 in
    rw (e, param_step-nil {K = RouteOf Control} (b ∷ id), seek-nil {K = RouteOf Control} taken id, seek-nil {K = RouteOf Control} 0 id) refl

-- ---- what the definition says
-- the definition, by what stands between the fronts and ends
abbrev chosen : Option (List ℕ) → Option (List ℕ) → Bool → Option (List ℕ) → Option Resource
chosen project rules jobs job =
    either (option_map (λ name. NamedProject name) project) (either (option_map (λ name. NamedRules name) rules) (either (cond jobs (Some NamedJobs) None) (option_map (λ id. NamedJob id) job)))

by-parts : (path : List ℕ) (a b : Option (List ℕ)) (t : Bool) (d : Option (List ℕ))
    → part_between (codes "/harbor/projects/") [] path ≡ a
    → part_between (codes "/harbor/projects/") (codes "/rules") path ≡ b
    → is_same path (codes "/harbor/jobs") ≡ t
    → part_between (codes "/harbor/jobs/") [] path ≡ d
    → control_named path ≡ chosen a b t d
by-parts path a b t d ea eb et ed =
    ap (λ z. chosen z (part_between (codes "/harbor/projects/") (codes "/rules") path) (is_same path (codes "/harbor/jobs")) (part_between (codes "/harbor/jobs/") [] path)) ea
    ∙ ap (λ z. chosen a z (is_same path (codes "/harbor/jobs")) (part_between (codes "/harbor/jobs/") [] path)) eb
    ∙ ap (λ z. chosen a b z (part_between (codes "/harbor/jobs/") [] path)) et
    ∙ ap (chosen a b t) ed

-- a text that is one part
abbrev one : List ℕ → Option (List ℕ)
one s = cond (is_part s) (Some s) None

-- behind a front that the path hasn't
no-front : (front end path : List ℕ) → behind_front front path ≡ None → part_between front end path ≡ None
no-front front end path none = ap (option_and_then (λ rest. option_and_then one (before_end end rest))) none

-- behind a front that it has
at-front : (front end rest : List ℕ) → part_between front end (front ++ rest) ≡ option_and_then one (before_end end rest)
at-front front end rest = ap (option_and_then (λ rest. option_and_then one (before_end end rest))) (behind-front front rest)

all-between : (front rest : List ℕ) → part_between front [] (front ++ rest) ≡ one rest
all-between front rest = at-front front [] rest ∙ ap (option_and_then one) (before-nothing rest)

-- a path with none of the fronts names nothing
no-fronts : (path : List ℕ) → behind_front (codes "/harbor/projects/") path ≡ None → is_same path (codes "/harbor/jobs") ≡ false → behind_front (codes "/harbor/jobs/") path ≡ None → control_named path ≡ None
no-fronts path projects jobs job =
    by-parts path None None false None
    (no-front (codes "/harbor/projects/") [] path projects)
    (no-front (codes "/harbor/projects/") (codes "/rules") path projects)
    jobs
    (no-front (codes "/harbor/jobs/") [] path job)

-- one part behind `/harbor/projects/`
pub project-named : (name : List ℕ) → is_part name ≡ true → control_named (codes "/harbor/projects/" ++ name) ≡ Some (NamedProject name)
project-named name part =
    let path = codes "/harbor/projects/" ++ name in
    by-parts path (Some name) (part_between (codes "/harbor/projects/") (codes "/rules") path) (is_same path (codes "/harbor/jobs")) (part_between (codes "/harbor/jobs/") [] path)
    (all-between (codes "/harbor/projects/") name ∙ ap (λ t. cond t (Some name) None) part) refl refl refl

-- one part between `/harbor/projects/` and `/rules`
pub rules-named : (name : List ℕ) → is_part name ≡ true → control_named (codes "/harbor/projects/" ++ (name ++ codes "/rules")) ≡ Some (NamedRules name)
rules-named name part =
    let rest = name ++ codes "/rules" in
    let path = codes "/harbor/projects/" ++ rest in
    by-parts path None (Some name) (is_same path (codes "/harbor/jobs")) (part_between (codes "/harbor/jobs/") [] path)
    (all-between (codes "/harbor/projects/") rest ∙ ap (λ t. cond t (Some rest) None) (part-slashed rest (slashed-append name (codes "rules"))))
    (at-front (codes "/harbor/projects/") (codes "/rules") rest ∙ ap (option_and_then one) (before-end name (codes "/rules")) ∙ ap (λ t. cond t (Some name) None) part)
    refl refl

pub job-named : (id : List ℕ) → is_part id ≡ true → control_named (codes "/harbor/jobs/" ++ id) ≡ Some (NamedJob id)
job-named id part =
    let path = codes "/harbor/jobs/" ++ id in
    by-parts path None None false (Some id) refl refl refl (all-between (codes "/harbor/jobs/") id ∙ ap (λ t. cond t (Some id) None) part)

-- several parts behind `/harbor/jobs/`
jobs-slashed : (id : List ℕ) → slashed id ≡ true → control_named (codes "/harbor/jobs/" ++ id) ≡ None
jobs-slashed id more =
    let path = codes "/harbor/jobs/" ++ id in
    by-parts path None None false None refl refl refl (all-between (codes "/harbor/jobs/") id ∙ ap (λ t. cond t (Some id) None) (part-slashed id more))

-- several parts behind `/harbor/projects/`, which aren't one and `rules`
projects-slashed : (rest : List ℕ) → slashed rest ≡ true → ((name : List ℕ) → rest ≡ name ++ codes "/rules" → is_part name ≡ false) → control_named (codes "/harbor/projects/" ++ rest) ≡ None
projects-slashed rest more none =
    let path = codes "/harbor/projects/" ++ rest in
    let rules : option_and_then one (before_end (codes "/rules") rest) ≡ None =
    elim (has-end (codes "/rules") rest) [
      | inl e ↦ ap (option_and_then one) e
      | inr e ↦ ap (option_and_then one) e.2 ∙ ap (λ t. cond t (Some e.0) None) (none e.0 e.1)
    ] in
    by-parts path None None false None
    (all-between (codes "/harbor/projects/") rest ∙ ap (λ t. cond t (Some rest) None) (part-slashed rest more))
    (at-front (codes "/harbor/projects/") (codes "/rules") rest ∙ rules)
    refl refl

-- ---- the rows and the definition agree
-- what the path of a pattern is
abbrev pub IsOf : Control → List ℕ → Type 0
IsOf Project path = (name : List ℕ) × (path ≡ codes "/harbor/projects/" ++ name) × (is_part name ≡ true)
IsOf Rules path = (name : List ℕ) × (path ≡ codes "/harbor/projects/" ++ (name ++ codes "/rules")) × (is_part name ≡ true)
IsOf Jobs path = path ≡ codes "/harbor/jobs"
IsOf Job path = (id : List ℕ) × (path ≡ codes "/harbor/jobs/" ++ id) × (is_part id ≡ true)

-- the answer of the rows: none where the path names nothing, and else a pattern whose path it is
abbrev pub Agrees : List ℕ → Option (RouteOf Control) → Type 0
Agrees path None = control_named path ≡ None
Agrees path (Some route) = (control : Control) × (route ≡ route_to control) × IsOf control path

-- an answer that is known
agrees-at : (path : List ℕ) (found answer : Option (RouteOf Control)) → found ≡ answer → Agrees path answer → Agrees path found
agrees-at path found answer e h = subst (Agrees path) (sym e) h

-- ---- behind `/harbor/projects/`: several parts, the first of which isn't empty
module _ (b : ℕ) (part tail : List ℕ) (plain : slashed (b ∷ part) ≡ false) where
  abbrev rules_path : List ℕ
  rules_path = codes "/harbor/projects/" ++ (b ∷ part ++ 47 ∷ tail)

  abbrev rules_answer : Option (RouteOf Control)
  rules_answer = option_and_then (first (([], route_to Rules) ∷ [])) (behind_front (codes "/rules") (47 ∷ tail))

  not_a_part : ((47 ∷ tail ≡ codes "/rules") → ⊥) → (name : List ℕ) (t : Bool) → is_part name ≡ t → b ∷ part ++ 47 ∷ tail ≡ name ++ codes "/rules" → is_part name ≡ false
  not_a_part other name true is e = absurd (other (ap (λ z. 47 ∷ z) (one-slash (b ∷ part) name tail (codes "rules") plain (of-part name is).1 e).1))
  not_a_part other name false is e = is

  -- the end isn't `/rules`
  other-end : ((47 ∷ tail ≡ codes "/rules") → ⊥) → control_named rules_path ≡ None
  other-end other = projects-slashed (b ∷ part ++ 47 ∷ tail) (slashed-append (b ∷ part) tail) (λ name e. not_a_part other name (is_part name) refl e)

  -- the rest behind `/rules`
  by-rest : (rest : List ℕ) → 47 ∷ tail ≡ codes "/rules" ++ rest → Agrees rules_path (first (([], route_to Rules) ∷ []) rest)
  by-rest [] e =
      let part_is = part-plain b part plain in
      agrees-at rules_path (first (([], route_to Rules) ∷ []) []) (Some (route_to Rules)) (first-ended_nil (route_to Rules))
      (Rules, refl, (b ∷ part, ap (λ z. codes "/harbor/projects/" ++ (b ∷ part ++ z)) e, part_is))
  by-rest (x ∷ rest) e =
      agrees-at rules_path (first (([], route_to Rules) ∷ []) (x ∷ rest)) None (first-ended (route_to Rules) x rest)
      (other-end (λ is. let long = ap length (sym is ∙ e) in absurd (omega (arith, long))))

  by-end : ((behind_front (codes "/rules") (47 ∷ tail) ≡ None) ⊎ ((rest : List ℕ) × (47 ∷ tail ≡ codes "/rules" ++ rest))) → Agrees rules_path rules_answer
  by-end (inl none) =
      agrees-at rules_path rules_answer None (ap (option_and_then (first (([], route_to Rules) ∷ []))) none)
      (other-end (λ is. let there : behind_front (codes "/rules") (47 ∷ tail) ≡ Some [] = ap (behind_front (codes "/rules")) is ∙ behind-front (codes "/rules") [] in cc))
  by-end (inr (rest, e)) =
      agrees-at rules_path rules_answer (first (([], route_to Rules) ∷ []) rest)
      (ap (option_and_then (first (([], route_to Rules) ∷ []))) (ap (behind_front (codes "/rules")) e ∙ behind-front (codes "/rules") rest))
      (by-rest rest e)

-- the parts of what stands behind `/harbor/projects/`, cut at the first slash
by-first-part : (part tail : List ℕ) → AreBytes (part ++ 47 ∷ tail) → slashed part ≡ false → Agrees (codes "/harbor/projects/" ++ (part ++ 47 ∷ tail)) (first project_rows (part ++ 47 ∷ tail))
by-first-part [] tail small plain =
    let path = codes "/harbor/projects/" ++ 47 ∷ tail in
    agrees-at path (first project_rows (47 ∷ tail)) None (two-empty (route_to Rules) (route_to Project) tail)
    (projects-slashed (47 ∷ tail) refl (λ name e. no_name name (is_part name) refl e))
  where
    no_name : (name : List ℕ) (t : Bool) → is_part name ≡ t → 47 ∷ tail ≡ name ++ codes "/rules" → is_part name ≡ false
    no_name name false is e = is
    no_name [] true is e = refl
    no_name (x ∷ name) true is e = let slash : 47 ≡ x = cc in let plain = (of-part (x ∷ name) is).1 in absurd (false≢true (sym (ap (λ z. slashed (z ∷ name)) slash ∙ plain)))
by-first-part (b ∷ part) tail small plain =
    agrees-at (codes "/harbor/projects/" ++ (b ∷ part ++ 47 ∷ tail)) (first project_rows (b ∷ part ++ 47 ∷ tail)) (rules_answer b part tail plain)
    (two-part (route_to Rules) (route_to Project) b part tail small.0 plain)
    (by-end b part tail plain (has-front (codes "/rules") (47 ∷ tail)))

projects-agree : (rest : List ℕ) (t : Bool) → AreBytes rest → slashed rest ≡ t → Agrees (codes "/harbor/projects/" ++ rest) (first project_rows rest)
projects-agree [] t small is = agrees-at (codes "/harbor/projects/") (first project_rows []) None (two-nil (route_to Rules) (route_to Project)) refl
projects-agree (b ∷ rest) false small plain =
    let path = codes "/harbor/projects/" ++ b ∷ rest in
    agrees-at path (first project_rows (b ∷ rest)) (Some (route_to Project)) (two-plain (route_to Rules) (route_to Project) b rest small.0 plain)
    (Project, refl, (b ∷ rest, refl, part-plain b rest plain))
projects-agree (b ∷ rest) true small more =
    let cut = first-slash (b ∷ rest) more in
    let whole : b ∷ rest ≡ cut.0 ++ 47 ∷ cut.1 = cut.2 in
    subst (λ (z : List ℕ). Agrees (codes "/harbor/projects/" ++ z) (first project_rows z)) (sym whole) (by-first-part cut.0 cut.1 (subst AreBytes whole small) cut.3)

-- ---- behind `/harbor/jobs`
jobs-agree_id : (id : List ℕ) (t : Bool) → AreBytes id → slashed id ≡ t → Agrees (codes "/harbor/jobs/" ++ id) (first ((256 ∷ [], route_to Job) ∷ []) id)
jobs-agree_id [] t small is = agrees-at (codes "/harbor/jobs/") (first ((256 ∷ [], route_to Job) ∷ []) []) None (one-nil (route_to Job)) refl
jobs-agree_id (b ∷ id) false small plain =
    agrees-at (codes "/harbor/jobs/" ++ b ∷ id) (first ((256 ∷ [], route_to Job) ∷ []) (b ∷ id)) (Some (route_to Job)) (one-plain (route_to Job) b id small.0 plain)
    (Job, refl, (b ∷ id, refl, part-plain b id plain))
jobs-agree_id (b ∷ id) true small more =
    agrees-at (codes "/harbor/jobs/" ++ b ∷ id) (first ((256 ∷ [], route_to Job) ∷ []) (b ∷ id)) None (one-slashed (route_to Job) b id small.0 more)
    (jobs-slashed (b ∷ id) more)

first-jobs_nil : first job_rows [] ≡ Some (route_to Jobs)
unfolding seek
first-jobs_nil = refl

jobs-agree_byte : (b : ℕ) (id : List ℕ) (v : Bool) → AreBytes (b ∷ id) → eqb 47 b ≡ v → Agrees (codes "/harbor/jobs" ++ b ∷ id) (first job_rows (b ∷ id))
jobs-agree_byte b id true small e =
    let is : 47 ≡ b = grind (arith, nat_tests) in
    agrees-at (codes "/harbor/jobs" ++ b ∷ id) (first job_rows (b ∷ id)) (first ((256 ∷ [], route_to Job) ∷ []) id) (first-jobs b id true small.0 e)
    (subst (λ (z : ℕ). Agrees (codes "/harbor/jobs" ++ z ∷ id) (first ((256 ∷ [], route_to Job) ∷ []) id)) is (jobs-agree_id id (slashed id) small.1 refl))
jobs-agree_byte b id false small e =
    let path = codes "/harbor/jobs" ++ b ∷ id in
    let other : nat_eq b 47 ≡ false = grind (arith, nat_tests) in
    agrees-at path (first job_rows (b ∷ id)) None (first-jobs b id false small.0 e)
    (no-fronts path refl refl (rw other refl))

jobs-agree : (rest : List ℕ) → AreBytes rest → Agrees (codes "/harbor/jobs" ++ rest) (first job_rows rest)
jobs-agree [] small = agrees-at (codes "/harbor/jobs") (first job_rows []) (Some (route_to Jobs)) first-jobs_nil (Jobs, refl, refl)
jobs-agree (b ∷ id) small = jobs-agree_byte b id (eqb 47 b) small refl

-- ---- behind `/harbor/`
bytes-behind : (w rest : List ℕ) → AreBytes (w ++ rest) → AreBytes rest
bytes-behind [] rest small = small
bytes-behind (b ∷ w) rest small = bytes-behind w rest small.1

abbrev harbor_answer : List ℕ → Option (RouteOf Control)
harbor_answer rest = or_else (option_and_then (first job_rows) (behind_front (codes "jobs") rest)) (option_and_then (first project_rows) (behind_front (codes "projects/") rest))

or_else-left : (o : Option (RouteOf Control)) → or_else o None ≡ o
or_else-left None = refl
or_else-left (Some r) = refl

-- neither front
harbor-none : (rest : List ℕ) → behind_front (codes "projects/") rest ≡ None → behind_front (codes "jobs") rest ≡ None → Agrees (codes "/harbor/" ++ rest) (harbor_answer rest)
harbor-none rest projects jobs =
    let path = codes "/harbor/" ++ rest in
    agrees-at path (harbor_answer rest) None (ap (λ o. or_else (option_and_then (first job_rows) o) (option_and_then (first project_rows) (behind_front (codes "projects/") rest))) jobs ∙ ap (option_and_then (first project_rows)) projects)
    (no-fronts path projects (other-text (codes "jobs") [] rest jobs (is_same rest (codes "jobs")) refl) (longer-front (codes "jobs") (codes "/") rest jobs))

harbor-jobs : (rest : List ℕ) → AreBytes rest → behind_front (codes "projects/") rest ≡ None → ((behind_front (codes "jobs") rest ≡ None) ⊎ ((more : List ℕ) × (rest ≡ codes "jobs" ++ more))) → Agrees (codes "/harbor/" ++ rest) (harbor_answer rest)
harbor-jobs rest small projects (inl jobs) = harbor-none rest projects jobs
harbor-jobs rest small projects (inr (more, e)) =
    let there : behind_front (codes "jobs") rest ≡ Some more = ap (behind_front (codes "jobs")) e ∙ behind-front (codes "jobs") more in
    agrees-at (codes "/harbor/" ++ rest) (harbor_answer rest) (first job_rows more)
    (ap (λ o. or_else (option_and_then (first job_rows) o) (option_and_then (first project_rows) (behind_front (codes "projects/") rest))) there ∙ ap (λ o. or_else (first job_rows more) (option_and_then (first project_rows) o)) projects ∙ or_else-left (first job_rows more))
    (subst (λ (z : List ℕ). Agrees (codes "/harbor/" ++ z) (first job_rows more)) (sym e) (jobs-agree more (bytes-behind (codes "jobs") more (subst AreBytes e small))))

harbor-agree : (rest : List ℕ) → AreBytes rest → ((behind_front (codes "projects/") rest ≡ None) ⊎ ((more : List ℕ) × (rest ≡ codes "projects/" ++ more))) → Agrees (codes "/harbor/" ++ rest) (harbor_answer rest)
harbor-agree rest small (inl projects) = harbor-jobs rest small projects (has-front (codes "jobs") rest)
harbor-agree rest small (inr (more, e)) =
    let answer : harbor_answer (codes "projects/" ++ more) ≡ first project_rows more = ap (λ o. option_and_then (first project_rows) o) (behind-front (codes "projects/") more) in
    agrees-at (codes "/harbor/" ++ rest) (harbor_answer rest) (first project_rows more) (ap harbor_answer e ∙ answer)
    (subst (λ (z : List ℕ). Agrees (codes "/harbor/" ++ z) (first project_rows more)) (sym e) (projects-agree more (slashed more) (bytes-behind (codes "projects/") more (subst AreBytes e small)) refl))

agree-by : (path : List ℕ) → AreBytes path → ((behind_front (codes "/harbor/") path ≡ None) ⊎ ((rest : List ℕ) × (path ≡ codes "/harbor/" ++ rest))) → Agrees path (option_and_then (first harbor_rows) (behind_front (codes "/harbor/") path))
agree-by path small (inl none) =
    agrees-at path (option_and_then (first harbor_rows) (behind_front (codes "/harbor/") path)) None (ap (option_and_then (first harbor_rows)) none)
    (no-fronts path
    (longer-front (codes "/harbor/") (codes "projects/") path none)
    (other-text (codes "/harbor/") (codes "jobs") path none (is_same path (codes "/harbor/jobs")) refl)
    (longer-front (codes "/harbor/") (codes "jobs/") path none))
agree-by path small (inr (rest, e)) =
    let there : behind_front (codes "/harbor/") path ≡ Some rest = ap (behind_front (codes "/harbor/")) e ∙ behind-front (codes "/harbor/") rest in
    agrees-at path (option_and_then (first harbor_rows) (behind_front (codes "/harbor/") path)) (harbor_answer rest) (ap (option_and_then (first harbor_rows)) there ∙ first-inner rest)
    (subst (λ (z : List ℕ). Agrees z (harbor_answer rest)) (sym e) (harbor-agree rest (bytes-behind (codes "/harbor/") rest (subst AreBytes e small)) (has-front (codes "projects/") rest)))

-- what the rows answer of a path is what the definition says
pub rows-agree : (path : List ℕ) → AreBytes path → Agrees path (first control_rows path)
rows-agree path small = agrees-at path (first control_rows path) (option_and_then (first harbor_rows) (behind_front (codes "/harbor/") path)) (first-harbor path) (agree-by path small (has-front (codes "/harbor/") path))
