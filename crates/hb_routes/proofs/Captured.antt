-- The part of a control path that its pattern's parameter takes.
use Rattle.std.proofs.Common.{◌≡◌, ℕ, suc, Option, Some, None, ◌+◌, ◌-◌, ◌<◌, ◌≤◌, Bool, true, false, cond, ◌&&◌, List, [], ◌∷◌, ◌++◌, length, take, drop, get_or, refl, sym, ap, subst, ◌∙◌, ltb, leb, arith, codes, append-nil, length-append, lit<}
use Rattle.std.specs.Str.{IsUtf8, is_utf8, chars}
use lib.Utf8.{encode}
use Rattle.std.proofs.lemmas.Slice.Eq.{bytes_eq-Decides}
use Rattle.std.proofs.lemmas.Bool.Decides.{nat_tests}
use Rattle.std.proofs.lemmas.Str.{IsUtf8-drop, IsUtf8-take, IsUtf8-from_is_utf8, is_utf8-from_IsUtf8, IsCharBoundary-after_ascii, IsCharBoundary-before_ascii}
use Rattle.std.proofs.Math.Seq.{take-append_seam, drop-append_seam, drop-append-add, get_or-append_seam}
use Rattle.matchit.specs.Rows.{RowsOf}
use Rattle.matchit.specs.Router.{RouteOf}
use Rattle.matchit.specs.Params.{named, AllText, walk, wild_from, wild_stop, part_of, next_at}
use Rattle.matchit.specs.Seek.{first, segment}
use Rattle.hb_routes.specs.declared.control_paths.Control.{Control}
use Rattle.hb_routes.specs.declared.control_paths.Control.TheVariants.{Project, Rules, Jobs, Job}
use Rattle.hb_routes.specs.ControlRows.{control_rows}
use Rattle.hb_routes.specs.Resources.{Resource, control_named, control_resource}
use Rattle.hb_routes.specs.Resources.Resource.{Project as NamedProject, Rules as NamedRules, Job as NamedJob}
use Rattle.hb_routes.proofs.Controls.{route_to, IsOf, Agrees, project-named, rules-named, job-named, rows-agree}
use Rattle.hb_routes.proofs.Fronts.{of-part}
use Rattle.hb_routes.proofs.Matching.{AreBytes}
use Rattle.hb_routes.proofs.Parameters.{slashed, segment-part}

value-of : (control : Control) → (route_to control).value ≡ control
unfolding route_to
value-of Project = refl
value-of Rules = refl
value-of Jobs = refl
value-of Job = refl

-- a parameter behind a text stands behind it in the path
wild_from-append : (w rest : List ℕ) (len token at : ℕ) → AreBytes w → at + length w ≤ len → wild_from (w ++ 256 ∷ rest) len token at ≡ (token + length w, at + length w)
wild_from-append [] rest len token at small room =
    let t : token ≡ token + length {A = ℕ} [] = omega arith in
    let a : at ≡ at + length {A = ℕ} [] = omega arith in
    ap (λ (n : ℕ). (n, at)) t ∙ ap (λ (n : ℕ). (token + length {A = ℕ} [], n)) a
wild_from-append (x ∷ w) rest len token at small room =
    let byte : ltb x 256 ≡ true = (let b = small.0 in grind (arith, nat_tests)) in
    let more : ltb at len ≡ true = grind (arith, nat_tests) in
    let t : token + 1 + length w ≡ token + length (x ∷ w) = omega arith in
    let a : at + 1 + length w ≡ at + length (x ∷ w) = omega arith in
    ap (λ (v : Bool). cond v (wild_from (w ++ 256 ∷ rest) len (token + 1) (next_at len at)) (token, at)) byte
    ∙ ap (λ (v : Bool). wild_from (w ++ 256 ∷ rest) len (token + 1) (cond v (at + 1) at)) more
    ∙ wild_from-append w rest len (token + 1) (at + 1) small.1 (omega arith)
    ∙ ap (λ (n : ℕ). (n, at + 1 + length w)) t ∙ ap (λ (n : ℕ). (token + length (x ∷ w), n)) a

projects-bytes : AreBytes (codes "/harbor/projects/")
projects-bytes = (lit< tt, (lit< tt, (lit< tt, (lit< tt, (lit< tt, (lit< tt, (lit< tt, (lit< tt, (lit< tt, (lit< tt, (lit< tt, (lit< tt, (lit< tt, (lit< tt, (lit< tt, (lit< tt, (lit< tt, tt)))))))))))))))))

jobs-bytes : AreBytes (codes "/harbor/jobs/")
jobs-bytes = (lit< tt, (lit< tt, (lit< tt, (lit< tt, (lit< tt, (lit< tt, (lit< tt, (lit< tt, (lit< tt, (lit< tt, (lit< tt, (lit< tt, (lit< tt, tt)))))))))))))

-- the bytes behind a front, as many as a part has
part_of-between : (w m rest : List ℕ) → part_of (w ++ (m ++ rest)) (length w) (length w + length m) ≡ m
part_of-between w m rest =
    let all = w ++ (m ++ rest) in
    let long : length all ≡ length w + (length m + length rest) = omega (arith, length-append w (m ++ rest), length-append m rest) in
    let starts : leb (length w) (length w + length m) ≡ true = grind (arith, nat_tests) in
    let ends : leb (length w + length m) (length all) ≡ true = grind (arith, nat_tests, long) in
    let count : length w + length m - length w ≡ length m = omega arith in
    ap (λ (v : Bool). cond (v && leb (length w + length m) (length all)) (take (length w + length m - length w) (drop (length w) all)) []) starts
    ∙ ap (λ (v : Bool). cond v (take (length w + length m - length w) (drop (length w) all)) []) ends
    ∙ ap (λ n. take n (drop (length w) all)) count
    ∙ ap (take (length m)) (drop-append_seam w (m ++ rest))
    ∙ take-append_seam m rest

-- the same at the end of the path
part_of-rest : (w m : List ℕ) → part_of (w ++ m) (length w) (length w + length m) ≡ m
part_of-rest w m = ap (λ z. part_of (w ++ z) (length w) (length w + length m)) (sym (append-nil m)) ∙ part_of-between w m []

-- `/harbor/projects/` and a name
pub project-walk : (name : List ℕ) → walk (route_to Project).pattern (route_to Project).text (codes "/harbor/projects/" ++ name) (route_to Project).names 0 0 ≡ (codes "name", name) ∷ []
unfolding route_to
project-walk name =
    let front = codes "/harbor/projects/" in
    let path = front ++ name in
    let long : length path ≡ 17 + length name = length-append front name in
    let start : wild_from (front ++ 256 ∷ []) (length path) 0 0 ≡ (17, 17) = wild_from-append front [] (length path) 0 0 projects-bytes (omega (arith, long)) in
    ap (λ (p : ℕ × ℕ). (codes "name", part_of path p.1 (wild_stop (front ++ 256 ∷ []) p.0 path p.1)) ∷ []) start
    ∙ ap (λ (n : ℕ). (codes "name", part_of path 17 n) ∷ []) long
    ∙ ap (λ (m : List ℕ). (codes "name", m) ∷ []) (part_of-rest front name)

-- `/harbor/jobs/` and an id
pub job-walk : (id : List ℕ) → walk (route_to Job).pattern (route_to Job).text (codes "/harbor/jobs/" ++ id) (route_to Job).names 0 0 ≡ (codes "job", id) ∷ []
unfolding route_to
job-walk id =
    let front = codes "/harbor/jobs/" in
    let path = front ++ id in
    let long : length path ≡ 13 + length id = length-append front id in
    let start : wild_from (front ++ 256 ∷ []) (length path) 0 0 ≡ (13, 13) = wild_from-append front [] (length path) 0 0 jobs-bytes (omega (arith, long)) in
    ap (λ (p : ℕ × ℕ). (codes "job", part_of path p.1 (wild_stop (front ++ 256 ∷ []) p.0 path p.1)) ∷ []) start
    ∙ ap (λ (n : ℕ). (codes "job", part_of path 13 n) ∷ []) long
    ∙ ap (λ (m : List ℕ). (codes "job", m) ∷ []) (part_of-rest front id)

-- `/harbor/projects/`, a name, and `/rules`
pub rules-walk : (name : List ℕ) → slashed name ≡ false → walk (route_to Rules).pattern (route_to Rules).text (codes "/harbor/projects/" ++ (name ++ codes "/rules")) (route_to Rules).names 0 0 ≡ (codes "name", name) ∷ []
unfolding route_to
rules-walk name plain =
    let front = codes "/harbor/projects/" in
    let rest = name ++ codes "/rules" in
    let path = front ++ rest in
    let long : length path ≡ 17 + length rest = length-append front rest in
    let start : wild_from (front ++ 256 ∷ codes "/rules") (length path) 0 0 ≡ (17, 17) = wild_from-append front (codes "/rules") (length path) 0 0 projects-bytes (omega (arith, long)) in
    let more = length-append name (47 ∷ []) in
    let stop : 17 + length (segment rest) - 1 ≡ 17 + length name = ap (λ (z : List ℕ). 17 + length z - 1) (segment-part name (codes "rules") plain) ∙ omega (arith, more) in
    ap (λ (p : ℕ × ℕ). (codes "name", part_of path p.1 (wild_stop (front ++ 256 ∷ codes "/rules") p.0 path p.1)) ∷ []) start
    ∙ ap (λ (n : ℕ). (codes "name", part_of path 17 n) ∷ []) stop
    ∙ ap (λ (m : List ℕ). (codes "name", m) ∷ []) (part_of-between front name (codes "/rules"))

-- ---- the part is a text, as the path is
-- behind a slash
pub text-behind : (w rest : List ℕ) → IsUtf8 (w ++ 47 ∷ rest) → IsUtf8 rest
text-behind w rest whole =
    let all = w ++ 47 ∷ rest in
    let at : get_or all (length w) 0 ≡ 47 = get_or-append_seam w 47 rest 0 in
    let within : length w < length all = omega (arith, length-append w (47 ∷ rest)) in
    let cut = IsUtf8-drop all (length w + 1) whole (IsCharBoundary-after_ascii all (length w) whole within (omega (arith, at))) in
    let left : drop (length w + 1) all ≡ rest = drop-append-add w (47 ∷ rest) 1 in
    subst IsUtf8 left cut

-- before a slash
pub text-before : (m rest : List ℕ) → IsUtf8 (m ++ 47 ∷ rest) → IsUtf8 m
text-before m rest whole =
    let all = m ++ 47 ∷ rest in
    let at : get_or all (length m) 0 ≡ 47 = get_or-append_seam m 47 rest 0 in
    let within : length m < length all = omega (arith, length-append m (47 ∷ rest)) in
    subst IsUtf8 (take-append_seam m (47 ∷ rest)) (IsUtf8-take all (length m) whole (IsCharBoundary-before_ascii all (length m) within (omega (arith, at))))

pub text-name : IsUtf8 (codes "name")
unfolding is_utf8 chars encode
text-name = IsUtf8-from_is_utf8 (codes "name") refl

pub text-job : IsUtf8 (codes "job")
unfolding is_utf8 chars encode
text-job = IsUtf8-from_is_utf8 (codes "job") refl

-- ---- what the router's answer says
-- the route that the rows gave of a path, by its value
pub matched : (path : List ℕ) (route : RouteOf Control) (control : Control) → Agrees path (Some route) → route.value ≡ control → (route ≡ route_to control) × IsOf control path
matched path route control agrees is =
    let same : agrees.0 ≡ control = sym (value-of agrees.0) ∙ ap (λ (r : RouteOf Control). r.value) (sym agrees.1) ∙ is in
    (agrees.1 ∙ ap route_to same, subst (λ (k : Control). IsOf k path) same agrees.2)

-- what a parameter of that name took
pub captured : (taken : List (List ℕ × List ℕ)) (name part : List ℕ) → taken ≡ (name, part) ∷ [] → named name taken ≡ Some part
captured taken name part e = ap (named name) e ∙ ap (λ t. cond t (Some part) None) ((bytes_eq-Decides name name).1 refl)

-- names and parts are texts
pub all-text : (taken : List (List ℕ × List ℕ)) (name part : List ℕ) → taken ≡ (name, part) ∷ [] → IsUtf8 name → IsUtf8 part → AllText taken
all-text taken name part e n m = subst AllText (sym e) (n, m, tt)

-- the whole walk of the route
walk-of : (r : RouteOf Control) (p path : List ℕ) (control : Control) → r ≡ route_to control → p ≡ path → walk r.pattern r.text p r.names 0 0 ≡ walk (route_to control).pattern (route_to control).text path (route_to control).names 0 0
walk-of r p path control is e = ap (λ (z : RouteOf Control). walk z.pattern z.text p z.names 0 0) is ∙ ap (λ (z : List ℕ). walk (route_to control).pattern (route_to control).text z (route_to control).names 0 0) e

-- what was taken, that it is text, and what the path names by it
pub record Takes (path : List ℕ) (taken : List (List ℕ × List ℕ)) (key : List ℕ) (names : List ℕ → Resource) : Type 0 where
  pub part : List ℕ
  pub is : named key taken ≡ Some part
  pub texts : AllText taken
  pub named_by : control_named path ≡ Some (names part)

pub project-takes : (r : RouteOf Control) (p path : List ℕ) → (r ≡ route_to Project) × IsOf Project path → p ≡ path → IsUtf8 path → Takes path (walk r.pattern r.text p r.names 0 0) (codes "name") (λ name. NamedProject name)
project-takes r p path (is, (name, whole, part)) e text =
    let taken = walk-of r p path Project is e ∙ ap (λ (z : List ℕ). walk (route_to Project).pattern (route_to Project).text z (route_to Project).names 0 0) whole ∙ project-walk name in
    record {
      part = name;
      is = captured (walk r.pattern r.text p r.names 0 0) (codes "name") name taken;
      texts = all-text (walk r.pattern r.text p r.names 0 0) (codes "name") name taken text-name (text-behind (codes "/harbor/projects") name (subst IsUtf8 whole text));
      named_by = ap control_named whole ∙ project-named name part;
    }

pub rules-takes : (r : RouteOf Control) (p path : List ℕ) → (r ≡ route_to Rules) × IsOf Rules path → p ≡ path → IsUtf8 path → Takes path (walk r.pattern r.text p r.names 0 0) (codes "name") (λ name. NamedRules name)
rules-takes r p path (is, (name, whole, part)) e text =
    let taken = walk-of r p path Rules is e ∙ ap (λ (z : List ℕ). walk (route_to Rules).pattern (route_to Rules).text z (route_to Rules).names 0 0) whole ∙ rules-walk name (of-part name part).1 in
    record {
      part = name;
      is = captured (walk r.pattern r.text p r.names 0 0) (codes "name") name taken;
      texts = all-text (walk r.pattern r.text p r.names 0 0) (codes "name") name taken text-name (text-before name (codes "rules") (text-behind (codes "/harbor/projects") (name ++ codes "/rules") (subst IsUtf8 whole text)));
      named_by = ap control_named whole ∙ rules-named name part;
    }

pub job-takes : (r : RouteOf Control) (p path : List ℕ) → (r ≡ route_to Job) × IsOf Job path → p ≡ path → IsUtf8 path → Takes path (walk r.pattern r.text p r.names 0 0) (codes "job") (λ id. NamedJob id)
job-takes r p path (is, (id, whole, part)) e text =
    let taken = walk-of r p path Job is e ∙ ap (λ (z : List ℕ). walk (route_to Job).pattern (route_to Job).text z (route_to Job).names 0 0) whole ∙ job-walk id in
    record {
      part = id;
      is = captured (walk r.pattern r.text p r.names 0 0) (codes "job") id taken;
      texts = all-text (walk r.pattern r.text p r.names 0 0) (codes "job") id taken text-job (text-behind (codes "/harbor/jobs") id (subst IsUtf8 whole text));
      named_by = ap control_named whole ∙ job-named id part;
    }

-- ---- what the code makes of it
-- a path that is text
pub named-resource : (path : List ℕ) (answer : Option Resource) → IsUtf8 path → control_named path ≡ answer → control_resource path ≡ answer
named-resource path answer text e = ap (λ t. cond t (control_named path) None) (is_utf8-from_IsUtf8 path text) ∙ e

-- the part that the parameter gave
pub named-by-part : (path : List ℕ) (taken : List (List ℕ × List ℕ)) (key value shown : List ℕ) (names : List ℕ → Resource) → Takes path taken key names → IsUtf8 path → (AllText taken → named key taken ≡ Some value) → shown ≡ value → Some (names shown) ≡ control_resource path
named-by-part path taken key value shown names takes text given is =
    let there = given takes.texts in
    let found = takes.is in
    let same : takes.part ≡ value = cc in
    sym (named-resource path (Some (names shown)) text (takes.named_by ∙ ap (λ (z : List ℕ). Some (names z)) (same ∙ sym is)))

-- the parameter gave a part
pub gave-a-part : (path : List ℕ) (taken : List (List ℕ × List ℕ)) (key : List ℕ) (names : List ℕ → Resource) → Takes path taken key names → (AllText taken → named key taken ≡ None) → ⊥
gave-a-part path taken key names takes none = let there = none takes.texts in let found = takes.is in cc

-- ---- bytes and texts
pub are-bytes : (s : List ℕ) → ((i : ℕ) → get_or s i 0 < 256) → AreBytes s
are-bytes [] h = tt
are-bytes (b ∷ s) h = (h 0, are-bytes s (λ i. h (suc i)))

pub not-text : (s : List ℕ) (v : Bool) → ((IsUtf8 s) → ⊥) → is_utf8 s ≡ v → v ≡ false
not-text s true other e = absurd (other (IsUtf8-from_is_utf8 s e))
not-text s false other e = refl

-- the answer of the rows of a router
pub answered : (rows : RowsOf (RouteOf Control)) (text path : List ℕ) (found : Option (RouteOf Control)) → rows ≡ control_rows → text ≡ path → first rows text ≡ found → AreBytes path → Agrees path found
answered rows text path found is same e small = subst (Agrees path) (ap (first control_rows) (sym same) ∙ ap (λ r. first r text) (sym is) ∙ e) (rows-agree path small)
