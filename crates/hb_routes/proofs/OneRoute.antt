-- A request is routed in one way, and never to want of memory.
use Rattle.std.proofs.Common.{◌≡◌, ◌≢◌, inl, inr, ℕ, Bool, pos, List, refl, sym, ap, subst, ◌∙◌, Option, Some, None, Result, Ok, Err, codes, arith}
use Rattle.std.proofs.lemmas.Bool.{false≢true}
use Rattle.hb_text.proofs.DigestTexts.{decoded}
use Rattle.hb_text.specs.Numbers.{IsNumber}
use Rattle.hb_text.specs.declared.digests.Digest.{Digest}
use Rattle.hb_text.specs.declared.references.Reference.{Reference}
use Rattle.hb_text.specs.declared.references.Reference.TheVariants.{Tag, Digest as ByDigest}
use Rattle.hb_routes.specs.Answers.{Answers, Is, With, For}
use Rattle.hb_routes.specs.Methods.{method_of}
use Rattle.hb_routes.specs.Queries.{path_of, query_of, value_of, value_or_empty}
use Rattle.hb_routes.specs.Resources.{Resource, resource_of}
use Rattle.hb_routes.specs.Resources.Resource.{Base, Tags, Uploads, Upload, Blob, Manifest, Project, Rules, Jobs, Job}
use Rattle.hb_routes.specs.Routes.{WithName, WithProject, WithDigest, WithTag, WithReference, WithId, IsBegun, IsWanted, IsServed, IsServedAt, IsRouted}
use Rattle.hb_routes.specs.Values.{StandsForName, StandsForProject, StandsForTag, StandsForDigest, StandsForLimit, IsOutside, IsValueOf, IsTaken, IsGiven, IsMost}
use Rattle.hb_routes.specs.declared.faults.RouteFault.{RouteFault}
use Rattle.hb_routes.specs.declared.faults.RouteFault.TheVariants.{Unknown, MethodUnknown, NameInvalid, TagInvalid, DigestInvalid, Memory}
use Rattle.hb_routes.specs.declared.methods.Method.{Method}
use Rattle.hb_routes.specs.declared.methods.Method.TheVariants.{Get, Head, Post, Put, Patch, Delete}
use Rattle.hb_routes.specs.declared.routes.Route.{Route}
use Rattle.hb_routes.specs.declared.routes.Route.TheVariants.{Base as BaseRoute, GetBlob, HeadBlob, BeginUpload, PushBlob, MountBlob, GrowUpload, FinishUpload, ShowUpload, PutManifest, GetManifest, HeadManifest, DeleteManifest, ListTags, PutProject, ShowProject, PutRules, QueueJob, ShowJob}
use Rattle.hb_routes.specs.declared.routes.Given.{Given}
use Rattle.hb_routes.specs.declared.routes.Given.TheVariants.{Absent, Invalid, Value}
use Rattle.hb_routes.specs.declared.routes.WantedJob.{WantedJob}
use Rattle.hb_routes.specs.declared.routes.WantedJob.TheVariants.{Collect, Retain}

-- a text stands for one value at most
abbrev pub IsOne : {T : Type 0} → (List ℕ → T → Type 0) → Type 0
IsOne {T} StandsFor = (text : List ℕ) (v w : T) → StandsFor text v → StandsFor text w → v ≡ w

one-name : IsOne StandsForName
one-name text v w h g = h.0 ∙ sym g.0

one-project : IsOne StandsForProject
one-project text v w h g = h.0 ∙ sym g.0

one-tag : IsOne StandsForTag
one-tag text v w h g = h.0 ∙ sym g.0

one-digest : IsOne StandsForDigest
one-digest text v w h g =
    let p = decoded text v h.1 h.0 in
    let q = decoded text w g.1 g.0 in
    let same : v.0 ≡ w.0 = cc in
    ap (λ (bytes : List ℕ). let d : Digest = record { 0 = bytes } in d) same

one-number : IsOne IsNumber
one-number text v w h g = sym h.value ∙ g.value

-- `-1` is no number
signed : (n : ℕ) → ¬ (IsNumber (codes "-1") n)
signed n h = false≢true h.digits

one-limit : IsOne StandsForLimit
one-limit text v w (inl h) (inl g) = h.1 ∙ sym g.1
one-limit text v w (inl h) (inr g) = absurd (signed g.0 (subst (λ (t : List ℕ). IsNumber t g.0) h.0 g.1))
one-limit text v w (inr h) (inl g) = absurd (signed h.0 (subst (λ (t : List ℕ). IsNumber t h.0) g.0 h.1))
one-limit text v w (inr h) (inr g) = h.3 ∙ ap (λ (n : ℕ). pos n) (one-number text h.0 g.0 h.1 g.1) ∙ sym g.3

-- ---- what was given
module _ {T : Type 0} (StandsFor : List ℕ → T → Type 0) (is_one : IsOne StandsFor) where
  one-value : (text : List ℕ) (v w : Option T) → IsValueOf StandsFor text v → IsValueOf StandsFor text w → v ≡ w
  one-value text None None h g = refl
  one-value text None (Some w) h g = absurd (h w g)
  one-value text (Some v) None h g = absurd (g v h)
  one-value text (Some v) (Some w) h g = ap (λ (z : T). Some z) (is_one text v w h g)

  -- values of the same text
  one-same : (text : Option (List ℕ)) (s t : List ℕ) (v w : T) → text ≡ Some s → text ≡ Some t → StandsFor s v → StandsFor t w → v ≡ w
  one-same text s t v w p q h g = let same : t ≡ s = cc in is_one s v w h (subst (λ (z : List ℕ). StandsFor z w) same g)

  outside-same : (text : Option (List ℕ)) (s t : List ℕ) (v : T) → text ≡ Some s → text ≡ Some t → IsOutside StandsFor s → StandsFor t v → ⊥
  outside-same text s t v p q none g = let same : t ≡ s = cc in none v (subst (λ (z : List ℕ). StandsFor z v) same g)

  one-taken : (text : Option (List ℕ)) (v w : Option T) → IsTaken StandsFor text v → IsTaken StandsFor text w → v ≡ w
  one-taken text None None h g = refl
  one-taken text None (Some w) h g = absurd (h g.0 g.1 w g.2)
  one-taken text (Some v) None h g = absurd (g h.0 h.1 v h.2)
  one-taken text (Some v) (Some w) h g = ap (λ (z : T). Some z) (one-same text h.0 g.0 v w h.1 g.1 h.2 g.2)

  one-given : (text : Option (List ℕ)) (v w : Given T) → IsGiven StandsFor text v → IsGiven StandsFor text w → v ≡ w
  one-given text Absent Absent h g = refl
  one-given text Absent Invalid h g = let e = g.1 in cc
  one-given text Absent (Value w) h g = let e = g.1 in cc
  one-given text Invalid Absent h g = let e = h.1 in cc
  one-given text Invalid Invalid h g = refl
  one-given text Invalid (Value w) h g = absurd (outside-same text h.0 g.0 w h.1 g.1 h.2 g.2)
  one-given text (Value v) Absent h g = let e = h.1 in cc
  one-given text (Value v) Invalid h g = absurd (outside-same text g.0 h.0 v g.1 h.1 g.2 h.2)
  one-given text (Value v) (Value w) h g = ap (λ (z : T). Value z) (one-same text h.0 g.0 v w h.1 g.1 h.2 g.2)

one-most : (text : Option (List ℕ)) (n m : ℕ) → IsMost text n → IsMost text m → n ≡ m
one-most text n m (inl h) (inl g) = one-same IsNumber one-number text h.0 g.0 n m h.1 g.1 h.2 g.2
one-most text n m (inl h) (inr g) = let big = g.0 h.0 n h.1 h.2 in let small = h.3 in absurd (omega (arith, big, small))
one-most text n m (inr h) (inl g) = let big = h.0 g.0 m g.1 g.2 in let small = g.3 in absurd (omega (arith, big, small))
one-most text n m (inr h) (inr g) = h.1 ∙ sym g.1

-- the two kinds are two texts
two-kinds : (kind : Option (List ℕ)) → kind ≡ Some (codes "collect") → kind ≡ Some (codes "retain") → ⊥
two-kinds kind p q = let e : Some (codes "collect") ≡ Some (codes "retain") = sym p ∙ q in cc

one-wanted : (query : List ℕ) (v w : Given WantedJob) → IsWanted query v → IsWanted query w → v ≡ w
one-wanted query Absent Absent h g = refl
one-wanted query Absent Invalid h g = let e = g.1 in cc
one-wanted query Absent (Value (Collect u)) h g = let e = g.0 in cc
one-wanted query Absent (Value (Retain p)) h g = let e = g.0 in cc
one-wanted query Invalid Absent h g = let e = h.1 in cc
one-wanted query Invalid Invalid h g = refl
one-wanted query Invalid (Value (Collect u)) h g = absurd (h.2 (let e = h.1 in let f = g.0 in cc))
one-wanted query Invalid (Value (Retain p)) h g = absurd (h.3 (let e = h.1 in let f = g.0 in cc))
one-wanted query (Value (Collect u)) Absent h g = let e = h.0 in cc
one-wanted query (Value (Collect u)) Invalid h g = absurd (g.2 (let e = g.1 in let f = h.0 in cc))
one-wanted query (Value (Collect u)) (Value (Collect v)) h g = ap (λ (z : Bool). Value (Collect z)) (h.1 ∙ sym g.1)
one-wanted query (Value (Collect u)) (Value (Retain p)) h g = absurd (two-kinds (value_of (codes "kind") query) h.0 g.0)
one-wanted query (Value (Retain p)) Absent h g = let e = h.0 in cc
one-wanted query (Value (Retain p)) Invalid h g = absurd (g.3 (let e = g.1 in let f = h.0 in cc))
one-wanted query (Value (Retain p)) (Value (Collect u)) h g = absurd (two-kinds (value_of (codes "kind") query) g.0 h.0)
one-wanted query (Value (Retain p)) (Value (Retain q)) h g = ap (λ (z : Given (List ℕ)). Value (Retain z)) (one-given StandsForProject one-project (value_of (codes "project") query) p q h.1 g.1)

-- ---- facts about answers that are true of one answer, and never of want of memory
pub record Decides (P : Answers) : Type 0 where
  pub one : (a b : Result Route RouteFault) → P a → P b → a ≡ b
  pub caused : (a : Result Route RouteFault) → P a → a ≢ Err Memory

decides-ok : (route : Route) → Decides (Is (Ok route))
decides-ok route = record { one = λ a b h g. h ∙ sym g; caused = λ a h e. cc }

decides-fault : (fault : RouteFault) → fault ≢ Memory → Decides (Is (Err fault))
decides-fault fault other = record { one = λ a b h g. h ∙ sym g; caused = λ a h e. other (cc) }

module _ {T : Type 0} where
  with-one : (StandsFor : List ℕ → T → Type 0) (fault : RouteFault) (text : List ℕ) (Rest : T → Answers) → IsOne StandsFor → ((v : T) → Decides (Rest v)) → (a b : Result Route RouteFault) → With StandsFor fault text Rest a → With StandsFor fault text Rest b → a ≡ b
  with-one StandsFor fault text Rest is_one rest a b (inl h) (inl g) = (rest h.0).one a b h.2 (subst (λ (v : T). Rest v b) (is_one text g.0 h.0 g.1 h.1) g.2)
  with-one StandsFor fault text Rest is_one rest a b (inl h) (inr g) = absurd (g.0 h.0 h.1)
  with-one StandsFor fault text Rest is_one rest a b (inr h) (inl g) = absurd (h.0 g.0 g.1)
  with-one StandsFor fault text Rest is_one rest a b (inr h) (inr g) = h.1 ∙ sym g.1

  with-caused : (StandsFor : List ℕ → T → Type 0) (fault : RouteFault) (text : List ℕ) (Rest : T → Answers) → fault ≢ Memory → ((v : T) → Decides (Rest v)) → (a : Result Route RouteFault) → With StandsFor fault text Rest a → a ≢ Err Memory
  with-caused StandsFor fault text Rest other rest a (inl h) = (rest h.0).caused a h.2
  with-caused StandsFor fault text Rest other rest a (inr h) = λ e. other (let f = h.1 in cc)

  decides-with : (StandsFor : List ℕ → T → Type 0) (fault : RouteFault) (text : List ℕ) (Rest : T → Answers) → IsOne StandsFor → fault ≢ Memory → ((v : T) → Decides (Rest v)) → Decides (With StandsFor fault text Rest)
  decides-with StandsFor fault text Rest is_one other rest = record { one = with-one StandsFor fault text Rest is_one rest; caused = with-caused StandsFor fault text Rest other rest }

  decides-for : (Holds : T → Type 0) (Rest : T → Answers) → ((v w : T) → Holds v → Holds w → v ≡ w) → ((v : T) → Decides (Rest v)) → Decides (For Holds Rest)
  decides-for Holds Rest is_one rest = record {
    one = λ a b h g. (rest h.0).one a b h.2 (subst (λ (v : T). Rest v b) (is_one g.0 h.0 g.1 h.1) g.2);
    caused = λ a h. (rest h.0).caused a h.2;
  }

-- ---- the words of the table
decides-name : (text : List ℕ) (Rest : List ℕ → Answers) → ((v : List ℕ) → Decides (Rest v)) → Decides (WithName text Rest)
decides-name text Rest rest = decides-with StandsForName NameInvalid text Rest one-name (λ (e : NameInvalid ≡ Memory). cc) rest

decides-project : (text : List ℕ) (Rest : List ℕ → Answers) → ((v : List ℕ) → Decides (Rest v)) → Decides (WithProject text Rest)
decides-project text Rest rest = decides-with StandsForProject NameInvalid text Rest one-project (λ (e : NameInvalid ≡ Memory). cc) rest

decides-digest : (text : List ℕ) (Rest : Digest → Answers) → ((v : Digest) → Decides (Rest v)) → Decides (WithDigest text Rest)
decides-digest text Rest rest = decides-with StandsForDigest DigestInvalid text Rest one-digest (λ (e : DigestInvalid ≡ Memory). cc) rest

decides-tag : (text : List ℕ) (Rest : List ℕ → Answers) → ((v : List ℕ) → Decides (Rest v)) → Decides (WithTag text Rest)
decides-tag text Rest rest = decides-with StandsForTag TagInvalid text Rest one-tag (λ (e : TagInvalid ≡ Memory). cc) rest

module _ (text : List ℕ) (Rest : Reference → Answers) (rest : (v : Reference) → Decides (Rest v)) where
  by_digest : Decides (WithDigest text (λ digest. Rest (ByDigest digest)))
  by_digest = decides-digest text (λ digest. Rest (ByDigest digest)) (λ digest. rest (ByDigest digest))

  by_tag : Decides (WithTag text (λ tag. Rest (Tag tag)))
  by_tag = decides-tag text (λ tag. Rest (Tag tag)) (λ tag. rest (Tag tag))

  reference-one : (a b : Result Route RouteFault) → WithReference text Rest a → WithReference text Rest b → a ≡ b
  reference-one a b (inl h) (inl g) = by_digest.one a b h.1 g.1
  reference-one a b (inl h) (inr g) = absurd (false≢true (sym g.0 ∙ h.0))
  reference-one a b (inr h) (inl g) = absurd (false≢true (sym h.0 ∙ g.0))
  reference-one a b (inr h) (inr g) = by_tag.one a b h.1 g.1

  reference-caused : (a : Result Route RouteFault) → WithReference text Rest a → a ≢ Err Memory
  reference-caused a (inl h) = by_digest.caused a h.1
  reference-caused a (inr h) = by_tag.caused a h.1

  decides-reference : Decides (WithReference text Rest)
  decides-reference = record { one = reference-one; caused = reference-caused }

decides-id : (text : List ℕ) (Rest : Option ℕ → Answers) → ((v : Option ℕ) → Decides (Rest v)) → Decides (WithId text Rest)
decides-id text Rest rest = decides-for (IsValueOf IsNumber text) Rest (one-value IsNumber one-number text) rest

-- ---- the table
decides-begun : (name : List ℕ) (mount digest from : Option (List ℕ)) → Decides (IsBegun name mount digest from)
decides-begun name (Some mount) digest from =
    decides-digest mount (λ mounted. For (IsTaken StandsForName from) (λ giver. Is (Ok (MountBlob name mounted giver))))
    (λ mounted. decides-for (IsTaken StandsForName from) (λ giver. Is (Ok (MountBlob name mounted giver))) (one-taken StandsForName one-name from) (λ giver. decides-ok (MountBlob name mounted giver)))
decides-begun name None (Some digest) from = decides-digest digest (λ pushed. Is (Ok (PushBlob name pushed))) (λ pushed. decides-ok (PushBlob name pushed))
decides-begun name None None from = decides-ok (BeginUpload name)

decides-blob : (name digest : List ℕ) (route : List ℕ → Digest → Route) → Decides (WithName name (λ n. WithDigest digest (λ d. Is (Ok (route n d)))))
decides-blob name digest route =
    decides-name name (λ n. WithDigest digest (λ d. Is (Ok (route n d))))
    (λ n. decides-digest digest (λ d. Is (Ok (route n d))) (λ d. decides-ok (route n d)))

decides-manifest : (name reference : List ℕ) (route : List ℕ → Reference → Route) → Decides (WithName name (λ n. WithReference reference (λ r. Is (Ok (route n r)))))
decides-manifest name reference route =
    decides-name name (λ n. WithReference reference (λ r. Is (Ok (route n r))))
    (λ n. decides-reference reference (λ r. Is (Ok (route n r))) (λ r. decides-ok (route n r)))

decides-upload : (name id : List ℕ) (route : List ℕ → Option ℕ → Route) → Decides (WithName name (λ n. WithId id (λ upload. Is (Ok (route n upload)))))
decides-upload name id route =
    decides-name name (λ n. WithId id (λ upload. Is (Ok (route n upload))))
    (λ n. decides-id id (λ upload. Is (Ok (route n upload))) (λ upload. decides-ok (route n upload)))

decides-finish : (name id query : List ℕ) → Decides (IsServed (Upload name id) Put query)
decides-finish name id query =
    let digest = value_or_empty (codes "digest") query in
    decides-name name (λ n. WithDigest digest (λ d. WithId id (λ upload. Is (Ok (FinishUpload n upload d)))))
    (λ n. decides-digest digest (λ d. WithId id (λ upload. Is (Ok (FinishUpload n upload d))))
    (λ d. decides-id id (λ upload. Is (Ok (FinishUpload n upload d))) (λ upload. decides-ok (FinishUpload n upload d))))

decides-tags : (name query : List ℕ) → Decides (IsServed (Tags name) Get query)
decides-tags name query =
    let last_given = value_of (codes "last") query in
    let most_given = value_of (codes "n") query in
    decides-name name (λ n. For (IsTaken StandsForTag last_given) (λ last. For (IsMost most_given) (λ most. Is (Ok (ListTags n last most)))))
    (λ n. decides-for (IsTaken StandsForTag last_given) (λ last. For (IsMost most_given) (λ most. Is (Ok (ListTags n last most)))) (one-taken StandsForTag one-tag last_given)
    (λ last. decides-for (IsMost most_given) (λ most. Is (Ok (ListTags n last most))) (one-most most_given) (λ most. decides-ok (ListTags n last most))))

decides-put_project : (name query : List ℕ) → Decides (IsServed (Project name) Put query)
decides-put_project name query =
    let limit_given = value_of (codes "limit") query in
    let version_given = value_of (codes "version") query in
    decides-project name (λ n. For (IsGiven StandsForLimit limit_given) (λ limit. For (IsGiven IsNumber version_given) (λ version. Is (Ok (PutProject n limit version)))))
    (λ n. decides-for (IsGiven StandsForLimit limit_given) (λ limit. For (IsGiven IsNumber version_given) (λ version. Is (Ok (PutProject n limit version)))) (one-given StandsForLimit one-limit limit_given)
    (λ limit. decides-for (IsGiven IsNumber version_given) (λ version. Is (Ok (PutProject n limit version))) (one-given IsNumber one-number version_given) (λ version. decides-ok (PutProject n limit version))))

decides-served : (resource : Resource) (method : Method) (query : List ℕ) → Decides (IsServed resource method query)
decides-served Base Get query = decides-ok BaseRoute
decides-served (Blob name digest) Get query = decides-blob name digest (λ n d. GetBlob n d)
decides-served (Blob name digest) Head query = decides-blob name digest (λ n d. HeadBlob n d)
decides-served (Uploads name) Post query =
    let mount = value_of (codes "mount") query in
    let digest = value_of (codes "digest") query in
    let from = value_of (codes "from") query in
    decides-name name (λ n. IsBegun n mount digest from) (λ n. decides-begun n mount digest from)
decides-served (Upload name id) Patch query = decides-upload name id (λ n upload. GrowUpload n upload)
decides-served (Upload name id) Put query = decides-finish name id query
decides-served (Upload name id) Get query = decides-upload name id (λ n upload. ShowUpload n upload)
decides-served (Manifest name reference) Put query = decides-manifest name reference (λ n r. PutManifest n r)
decides-served (Manifest name reference) Get query = decides-manifest name reference (λ n r. GetManifest n r)
decides-served (Manifest name reference) Head query = decides-manifest name reference (λ n r. HeadManifest n r)
decides-served (Manifest name reference) Delete query = decides-manifest name reference (λ n r. DeleteManifest n r)
decides-served (Tags name) Get query = decides-tags name query
decides-served (Project name) Put query = decides-put_project name query
decides-served (Project name) Get query = decides-project name (λ n. Is (Ok (ShowProject n))) (λ n. decides-ok (ShowProject n))
decides-served (Rules name) Put query = decides-project name (λ n. Is (Ok (PutRules n))) (λ n. decides-ok (PutRules n))
decides-served Jobs Post query = decides-for (IsWanted query) (λ kind. Is (Ok (QueueJob kind))) (one-wanted query) (λ kind. decides-ok (QueueJob kind))
decides-served (Job id) Get query = decides-id id (λ job. Is (Ok (ShowJob job))) (λ job. decides-ok (ShowJob job))
decides-served _ _ query = decides-fault MethodUnknown (λ (e : MethodUnknown ≡ Memory). cc)

decides-served_at : (found : Option Resource) (method : Method) (query : List ℕ) → Decides (IsServedAt found method query)
decides-served_at None method query = decides-fault Unknown (λ (e : Unknown ≡ Memory). cc)
decides-served_at (Some resource) method query = decides-served resource method query

pub decides-routed : (method target : List ℕ) → Decides (IsRouted method target)
decides-routed method target = decides-served_at (resource_of (path_of target)) (method_of method) (query_of target)
