-- The routes of requests: what a method asks of what a path names, and what a request is refused for.
use Rattle.std.specs.Prelude.{◌≡◌, ◌≢◌, ◌⊎◌, ℕ, true, false, List, Option, Some, None, Ok, Err, codes}
use Rattle.hb_text.specs.Numbers.{IsNumber}
use Rattle.hb_text.specs.declared.digests.Digest.{Digest}
use Rattle.hb_text.specs.declared.references.Reference.{Reference}
use Rattle.hb_text.specs.declared.references.Reference.TheVariants.{Tag, Digest as ByDigest}
use Rattle.hb_routes.specs.Answers.{Answers, Is, With, For}
use Rattle.hb_routes.specs.Cuts.{is_same}
use Rattle.hb_routes.specs.Methods.{method_of}
use Rattle.hb_routes.specs.Queries.{path_of, query_of, value_of, value_or_empty}
use Rattle.hb_routes.specs.Resources.{Resource, resource_of}
use Rattle.hb_routes.specs.Resources.Resource.{Base, Tags, Uploads, Upload, Blob, Manifest, Project, Rules, Jobs, Job}
use Rattle.hb_routes.specs.Values.{StandsForName, StandsForProject, StandsForTag, StandsForDigest, StandsForLimit, IsValueOf, IsTaken, IsGiven, IsMost, has_colon}
use Rattle.hb_routes.specs.declared.faults.RouteFault.TheVariants.{Unknown, MethodUnknown, NameInvalid, TagInvalid, DigestInvalid}
use Rattle.hb_routes.specs.declared.methods.Method.{Method}
use Rattle.hb_routes.specs.declared.methods.Method.TheVariants.{Get, Head, Post, Put, Patch, Delete}
use Rattle.hb_routes.specs.declared.routes.Given.{Given}
use Rattle.hb_routes.specs.declared.routes.Given.TheVariants.{Absent, Invalid, Value}
use Rattle.hb_routes.specs.declared.routes.WantedJob.{WantedJob}
use Rattle.hb_routes.specs.declared.routes.WantedJob.TheVariants.{Collect, Retain}
use Rattle.hb_routes.specs.declared.routes.Route.TheVariants.{Base as BaseRoute, GetBlob, HeadBlob, BeginUpload, PushBlob, MountBlob, GrowUpload, FinishUpload, ShowUpload, PutManifest, GetManifest, HeadManifest, DeleteManifest, ListTags, PutProject, ShowProject, PutRules, QueueJob, ShowJob}

-- ---- texts of a path
abbrev pub WithName : List ℕ → (List ℕ → Answers) → Answers
WithName = With StandsForName NameInvalid

abbrev pub WithProject : List ℕ → (List ℕ → Answers) → Answers
WithProject = With StandsForProject NameInvalid

abbrev pub WithDigest : List ℕ → (Digest → Answers) → Answers
WithDigest = With StandsForDigest DigestInvalid

abbrev pub WithTag : List ℕ → (List ℕ → Answers) → Answers
WithTag = With StandsForTag TagInvalid

-- a reference with a colon is read as a digest, and any other one as a tag
abbrev pub WithReference : List ℕ → (Reference → Answers) → Answers
WithReference text Rest r =
    ((has_colon text ≡ true) × WithDigest text (λ digest. Rest (ByDigest digest)) r)
    ⊎ ((has_colon text ≡ false) × WithTag text (λ tag. Rest (Tag tag)) r)

-- an id that is no number names no upload or job, and is no fault here
abbrev pub WithId : List ℕ → (Option ℕ → Answers) → Answers
WithId text = For (IsValueOf IsNumber text)

-- ---- what a POST of uploads asks for
-- By the values of `mount`, `digest` and `from`: a mount, a whole blob, or an upload that is to begin. A
-- repository to mount from that isn't named is none, and none is named by a text that is no name.
abbrev pub IsBegun : List ℕ → Option (List ℕ) → Option (List ℕ) → Option (List ℕ) → Answers
IsBegun name (Some mount) digest from =
    WithDigest mount (λ mounted. For (IsTaken StandsForName from) (λ giver. Is (Ok (MountBlob name mounted giver))))
IsBegun name None (Some digest) from = WithDigest digest (λ pushed. Is (Ok (PushBlob name pushed)))
IsBegun name None None from = Is (Ok (BeginUpload name))

-- ---- which job is wanted
-- untagged artifacts are collected too where `untagged` is `true`, and not where it is anything else
abbrev pub IsWanted : List ℕ → Given WantedJob → Type 0
IsWanted query Absent = value_of (codes "kind") query ≡ None
IsWanted query Invalid =
    (kind : List ℕ) × (value_of (codes "kind") query ≡ Some kind) × (kind ≢ codes "collect") × (kind ≢ codes "retain")
IsWanted query (Value (Collect untagged)) =
    (value_of (codes "kind") query ≡ Some (codes "collect")) × (untagged ≡ is_same (value_or_empty (codes "untagged") query) (codes "true"))
IsWanted query (Value (Retain project)) =
    (value_of (codes "kind") query ≡ Some (codes "retain")) × IsGiven StandsForProject (value_of (codes "project") query) project

-- ---- the table
-- What a method asks of a resource, and with which query. A row that isn't here is a method that the
-- resource doesn't have.
abbrev pub IsServed : Resource → Method → List ℕ → Answers
IsServed Base Get query = Is (Ok BaseRoute)
IsServed (Blob name digest) Get query = WithName name (λ n. WithDigest digest (λ d. Is (Ok (GetBlob n d))))
IsServed (Blob name digest) Head query = WithName name (λ n. WithDigest digest (λ d. Is (Ok (HeadBlob n d))))
IsServed (Uploads name) Post query =
    WithName name (λ n. IsBegun n (value_of (codes "mount") query) (value_of (codes "digest") query) (value_of (codes "from") query))
IsServed (Upload name id) Patch query = WithName name (λ n. WithId id (λ upload. Is (Ok (GrowUpload n upload))))
IsServed (Upload name id) Put query =
    WithName name (λ n. WithDigest (value_or_empty (codes "digest") query) (λ d. WithId id (λ upload. Is (Ok (FinishUpload n upload d)))))
IsServed (Upload name id) Get query = WithName name (λ n. WithId id (λ upload. Is (Ok (ShowUpload n upload))))
IsServed (Manifest name reference) Put query = WithName name (λ n. WithReference reference (λ r. Is (Ok (PutManifest n r))))
IsServed (Manifest name reference) Get query = WithName name (λ n. WithReference reference (λ r. Is (Ok (GetManifest n r))))
IsServed (Manifest name reference) Head query = WithName name (λ n. WithReference reference (λ r. Is (Ok (HeadManifest n r))))
IsServed (Manifest name reference) Delete query = WithName name (λ n. WithReference reference (λ r. Is (Ok (DeleteManifest n r))))
IsServed (Tags name) Get query =
    WithName name (λ n. For (IsTaken StandsForTag (value_of (codes "last") query)) (λ last. For (IsMost (value_of (codes "n") query)) (λ most. Is (Ok (ListTags n last most)))))
IsServed (Project name) Put query =
    WithProject name (λ n. For (IsGiven StandsForLimit (value_of (codes "limit") query)) (λ limit. For (IsGiven IsNumber (value_of (codes "version") query)) (λ version. Is (Ok (PutProject n limit version)))))
IsServed (Project name) Get query = WithProject name (λ n. Is (Ok (ShowProject n)))
IsServed (Rules name) Put query = WithProject name (λ n. Is (Ok (PutRules n)))
IsServed Jobs Post query = For (IsWanted query) (λ kind. Is (Ok (QueueJob kind)))
IsServed (Job id) Get query = WithId id (λ job. Is (Ok (ShowJob job)))
IsServed _ _ query = Is (Err MethodUnknown)

-- a path that names nothing is refused before the method is looked at
abbrev pub IsServedAt : Option Resource → Method → List ℕ → Answers
IsServedAt None method query = Is (Err Unknown)
IsServedAt (Some resource) method query = IsServed resource method query

-- the route of a request, or what it is refused for
abbrev pub IsRouted : List ℕ → List ℕ → Answers
IsRouted method target = IsServedAt (resource_of (path_of target)) (method_of method) (query_of target)
