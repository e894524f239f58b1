-- What a reply commits is legal.
use Rattle.std.proofs.Common.{◌≡◌, ◌≤◌, ◌<◌, ◌+◌, ℕ, suc, Bool, true, false, not, cond, ◌&&◌, ◌||◌, List, [], ◌∷◌, length, Option, Some, None, Ok, is_some, unwrap_or, nat_eq, nat_lt, find, option_map, option_and_then, refl, sym, ap, subst, ◌∙◌, inl, arith}
use Rattle.std.proofs.lemmas.Bool.Decides.{nat_tests}
use Rattle.std.specs.List.{AllByRecursion, list_any, position, position_or_len}
use Rattle.hb_text.specs.declared.digests.Digest.{Digest}
use Rattle.hb_text.specs.Names.{project_of}
use Rattle.hb_records.specs.Entries.{AuditEntry}
use Rattle.hb_records.specs.Selectors.{takes_tag, is_immutable}
use Rattle.hb_records.specs.declared.entries.EntryKind.{EntryKind}
use Rattle.hb_records.specs.declared.entries.EntryKind.TheVariants as entry
use Rattle.hb_records.specs.declared.notes.Placement.{Placement}
use Rattle.hb_records.specs.declared.puts.PutAsk.{PutAsk}
use Rattle.hb_model.specs.Words.{WINDOW, some_and, same_digest, has_kind, since_kind}
use Rattle.hb_model.specs.Registry.{ProjectItem, PairItem, ArtifactItem, TagItem, UploadItem, StoredItem, project_in, upload_in, pair_in, artifact_in, tag_in, stored_in}
use Rattle.hb_model.specs.Replay.{replay}
use Rattle.hb_model.specs.Moves.{stores, takes_digest}
use Rattle.hb_model.specs.Presence.{last_taking}
use Rattle.hb_model.specs.History.{LegalKind, Legal, latest}
use Rattle.hb_model.specs.LegalBlobs.{fits_limit, LegalAssociated}
use Rattle.hb_model.specs.LegalArtifacts.{may_set, may_set_tag}
use Rattle.hb_desk.specs.Calls.{Call, Asked, StageTaken, StagePlaced, StageDropped, BlobOpened, ManifestOpened, Tells, Dropped}
use Rattle.hb_desk.specs.Notes.{is_out, placement_of}
use Rattle.hb_desk.specs.Refusing.{unless, spent, no_project, no_upload, no_upload_of, busy, out_of_order, missing_ref, missing_child, immutable_tag, moved_tag, rule_refusal, over_limit, still_collecting, raced}
use Rattle.hb_desk.specs.Reply.{Reply, refuse, refused, gives, commits, reply, reply_ask, show_project, touch_pair, end_upload, seal, seal_manifest, settle, settled_size, put, named_by, look_at, take_stage, drop_stage, open_pair, open_artifact}
use Rattle.hb_desk.specs.State.{State}
use Rattle.hb_desk.specs.declared.asks.Ask.{Ask}
use Rattle.hb_desk.specs.declared.asks.Ask.TheVariants.{ShowProject, TouchBlob, BeginUpload, EndUpload, Seal, SealManifest, Settle, PutArtifact, Look, NotePull}
use Rattle.hb_desk.specs.declared.refusals.Refusal.{Refusal}
use Rattle.hb_desk.specs.declared.refusals.Refusal.TheVariants.{NoProject, UploadUnknown, Busy, Immutable, Collecting, JobUnknown}
use Rattle.hb_desk.specs.declared.told.Told.{Told}
use Rattle.hb_desk.specs.declared.told.Told.TheVariants as told

-- ---- a reply that has an entry met no refusal
-- the entry of a reply is this kind
abbrev pub Makes : Reply → EntryKind → Type 0
Makes r kind = r.entry ≡ Some kind

pub no-refusal : (cause : Option Refusal) (r : Reply) (kind : EntryKind) → Makes (refuse cause r) kind → (cause ≡ None) × Makes r kind
no-refusal None r kind h = (refl, h)
no-refusal (Some x) r kind h = cc h

pub committed : (j : List AuditEntry) (x : Told) (made kind : EntryKind) → Makes (commits j x made) kind → made ≡ kind
committed j x made kind h = option_some (no-refusal (spent j) (record { outcome = Ok (Tells x); entry = Some made }) kind h).1
  where
    option_some : Some made ≡ Some kind → made ≡ kind
    option_some e = cc e

pub held : (b : Bool) (x : Refusal) → unless b x ≡ None → b ≡ true
held true x h = refl
held false x h = cc h

-- an entry that is legal at an audit at which a project or an upload is there
is-legal : (j : List AuditEntry) (t : ℕ) (kind : EntryKind) → latest j ≤ t → (j ≡ [] → ⊥) → LegalKind j t kind → Legal j (record { number = suc (length j); moment = t; kind = kind })
is-legal j t kind later begun legal = record { numbered = refl; later = later; opens = λ e. absurd (begun e); kind = legal }

-- an audit of which something is left isn't empty
begun-project : (j : List AuditEntry) (p : List ℕ) → is_some (project_in (replay j) p) ≡ true → j ≡ [] → ⊥
begun-project j p h e = let none : is_some (project_in (replay []) p) ≡ true = subst (λ j. is_some (project_in (replay j) p) ≡ true) e h in cc none

begun-upload : (j : List AuditEntry) (upload : ℕ) → is_some (upload_in (replay j) upload) ≡ true → j ≡ [] → ⊥
begun-upload j upload h e = let none : is_some (upload_in (replay []) upload) ≡ true = subst (λ j. is_some (upload_in (replay j) upload) ≡ true) e h in cc none

begun-artifact : (j : List AuditEntry) (name : List ℕ) (d : Digest) → is_some (artifact_in (replay j) name d) ≡ true → j ≡ [] → ⊥
begun-artifact j name d h e = let none : is_some (artifact_in (replay []) name d) ≡ true = subst (λ j. is_some (artifact_in (replay j) name d) ≡ true) e h in cc none

-- ---- what the refusals that don't come say
not-collecting : (x : Option AuditEntry) (t : ℕ) → option_and_then (λ taking. unless (not (nat_lt t (taking.moment + WINDOW))) (Collecting (taking.moment + WINDOW))) x ≡ None → some_and (λ taking. nat_lt t (taking.moment + WINDOW)) x ≡ false
not-collecting None t h = refl
not-collecting (Some e) t h = not-true (nat_lt t (e.moment + WINDOW)) (held (not (nat_lt t (e.moment + WINDOW))) (Collecting (e.moment + WINDOW)) h)
  where
    not-true : (b : Bool) → not b ≡ true → b ≡ false
    not-true true h = cc h
    not-true false h = refl

within-limit : (b : Bool) (x : Option ProjectItem) (f : ProjectItem → Refusal) → is_some x ≡ true → cond b None (option_map f x) ≡ None → b ≡ true
within-limit true x f known h = refl
within-limit false None f known h = cc known
within-limit false (Some x) f known h = cc h

-- what is present is settled with the size that is stored
pub present-size : (x : Option StoredItem) (free : Bool) (n : ℕ) → (is_some x && free) ≡ true → option_map (λ (x : StoredItem). x.size) x ≡ Some (unwrap_or (cond (is_some x && free) (option_map (λ (x : StoredItem). x.size) x) None) n)
present-size None free n h = cc h
present-size (Some x) true n h = refl
present-size (Some x) false n h = cc h

none-missing : (has : Digest → Bool) (f : Digest → Refusal) (ds : List Digest) → option_map f (find (λ d. not (has d)) ds) ≡ None → AllByRecursion (λ d. has d ≡ true) ds
none-missing has f [] h = tt
none-missing has f (d ∷ ds) h = go (has d) refl h (none-missing has f ds)
  where
    go : (b : Bool) → has d ≡ b → option_map f (cond (not b) (Some d) (find (λ d. not (has d)) ds)) ≡ None → (option_map f (find (λ d. not (has d)) ds) ≡ None → AllByRecursion (λ d. has d ≡ true) ds) → (has d ≡ true) × AllByRecursion (λ d. has d ≡ true) ds
    go true is h rest = (is, rest h)
    go false is h rest = cc h

-- where no rule has a place, none takes the tag
any-placed : {X : Type 0} (p : X → Bool) (xs : List X) → list_any p xs ≡ true → position_or_len p xs < length xs
any-placed p [] h = cc h
any-placed p (x ∷ xs) h = go (p x) h (any-placed p xs)
  where
    go : (b : Bool) → (b || list_any p xs) ≡ true → (list_any p xs ≡ true → position_or_len p xs < length xs) → cond (not b) (1 + position_or_len p xs) 0 < suc (length xs)
    go true h rest = omega arith
    go false h rest = omega (arith, rest h)

none-takes : {X : Type 0} (p : X → Bool) (f : ℕ → Refusal) (xs : List X) → option_map f (position p xs) ≡ None → list_any p xs ≡ false
none-takes p f xs h = go (list_any p xs) refl
  where
    go : (b : Bool) → list_any p xs ≡ b → b ≡ false
    go true is =
        let less = any-placed p xs is in
        let within : nat_lt (position_or_len p xs) (length xs) ≡ true = grind (arith, nat_tests) in
        let none : option_map f (Some (position_or_len p xs)) ≡ None = ap (λ t. option_map f (cond t (Some (position_or_len p xs)) None)) (sym within) ∙ h in
        cc none
    go false is = refl

may-move : (same : Bool) (name tag : List ℕ) (project : Option ProjectItem) → is_some project ≡ true → cond same None (option_and_then (rule_refusal name tag) project) ≡ None → (same || not (some_and (λ project. is_immutable project.rules name tag) project)) ≡ true
may-move true name tag project known h = refl
may-move false name tag None known h = cc known
may-move false name tag (Some project) known h = ap not (none-takes (λ rule. takes_tag rule name tag) (λ before. Immutable (suc before)) project.rules.immutes h)

may-tag : (j : List AuditEntry) (name : List ℕ) (d : Digest) (tag : Option (List ℕ)) → is_some (project_in (replay j) (project_of name)) ≡ true → immutable_tag j name d tag ≡ None → may_set_tag (replay j) name d tag ≡ true
may-tag j name d None known h = refl
may-tag j name d (Some tag) known h = go (tag_in (replay j) name tag) h
  where
    go : (x : Option TagItem) → moved_tag j name d tag x ≡ None → may_set (replay j) name d tag x ≡ true
    go None h = refl
    go (Some x) h = may-move (same_digest d x.digest) name tag (project_in (replay j) (project_of name)) known h

-- content that may be associated with what a placement has
associates : (j : List AuditEntry) (t : ℕ) (p : List ℕ) (d : Digest) (x : Placement) → is_some (project_in (replay j) p) ≡ true → over_limit j p d (settled_size j d x) ≡ None → still_collecting j d t ≡ None → LegalAssociated j t p d (settled_size j d x)
associates j t p d x known within free = record {
  known = known;
  free = not-collecting (last_taking j d) t free;
  fits = within-limit (fits_limit j p d (settled_size j d x)) (project_in (replay j) p) _ known within;
  same_size = λ h. present-size (stored_in (replay j) d) (not (has_kind (takes_digest d) (since_kind (stores d) j))) x.size h;
}

-- ---- call by call
abbrev pub LegalNext : List AuditEntry → ℕ → EntryKind → Type 0
LegalNext j t kind = Legal j (record { number = suc (length j); moment = t; kind = kind })

ends-upload : (j : List AuditEntry) (t upload : ℕ) (kind : EntryKind) → latest j ≤ t → is_some (upload_in (replay j) upload) ≡ true → Makes (commits j told.Done (entry.UploadEnded 0 upload)) kind → LegalNext j t kind
ends-upload j t upload kind later known h =
    is-legal j t kind later (begun-upload j upload known) (subst (LegalKind j t) (committed j told.Done (entry.UploadEnded 0 upload) kind h) (record { known = known; by_job = inl refl }))

seal-legal : (j : List AuditEntry) (t upload : ℕ) (d : Digest) (size : ℕ) (x : Option UploadItem) (kind : EntryKind) → latest j ≤ t → upload_in (replay j) upload ≡ x → Makes (seal j t upload d size x) kind → LegalNext j t kind
seal-legal j t upload d size None kind later is h = cc h
seal-legal j t upload d size (Some x) kind later is h =
    let a = no-refusal (over_limit j (project_of x.name) d size) _ kind h in
    let b = no-refusal (still_collecting j d t) _ kind a.1 in
    ends-upload j t upload kind later (ap (λ (y : Option UploadItem). is_some y) is) b.1

pub some-known : (test : UploadItem → Bool) (x : Option UploadItem) → some_and test x ≡ true → is_some x ≡ true
some-known test None h = cc h
some-known test (Some x) h = refl

seal-manifest-legal : (j : List AuditEntry) (t upload : ℕ) (p : PutAsk) (kind : EntryKind) → latest j ≤ t → Makes (seal_manifest j t upload p) kind → LegalNext j t kind
seal-manifest-legal j t upload p kind later h =
    let a = no-refusal (no_upload_of j p.name upload) _ kind h in
    let b = no-refusal (missing_ref j (project_of p.name) p.refs) _ kind a.1 in
    let c = no-refusal (missing_child j p.name p.children) _ kind b.1 in
    let d = no-refusal (immutable_tag j p.name p.digest p.tag) _ kind c.1 in
    let e = no-refusal (over_limit j (project_of p.name) p.digest p.size) _ kind d.1 in
    let f = no-refusal (still_collecting j p.digest t) _ kind e.1 in
    ends-upload j t upload kind later (some-known _ (upload_in (replay j) upload) (held _ UploadUnknown a.0)) f.1

settle-legal : (j : List AuditEntry) (t : ℕ) (name : List ℕ) (d : Digest) (x : Option Placement) (kind : EntryKind) → latest j ≤ t → is_some (project_in (replay j) (project_of name)) ≡ true → Makes (settle j t name d x) kind → LegalNext j t kind
settle-legal j t name d None kind later known h = cc h
settle-legal j t name d (Some x) kind later known h =
    let a = no-refusal (over_limit j (project_of name) d (settled_size j d x)) _ kind h in
    let b = no-refusal (still_collecting j d t) _ kind a.1 in
    let c = no-refusal (raced j d x) _ kind b.1 in
    is-legal j t kind later (begun-project j (project_of name) known)
    (subst (LegalKind j t) (committed j told.Done (entry.Associated (project_of name) d (settled_size j d x)) kind c.1) (associates j t (project_of name) d x known a.0 b.0))

put-legal : (j : List AuditEntry) (t : ℕ) (p : PutAsk) (x : Option Placement) (kind : EntryKind) → latest j ≤ t → is_some (project_in (replay j) (project_of p.name)) ≡ true → Makes (put j t p x) kind → LegalNext j t kind
put-legal j t p None kind later known h = cc h
put-legal j t p (Some x) kind later known h =
    let a = no-refusal (missing_ref j (project_of p.name) p.refs) _ kind h in
    let b = no-refusal (missing_child j p.name p.children) _ kind a.1 in
    let c = no-refusal (immutable_tag j p.name p.digest p.tag) _ kind b.1 in
    let d = no-refusal (over_limit j (project_of p.name) p.digest (settled_size j p.digest x)) _ kind c.1 in
    let e = no-refusal (still_collecting j p.digest t) _ kind d.1 in
    let f = no-refusal (raced j p.digest x) _ kind e.1 in
    is-legal j t kind later (begun-project j (project_of p.name) known)
    (subst (LegalKind j t) (committed j told.Done (entry.ArtifactPut p.name p.digest (settled_size j p.digest x) p.media p.refs p.children p.tag) kind f.1) (record {
      own = associates j t (project_of p.name) p.digest x known d.0 e.0;
      has_refs = none-missing (λ r. is_some (pair_in (replay j) (project_of p.name) r)) _ p.refs a.0;
      has_children = none-missing (λ r. is_some (artifact_in (replay j) p.name r)) _ p.children b.0;
      may_set = may-tag j p.name p.digest p.tag known c.0;
    }))

pub show-none : (j : List AuditEntry) (p : List ℕ) (x : Option ProjectItem) (kind : EntryKind) → Makes (show_project j p x) kind → ⊥
show-none j p None kind h = cc h
show-none j p (Some x) kind h = cc h

touch-legal : (j : List AuditEntry) (t : ℕ) (p : List ℕ) (d : Digest) (x : Option PairItem) (kind : EntryKind) → latest j ≤ t → is_some (project_in (replay j) p) ≡ true → pair_in (replay j) p d ≡ x → Makes (touch_pair j p d x) kind → LegalNext j t kind
touch-legal j t p d None kind later known is h = cc h
touch-legal j t p d (Some x) kind later known is h = is-legal j t kind later (begun-project j p known) (subst (LegalKind j t) (committed j (told.Blob x.size) (entry.Touched p d) kind h) (record { known = ap (λ (y : Option PairItem). is_some y) is }))

pub look-none : (x : Option ArtifactItem) (kind : EntryKind) → Makes (look_at x) kind → ⊥
look-none None kind h = cc h
look-none (Some x) kind h = cc h

pull-legal : (j : List AuditEntry) (t : ℕ) (name : List ℕ) (d : Digest) (b : Bool) (kind : EntryKind) → latest j ≤ t → is_some (artifact_in (replay j) name d) ≡ b → Makes (cond b (commits j told.Done (entry.Pulled name d)) (gives (Tells told.Nothing))) kind → LegalNext j t kind
pull-legal j t name d true kind later known h = is-legal j t kind later (begun-artifact j name d known) (subst (LegalKind j t) (committed j told.Done (entry.Pulled name d) kind h) (record { known = known }))
pull-legal j t name d false kind later known h = cc h

ask-legal : (ask : Ask) (s : State) (t : ℕ) (kind : EntryKind) → latest s.audit ≤ t → Makes (reply_ask ask s t) kind → LegalNext s.audit t kind
ask-legal (ShowProject name) s t kind later h = absurd (show-none s.audit name (project_in (replay s.audit) name) kind h)
ask-legal (TouchBlob name d) s t kind later h =
    let a = no-refusal (no_project s.audit (project_of name)) _ kind h in
    touch-legal s.audit t (project_of name) d (pair_in (replay s.audit) (project_of name) d) kind later (held _ NoProject a.0) refl a.1
ask-legal (BeginUpload name) s t kind later h =
    let a = no-refusal (no_project s.audit (project_of name)) _ kind h in
    let known = held (is_some (project_in (replay s.audit) (project_of name))) NoProject a.0 in
    is-legal s.audit t kind later (begun-project s.audit (project_of name) known) (subst (LegalKind s.audit t) (committed s.audit (told.Begun (suc (length s.audit))) (entry.UploadBegun name) kind a.1) (record { known = known }))
ask-legal (EndUpload job upload) s t kind later h = go (nat_eq job 0) h
  where
    go : (b : Bool) → Makes (cond b (end_upload s.audit upload) (refused JobUnknown)) kind → LegalNext s.audit t kind
    go true h = let a = no-refusal (no_upload s.audit upload) _ kind h in ends-upload s.audit t upload kind later (held _ UploadUnknown a.0) a.1
    go false h = cc h
ask-legal (Seal upload d size) s t kind later h = seal-legal s.audit t upload d size (upload_in (replay s.audit) upload) kind later refl h
ask-legal (SealManifest upload p) s t kind later h = seal-manifest-legal s.audit t upload p kind later h
ask-legal (Settle name upload d) s t kind later h =
    let a = no-refusal (no_project s.audit (project_of name)) _ kind h in
    settle-legal s.audit t name d (placement_of s.notes upload d) kind later (held _ NoProject a.0) a.1
ask-legal (PutArtifact upload p) s t kind later h =
    let a = no-refusal (no_project s.audit (project_of p.name)) _ kind h in
    put-legal s.audit t p (placement_of s.notes upload p.digest) kind later (held _ NoProject a.0) a.1
ask-legal (Look name ref) s t kind later h =
    let a = no-refusal (no_project s.audit (project_of name)) _ kind h in
    absurd (look-none (named_by (replay s.audit) name ref) kind a.1)
ask-legal (NotePull name d) s t kind later h = pull-legal s.audit t name d (is_some (artifact_in (replay s.audit) name d)) kind later refl h

-- ---- the other calls make no entry
module _ (kind : EntryKind) where
  stage-none : (s : State) (upload : ℕ) (start : Option ℕ) (x : Option UploadItem) → Makes (take_stage s upload start x) kind → ⊥
  stage-none s upload start None h = cc h
  stage-none s upload start (Some x) h = let a = no-refusal (busy s.notes upload) _ kind h in let b = no-refusal (out_of_order start x.offset) _ kind a.1 in cc b.1

  drop-none : (s : State) (upload : ℕ) (handed : Bool) → Makes (drop_stage s upload handed) kind → ⊥
  drop-none s upload true h = cc h
  drop-none s upload false h = go (is_out s.notes upload || is_some (upload_in (replay s.audit) upload)) h
    where
      go : (b : Bool) → Makes (cond b (refused (Busy upload)) (gives Dropped)) kind → ⊥
      go true h = cc h
      go false h = cc h

  pair-none : (x : Option PairItem) → Makes (open_pair x) kind → ⊥
  pair-none None h = cc h
  pair-none (Some x) h = cc h

  artifact-none : (x : Option ArtifactItem) → Makes (open_artifact x) kind → ⊥
  artifact-none None h = cc h
  artifact-none (Some x) h = cc h

-- an ask, which may make an entry
abbrev pub is_ask : Call → Bool
is_ask (Asked ask) = true
is_ask call = false

makes-none : (s : State) (call : Call) (t : ℕ) (kind : EntryKind) → is_ask call ≡ false → Makes (reply call s t) kind → ⊥
makes-none s (Asked ask) t kind other h = cc other
makes-none s (StageTaken name upload start) t kind other h =
    let a = no-refusal (no_project s.audit (project_of name)) _ kind h in
    let b = no-refusal (no_upload_of s.audit name upload) _ kind a.1 in
    stage-none kind s upload start (upload_in (replay s.audit) upload) b.1
makes-none s (StagePlaced upload d) t kind other h = let a = no-refusal (still_collecting s.audit d t) _ kind h in cc a.1
makes-none s (StageDropped upload handed) t kind other h = drop-none kind s upload handed h
makes-none s (BlobOpened name d) t kind other h =
    let a = no-refusal (no_project s.audit (project_of name)) _ kind h in
    pair-none kind (pair_in (replay s.audit) (project_of name) d) a.1
makes-none s (ManifestOpened name ref) t kind other h =
    let a = no-refusal (no_project s.audit (project_of name)) _ kind h in
    artifact-none kind (named_by (replay s.audit) name ref) a.1

pub no-entry : (call : Call) → is_ask call ≡ false → (s : State) (t : ℕ) → (reply call s t).entry ≡ None
no-entry call other s t = go (reply call s t).entry (λ kind h. makes-none s call t kind other h)
  where
    go : (made : Option EntryKind) → ((kind : EntryKind) → made ≡ Some kind → ⊥) → made ≡ None
    go None none = refl
    go (Some kind) none = absurd (none kind refl)

pub reply-legal : (s : State) (call : Call) (t : ℕ) (kind : EntryKind) → latest s.audit ≤ t → (reply call s t).entry ≡ Some kind → LegalNext s.audit t kind
reply-legal s (Asked ask) t kind later h = ask-legal ask s t kind later h
reply-legal s (StageTaken name upload start) t kind later h = absurd (makes-none s (StageTaken name upload start) t kind refl h)
reply-legal s (StagePlaced upload d) t kind later h = absurd (makes-none s (StagePlaced upload d) t kind refl h)
reply-legal s (StageDropped upload handed) t kind later h = absurd (makes-none s (StageDropped upload handed) t kind refl h)
reply-legal s (BlobOpened name d) t kind later h = absurd (makes-none s (BlobOpened name d) t kind refl h)
reply-legal s (ManifestOpened name ref) t kind later h = absurd (makes-none s (ManifestOpened name ref) t kind refl h)
