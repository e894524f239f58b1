-- What came of the operations of requests, and their answers.
use Rattle.std.proofs.Common.{◌≡◌, ◌≢◌, ◌⊎◌, if◌then◌else◌, ℕ, true, false, List, [], Option, Some, Result, Ok, Err, IfOk, codes, inl, inr, refl, sym, ap, subst, ◌∙◌}
use Rattle.hb_text.specs.Digests.{digest_of}
use Rattle.hb_text.specs.declared.digests.Digest.{Digest}
use Rattle.hb_text.specs.declared.references.Reference.{Reference}
use Rattle.hb_http.specs.AnswerHeads.{HasPhrase}
use Rattle.hb_desk.specs.Chains.{Driven}
use Rattle.hb_desk.specs.Points.{Point}
use Rattle.hb_desk.specs.ClockedDesks.{ClockedDesk}
use Rattle.hb_desk.specs.declared.answers.Answer.{Answer}
use Rattle.hb_desk.specs.declared.refusals.Refusal.{Refusal}
use Rattle.hb_upload.specs.Deciding.{decided}
use Rattle.hb_upload.specs.Phases.{is_ended, place_at}
use Rattle.hb_upload.specs.Places.{Calls, Parcel, Stopped, place_of}
use Rattle.hb_upload.specs.Pushes.{PushParts, Went}
use Rattle.hb_upload.specs.declared.phase.Phase.{Phase}
use Rattle.hb_upload.specs.declared.phase.Phase.TheVariants as phase
use Rattle.hb_upload.specs.declared.phase.Stop.{Stop}
use Rattle.hb_ops.specs.Checks.{CheckParts, LeadTo as CheckedBy, Went as CheckWent, decided as checked_by}
use Rattle.hb_ops.specs.declared.checks.Checked.{Checked}
use Rattle.hb_ops.specs.Errors.{ErrorForm, error_answer, plain}
use Rattle.hb_ops.specs.Gets.{GetParts, HasDigest, LeadTo, PhaseFits as GetFits, Went as GetWent, decided as got_by, read_of}
use Rattle.hb_ops.specs.declared.gets.Got.{Got}
use Rattle.hb_ops.specs.declared.gets.Phase.TheVariants as get
use Rattle.hb_manifest.specs.Forms.{manifest_form}
use Rattle.hb_manifest.specs.declared.manifests.ManifestFault.{ManifestFault}
use Rattle.hb_manifest.specs.declared.manifests.ManifestFault.TheVariants as manifest
use Rattle.hb_talk.specs.Driving.{IsRefused, Worked}
use Rattle.hb_talk.specs.Tasks.{Makes, ReadsTrue, Task, answer_of, checked_answer, got_answer, location_of, manifest_error, manifest_task, names_other, push_answer, task_of, wrong_digest}
use Rattle.hb_talk.specs.Tasks.Task.{Pushes, Gets, Checks, Refuses, Tells}
use Rattle.hb_talk.specs.declared.wanted.Wanted.TheVariants.{PutManifest}

-- ---- each status that is answered has a phrase

-- a fault without a detail
pub plain-manifest : (fault : ManifestFault) → (fault ≡ manifest.MediaUnknown) ⊎ ((fault ≡ manifest.NotJson) ⊎ ((fault ≡ manifest.NoSchema) ⊎ (fault ≡ manifest.TooMany))) → manifest_error fault ≡ plain 400 (codes "MANIFEST_INVALID")
plain-manifest fault (inl is) = ap manifest_error is
plain-manifest fault (inr (inl is)) = ap manifest_error is
plain-manifest fault (inr (inr (inl is))) = ap manifest_error is
plain-manifest fault (inr (inr (inr is))) = ap manifest_error is

pub manifest-phrase : (fault : ManifestFault) → HasPhrase (manifest_error fault).status
manifest-phrase (manifest.BadDescriptor place) = refl
manifest-phrase manifest.TooLong = refl
manifest-phrase manifest.Memory = refl
manifest-phrase manifest.MediaUnknown = refl
manifest-phrase manifest.NotJson = refl
manifest-phrase manifest.NoSchema = refl
manifest-phrase manifest.TooMany = refl

-- ---- a task without an event
pub not-begun : {E : Type 0} (Streams : Option Refusal → Type 0) (task : Task) (v : ClockedDesk) (e : E) → Worked Streams task v v (Err e)
not-begun Streams task v e = record { points = []; chain = refl; done = tt; left = inl refl }

pub refused-worked : {E : Type 0} (Streams : Option Refusal → Type 0) (error : ErrorForm) (v : ClockedDesk) (result : Result Answer E) → IfOk result (λ a. a ≡ error_answer error) → Worked Streams (Refuses error) v v result
refused-worked Streams error v (Err e) is = not-begun Streams (Refuses error) v e
refused-worked Streams error v (Ok a) is = record { points = []; chain = refl; done = ([], record { makes = refl; answers = is; reads = tt; streams = tt }); left = tt }

pub told-worked : {E : Type 0} (Streams : Option Refusal → Type 0) (answer : Answer) (v : ClockedDesk) (result : Result Answer E) → IfOk result (λ a. a ≡ answer) → Worked Streams (Tells answer) v v result
told-worked Streams answer v (Err e) is = not-begun Streams (Tells answer) v e
told-worked Streams answer v (Ok a) is = record { points = []; chain = refl; done = ([], record { makes = refl; answers = is; reads = tt; streams = tt }); left = tt }

-- ---- a manifest that was read
-- where the reference isn't another digest, the form of the body decides
pub refused-form : (name : List ℕ) (r : Reference) (media : Option (List ℕ)) (body : List ℕ) (found : Digest) (a : Answer) (fault : ManifestFault) → found ≡ digest_of body → names_other r found ≡ false → (fault ≢ manifest.Memory → manifest_form media body ≡ Err fault) → (fault ≢ manifest.Memory) × (a ≡ error_answer (manifest_error fault)) → IsRefused (task_of (PutManifest name r) media body) a
refused-form name r media body found a fault found_is same form is = record {
  error = manifest_error fault;
  task_is = ap (λ b. if b then Refuses (wrong_digest (digest_of body)) else manifest_task name r body (manifest_form media body)) (ap (names_other r) (sym found_is) ∙ same) ∙ ap (manifest_task name r body) (form is.0);
  answer_is = is.1;
  phrase = subst (λ a. HasPhrase a.status) (sym is.1) (manifest-phrase fault);
}

-- the task that is pushed is the manifest's
pub as-task : {E : Type 0} (Streams : Option Refusal → Type 0) (task task' : Task) (old new : ClockedDesk) (result : Result Answer E) → task ≡ task' → Worked Streams task' old new result → Worked Streams task old new result
as-task Streams task task' old new result same worked = subst (λ task. Worked Streams task old new result) (sym same) worked

pub refused-task : (E : Type 0) (Streams : Option Refusal → Type 0) (task : Task) (a : Answer) (v : ClockedDesk) → IsRefused task a → Worked {E = E} Streams task v v (Ok a)
refused-task E Streams task a v is = as-task Streams task (Refuses is.error) v v (Ok a) is.task_is (refused-worked Streams is.error v (Ok a) is.answer_is)

-- a task that was driven to its end, by points that decide its answer
driven-worked : {E : Type 0} (Streams : Option Refusal → Type 0) (task : Task) (old new : ClockedDesk) (Went : List Point → Type 0) (read : List ℕ) (told : Answer) (result : Result Answer E) → (driven : Driven Streams old new Went) → Makes task driven.points → told ≡ answer_of task driven.points read → ReadsTrue old.view.told_bytes task driven.points read → IfOk result (λ a. a ≡ told) → Worked Streams task old new result
driven-worked Streams task old new Went read told (Err e) driven makes decides reads answer = record { points = driven.points; chain = driven.chain; done = tt; left = inr (makes, driven.streams) }
driven-worked Streams task old new Went read told (Ok a) driven makes decides reads answer = record {
  points = driven.points;
  chain = driven.chain;
  done = (read, record { makes = makes; answers = answer ∙ decides; reads = reads; streams = driven.streams });
  left = tt;
}

-- ---- a push that was driven to its end
stopped-at : {T : Type 0} (p : Phase T) → is_ended p ≡ true → (stop : Stop) × (place_at p ≡ Stopped stop)
stopped-at (phase.Ended stop) is = (stop, refl)
stopped-at phase.Begin is = cc is
stopped-at (phase.Stage u) is = cc is
stopped-at (phase.Seal u s) is = cc is
stopped-at (phase.Place u s) is = cc is
stopped-at (phase.Settle u) is = cc is
stopped-at (phase.End u s stop) is = cc is
stopped-at (phase.Drop u s stop) is = cc is

pub push-worked : {T E : Type 0} (Streams : Option Refusal → Type 0) (begun push : PushParts T) (old new : ClockedDesk) (stop : Stop) (result : Result Answer E) → Driven Streams old new (Went begun push) → is_ended push.phase ≡ true → ((points : List Point) → Went begun push points → stop ≡ decided push.parcel points) → IfOk result (λ a. a ≡ push_answer begun.parcel stop) → Worked Streams (Pushes begun.parcel) old new result
push-worked Streams begun push old new stop result driven ended is answer =
    driven-worked Streams (Pushes begun.parcel) old new (Went begun push) [] (push_answer begun.parcel stop) result driven makes
    (ap (λ stop. push_answer begun.parcel stop) (is driven.points driven.went ∙ ap (λ b. decided b driven.points) driven.went.same)) tt answer
  where
    at : (stop : Stop) × (place_at push.phase ≡ Stopped stop)
    at = stopped-at push.phase ended

    makes : Makes (Pushes begun.parcel) driven.points
    makes = subst (λ b. Calls b driven.points × ((stop : Stop) × (place_of b driven.points ≡ Stopped stop))) driven.went.same (driven.went.calls, (at.0, sym driven.went.at ∙ at.1))

-- its answer, at the location and with the digest of what was pushed
pub answer-for : {E : Type 0} (b : Parcel) (stop : Stop) (digest : Digest) (location : List ℕ) (result : Result Answer E) → location ≡ location_of b → b.digest ≡ digest → IfOk result (λ a. (b : Parcel) → location ≡ location_of b → b.digest ≡ digest → a ≡ push_answer b stop) → IfOk result (λ a. a ≡ push_answer b stop)
answer-for b stop digest location (Err e) at is answers = tt
answer-for b stop digest location (Ok a) at is answers = answers b at is

-- both a cause and a clause of what is Ok
pub ok-both : {T E P : Type 0} (Q : T → Type 0) (result : Result T E) → P → IfOk result Q → IfOk result (λ x. P × Q x)
ok-both Q (Ok x) p q = (p, q)
ok-both Q (Err e) p q = tt

-- ---- a get
pub get-worked : {E : Type 0} (Streams : Option Refusal → Type 0) (begun end : GetParts) (old new : ClockedDesk) (x : Got) (result : Result Answer E) → Driven Streams old new (GetWent begun end) → end.phase ≡ get.Ended x → ((points : List Point) → GetWent begun end points → x ≡ got_by (read_of x) points) → GetFits end.phase new.view → new.view.told_bytes ≡ old.view.told_bytes → IfOk result (λ a. a ≡ got_answer x) → Worked Streams (Gets begun.sought) old new result
get-worked Streams begun end old new x result driven ended is fits told answer =
    driven-worked Streams (Gets begun.sought) old new (GetWent begun end) (read_of x) (got_answer x) result driven makes (ap (λ x. got_answer x) same)
    (subst (λ x. HasDigest old.view.told_bytes x) same (subst (λ told. HasDigest told x) told (subst (λ p. GetFits p new.view) ended fits))) answer
  where
    same : x ≡ got_by (read_of x) driven.points
    same = is driven.points driven.went

    makes : Makes (Gets begun.sought) driven.points
    makes = (x, subst (λ sought. LeadTo sought (get.Ended x) driven.points) driven.went.same (subst (λ p. LeadTo end.sought p driven.points) ended driven.went.lead))

-- ---- a check
pub check-worked : {E : Type 0} (Streams : Option Refusal → Type 0) (begun end : CheckParts) (old new : ClockedDesk) (x : Checked) (result : Result Answer E) → Driven Streams old new (CheckWent begun end) → end.ended ≡ Some x → ((points : List Point) → CheckWent begun end points → x ≡ checked_by begun.ask points) → IfOk result (λ a. a ≡ checked_answer x) → Worked Streams (Checks begun.ask) old new result
check-worked Streams begun end old new x result driven ended is answer =
    driven-worked Streams (Checks begun.ask) old new (CheckWent begun end) [] (checked_answer x) result driven makes (ap (λ x. checked_answer x) (is driven.points driven.went)) tt answer
  where
    makes : Makes (Checks begun.ask) driven.points
    makes = (x, subst (λ ask. CheckedBy ask (Some x) driven.points) driven.went.same (subst (λ ended. CheckedBy end.ask ended driven.points) ended driven.went.lead))
