-- What an event makes of a push, and what its points decide.
use Rattle.std.proofs.Common.{◌≡◌, ℕ, Bool, true, false, cond, List, [], ◌∷◌, ◌++◌, length, Option, Some, None, Ok, Err, IsSomeAnd, is_some, inl, inr, refl, sym, ap, subst, ◌∙◌, arith}
use Rattle.hb_text.specs.Digests.{digest_of}
use Rattle.hb_text.specs.declared.digests.Digest.{Digest}
use Rattle.hb_store.specs.Bytes.{Appends}
use Rattle.hb_store.specs.Causes.{StoreCause}
use Rattle.hb_store.specs.declared.store.StoreFault.{StoreFault}
use Rattle.hb_store.specs.declared.store.StoreFault.TheVariants as store
use Rattle.hb_model.specs.Words.{same_digest}
use Rattle.hb_history.proofs.Settled.{exact-digest}
use Rattle.hb_desk.specs.Calls.{Asked, Call, Tells, StageAt, Outcome}
use Rattle.hb_desk.specs.Clause.{Causes, EventOf, Seals, View}
use Rattle.hb_desk.specs.Points.{IsStreamFault, Point, Steps, point_of}
use Rattle.hb_desk.specs.declared.told.Told.TheVariants as told
use Rattle.hb_desk.specs.declared.refusals.Refusal.{Refusal}
use Rattle.hb_desk.specs.declared.refusals.Refusal.TheVariants.{Memory, Storage}
use Rattle.hb_records.specs.declared.notes.Sealed.{Sealed}
use Rattle.hb_desk.specs.Notes.{sealed_at}
use Rattle.hb_desk.specs.Noting.{seal_of}
use Rattle.hb_desk.specs.declared.asks.Ask.{Ask}
use Rattle.hb_desk.specs.declared.asks.Ask.TheVariants.{ShowProject, TouchBlob, BeginUpload, EndUpload, Seal, SealManifest, Settle, PutArtifact, Look, NotePull}
use Rattle.hb_desk.specs.declared.told.Told.{Told}
use Rattle.hb_desk.proofs.Stepping.{between-by, stood-at, timely-by}
use Rattle.hb_upload.specs.Deciding.{begun_by, decided, earlier, first_stop, or_pushed, refused_by, stops_at, unless_right}
use Rattle.hb_upload.specs.Phases.{CalledAt, IsStageFault, OneEvent, PhaseFits, place_at}
use Rattle.hb_upload.specs.Places.{Parcel, seal_by, seal_with, settle_by, settle_with, CallAt, Calls, Place, Beginning, Staging, Sealing, Placing, Settling, Ending, Dropping, Stopped, next, place_of, staged}
use Rattle.hb_upload.specs.Pushes.{IsReady, PushParts, Went, of_upload, parcel_of, put_of}
use Rattle.hb_upload.specs.declared.phase.Given.{Given}
use Rattle.hb_records.specs.declared.puts.PutAsk.{PutAsk}
use Rattle.hb_upload.specs.declared.phase.Phase.{Phase}
use Rattle.hb_upload.specs.declared.phase.Phase.TheVariants as phase
use Rattle.hb_upload.specs.declared.phase.Stop.{Stop}
use Rattle.hb_upload.specs.declared.phase.Stop.TheVariants.{Pushed, WrongDigest, Refused}

-- ---- one event
pub one-event : {T : Type 0} (Streams : Option Refusal → Type 0) (b : Parcel) (old new : View) (now : ℕ) (made call : Call) (outcome : Outcome) (fault : Option Refusal) (at : Place) (p : Phase T) → made ≡ call → EventOf old new made outcome → Causes old new now made outcome → Streams fault → place_at p ≡ next b at new.moment outcome fault → OneEvent Streams b now old new call at p
one-event Streams b old new now made call outcome fault at p is event causes stream leads =
    let stood = stood-at old.state old new made outcome event in
    record { point = point_of old new stood.0 made outcome fault; between = between-by old new now stood.0 made outcome fault stood.1 causes; timely = timely-by old new now stood.0 made outcome fault causes; calls = is; stream = stream; leads = leads }

-- the points of a push go on
went-on : {T : Type 0} (begun push after : PushParts T) (p : Point) (points : List Point) → after.parcel ≡ push.parcel → CallAt push.parcel (place_at push.phase) p.event.call → place_at after.phase ≡ next push.parcel (place_at push.phase) p.event.moment p.event.outcome p.fault → Went begun push points → Went begun after (p ∷ points)
went-on begun push after p points same called leads went = record {
  same = same ∙ went.same;
  calls = subst (λ b. CallAt b (place_of b points) p.event.call × Calls b points) (sym same) (subst (λ at. CallAt push.parcel at p.event.call) went.at called, went.calls);
  at = leads ∙ ap (λ at. next push.parcel at p.event.moment p.event.outcome p.fault) went.at ∙ ap (λ b. next b (place_of b points) p.event.moment p.event.outcome p.fault) (sym same);
}

pub stepped : {T : Type 0} (Streams : Option Refusal → Type 0) (now : ℕ) (old new : View) (push after : PushParts T) → after.parcel ≡ push.parcel → CalledAt Streams push.parcel now old new (place_at push.phase) after.phase → Steps Streams now old new (λ begun points. Went begun push points) (λ begun points. Went begun after points)
stepped Streams now old new push after same called =
    let one = called.one in
    record {
      point = one.point;
      between = one.between;
      timely = one.timely;
      stream = one.stream;
      goes = λ begun points went. went-on begun push after one.point points same (subst (CallAt push.parcel (place_at push.phase)) (sym one.calls) called.called) one.leads went;
    }

-- ---- what the points decide
abbrev some_stop : Stop → Option Stop
some_stop Pushed = None
some_stop stop = Some stop

-- what was decided so far
abbrev stop_in : Place → Option Stop
stop_in (Ending upload held stop) = some_stop stop
stop_in (Dropping upload stop) = some_stop stop
stop_in (Stopped stop) = some_stop stop
stop_in at = None

earlier-none : (stop : Option Stop) → earlier stop None ≡ stop
earlier-none None = refl
earlier-none (Some stop) = refl

right-stop : (b : Parcel) (upload : ℕ) → stop_in (staged b upload) ≡ unless_right b None
right-stop b upload = elim (same_digest (digest_of b.bytes) b.digest) as (λ r. stop_in (cond r (Sealing upload) (Ending upload true (WrongDigest (digest_of b.bytes)))) ≡ cond r None (Some (WrongDigest (digest_of b.bytes)))) [ true ↦ refl | false ↦ refl ]

begin-stop : (b : Parcel) (t : ℕ) (outcome : Outcome) (fault : Option Refusal) → stop_in (next b Beginning t outcome fault) ≡ begun_by t outcome
begin-stop b t (Err refusal) fault = refl
begin-stop b t (Ok (Tells (told.Begun upload))) fault = refl
begin-stop b t (Ok (Tells _)) fault = refl
begin-stop b t (Ok _) fault = refl

stage-stop : (b : Parcel) (upload : ℕ) (t : ℕ) (outcome : Outcome) (fault : Option Refusal) → stop_in (next b (Staging upload) t outcome fault) ≡ unless_right b (refused_by t outcome fault)
stage-stop b upload t (Err refusal) fault = refl
stage-stop b upload t (Ok gave) (Some refusal) = refl
stage-stop b upload t (Ok gave) None = right-stop b upload

end-stop : (b : Parcel) (upload : ℕ) (held : Bool) (stop : Stop) (t : ℕ) (outcome : Outcome) (fault : Option Refusal) → stop_in (next b (Ending upload held stop) t outcome fault) ≡ some_stop stop
end-stop b upload true stop t outcome fault = refl
end-stop b upload false stop t outcome fault = refl

seal-stops : (b : Parcel) (u : ℕ) (t : ℕ) (outcome : Outcome) (fault : Option Refusal) → stops_at b (Asked (seal_with u b)) t outcome fault ≡ refused_by t outcome None
seal-stops b u t outcome fault = go b.put
  where
    go : (put : Option PutAsk) → stops_at b (Asked (seal_by u b.digest (length b.bytes) put)) t outcome fault ≡ refused_by t outcome None
    go None = refl
    go (Some put) = refl

settle-stops : (b : Parcel) (u : ℕ) (t : ℕ) (outcome : Outcome) (fault : Option Refusal) → stops_at b (Asked (settle_with u b)) t outcome fault ≡ refused_by t outcome None
settle-stops b u t outcome fault = go b.put
  where
    go : (put : Option PutAsk) → stops_at b (Asked (settle_by u b.name b.digest put)) t outcome fault ≡ refused_by t outcome None
    go None = refl
    go (Some put) = refl

next-stop : (b : Parcel) (at : Place) (call : Call) (t : ℕ) (outcome : Outcome) (fault : Option Refusal) → CallAt b at call → stop_in (next b at t outcome fault) ≡ earlier (stop_in at) (stops_at b call t outcome fault)
next-stop b Beginning call t outcome fault is = begin-stop b t outcome fault ∙ ap (λ call. stops_at b call t outcome fault) (sym is)
next-stop b (Staging u) call t outcome fault is = stage-stop b u t outcome fault ∙ ap (λ call. stops_at b call t outcome fault) (sym is)
next-stop b (Sealing u) call t (Ok gave) fault is = sym (seal-stops b u t (Ok gave) fault) ∙ ap (λ call. stops_at b call t (Ok gave) fault) (sym is)
next-stop b (Sealing u) call t (Err refusal) fault is = sym (seal-stops b u t (Err refusal) fault) ∙ ap (λ call. stops_at b call t (Err refusal) fault) (sym is)
next-stop b (Placing u) call t (Ok gave) fault is = ap (λ call. stops_at b call t (Ok gave) fault) (sym is)
next-stop b (Placing u) call t (Err refusal) fault is = ap (λ call. stops_at b call t (Err refusal) fault) (sym is)
next-stop b (Settling u) call t (Ok gave) fault is = sym (settle-stops b u t (Ok gave) fault) ∙ ap (λ call. stops_at b call t (Ok gave) fault) (sym is)
next-stop b (Settling u) call t (Err refusal) fault is = sym (settle-stops b u t (Err refusal) fault) ∙ ap (λ call. stops_at b call t (Err refusal) fault) (sym is)
next-stop b (Ending u held stop) call t outcome fault is = end-stop b u held stop t outcome fault ∙ sym (earlier-none (some_stop stop)) ∙ ap (λ call. earlier (some_stop stop) (stops_at b call t outcome fault)) (sym is)
next-stop b (Dropping u stop) call t outcome fault is = sym (earlier-none (some_stop stop)) ∙ ap (λ call. earlier (some_stop stop) (stops_at b call t outcome fault)) (sym is)
next-stop b (Stopped stop) call t outcome fault is = absurd is

points-stop : (b : Parcel) (points : List Point) → Calls b points → stop_in (place_of b points) ≡ first_stop b points
points-stop b [] calls = refl
points-stop b (p ∷ points) calls = next-stop b (place_of b points) p.event.call p.event.moment p.event.outcome p.fault calls.0 ∙ ap (λ stop. earlier stop (stops_at b p.event.call p.event.moment p.event.outcome p.fault)) (points-stop b points calls.1)

pushed-or : (stop : Stop) → or_pushed (some_stop stop) ≡ stop
pushed-or Pushed = refl
pushed-or (WrongDigest found) = refl
pushed-or (Refused refusal t) = refl

-- how a push ended is what its points decide
pub ended-decided : {T : Type 0} (begun push : PushParts T) (stop : Stop) (points : List Point) → push.phase ≡ phase.Ended stop → Went begun push points → stop ≡ decided push.parcel points
ended-decided {T = T} begun push stop points is went =
    sym (pushed-or stop) ∙ ap or_pushed (sym (ap (λ (p : Phase T). stop_in (place_at p)) is) ∙ ap stop_in went.at ∙ points-stop push.parcel points went.calls)

-- ---- a call on a stage that was refused
pub stage-fault : {T : Type 0} (faults : T → ℕ) (old new : T) (fault : StoreFault) (refusal : Refusal) → (fault ≡ store.Failed → refusal ≡ Storage) → (fault ≡ store.Memory → refusal ≡ Memory) → StoreCause {T = Unit {0}} (faults old) (faults new) (Err fault) → IsStageFault T faults (Some refusal)
stage-fault faults old new store.Failed refusal storage memory cause = inr (storage refl, (old, new, cause.failed refl))
stage-fault faults old new store.Memory refusal storage memory cause = inl (memory refl)

-- a desk's streams are its stages and its readers
pub stage-stream : {Stage Reader : Type 0} (stage_faults : Stage → ℕ) (reader_faults : Reader → ℕ) (fault : Option Refusal) → IsStageFault Stage stage_faults fault → IsStreamFault Stage Reader stage_faults reader_faults fault
stage-stream stage_faults reader_faults None h = tt
stage-stream stage_faults reader_faults (Some refusal) (inl memory) = inl memory
stage-stream stage_faults reader_faults (Some refusal) (inr (storage, rose)) = inr (storage, inl rose)

-- the push goes on so by the event that gave the stage
pub stage-leads : {T : Type 0} (b : Parcel) (upload offset moment t : ℕ) (outcome : Outcome) (fault : Option Refusal) (p : Phase T) → moment ≡ t → Ok (StageAt offset) ≡ outcome → place_at p ≡ next b (Staging upload) moment (Ok (StageAt offset)) fault → place_at p ≡ next b (Staging upload) t outcome fault
stage-leads b upload offset moment t outcome fault p is gave leads = leads ∙ ap (λ t. next b (Staging upload) t (Ok (StageAt offset)) fault) is ∙ ap (λ r. next b (Staging upload) t r fault) gave

-- ---- a stage that has the bytes
appended : (old new : Option (List ℕ)) (piece : List ℕ) (offset : ℕ) → offset ≡ 0 → IsSomeAnd old (λ x. length x ≡ offset) → Appends {T = Unit {0}} old new piece (Ok tt) → new ≡ Some piece
appended None new piece offset none there appends = absurd there
appended (Some x) new piece offset none there appends = appends ∙ ap (λ x. Some (x ++ piece)) (empty x (there ∙ none))
  where
    empty : (x : List ℕ) → length x ≡ 0 → x ≡ []
    empty [] is = refl
    empty (a ∷ x) is = absurd (omega (arith, is))

module _ {T : Type 0} (b : Parcel) (upload : ℕ) (stage : T) (found : Digest) (p : Phase T) (found_is : found ≡ digest_of b.bytes) (right : same_digest found b.digest ≡ true → p ≡ phase.Seal upload stage) (wrong : same_digest found b.digest ≡ false → p ≡ phase.End upload (Some stage) (WrongDigest found)) where
  pub staged-leads : (offset t : ℕ) → place_at p ≡ next b (Staging upload) t (Ok (StageAt offset)) None
  staged-leads offset t =
      elim (same_digest found b.digest) as (λ r. same_digest found b.digest ≡ r → place_at p ≡ staged b upload) [
        | true ↦ λ e. ap (λ p. place_at p) (right e) ∙ ap (λ r. cond r (Sealing upload) (Ending upload true (WrongDigest (digest_of b.bytes)))) (sym (ap (λ d. same_digest d b.digest) (sym found_is) ∙ e))
        | false ↦ λ e. ap (λ p. place_at p) (wrong e) ∙ ap (λ d. Ending upload true (WrongDigest d)) found_is ∙ ap (λ r. cond r (Sealing upload) (Ending upload true (WrongDigest (digest_of b.bytes)))) (sym (ap (λ d. same_digest d b.digest) (sym found_is) ∙ e))
      ] refl

  pub staged-fits : (upload_of size_of : T → ℕ) (bytes_of : T → Option (List ℕ)) (v : View) → upload_of stage ≡ upload → size_of stage ≡ length b.bytes → (v.told_bytes ≡ true → bytes_of stage ≡ Some b.bytes) → PhaseFits upload_of size_of bytes_of b.digest b.bytes p v
  staged-fits upload_of size_of bytes_of v own size told =
      elim (same_digest found b.digest) as (λ r. same_digest found b.digest ≡ r → PhaseFits upload_of size_of bytes_of b.digest b.bytes p v) [
        | true ↦ λ e. subst (λ p. PhaseFits upload_of size_of bytes_of b.digest b.bytes p v) (sym (right e)) (record {
          upload = own;
          size_is = size;
          told = λ h. subst (λ x. IsSomeAnd x (λ x. (digest_of x ≡ b.digest) × (length x ≡ length b.bytes))) (sym (told h)) (sym found_is ∙ exact-digest found b.digest e, refl);
        })
        | false ↦ λ e. subst (λ p. PhaseFits upload_of size_of bytes_of b.digest b.bytes p v) (sym (wrong e)) own
      ] refl

pub bytes-appended : (told : Bool) (old new : Option (List ℕ)) (piece : List ℕ) (offset : ℕ) → offset ≡ 0 → (told ≡ true → IsSomeAnd old (λ x. length x ≡ offset)) → Appends {T = Unit {0}} old new piece (Ok tt) → told ≡ true → new ≡ Some piece
bytes-appended told old new piece offset none there appends h = appended old new piece offset none (there h) appends

-- ---- one event by the phase
pub called : {T : Type 0} (Streams : Option Refusal → Type 0) (b : Parcel) (now : ℕ) (old new : View) (call : Call) (at here : Place) (p : Phase T) → at ≡ here → CallAt b here call → OneEvent Streams b now old new call here p → CalledAt Streams b now old new at p
called Streams b now old new call at here p is made event = record { call = call; called = subst (λ at. CallAt b at call) (sym is) made; one = subst (λ at. OneEvent Streams b now old new call at p) (sym is) event }

pub ending-at : {T : Type 0} (upload : ℕ) (stage : Option T) (stop : Stop) → place_at (phase.End upload stage stop) ≡ Ending upload (is_some stage) stop
ending-at upload (Some stage) stop = refl
ending-at upload None stop = refl

-- ---- asks of an upload
of-twice : (u v : ℕ) (ask : Ask) → of_upload u (of_upload v ask) ≡ of_upload u ask
of-twice u v (Seal named digest size) = refl
of-twice u v (SealManifest named put) = refl
of-twice u v (Settle name named digest) = refl
of-twice u v (PutArtifact named put) = refl
of-twice u v (ShowProject name) = refl
of-twice u v (BeginUpload name) = refl
of-twice u v (EndUpload job upload) = refl
of-twice u v (TouchBlob name digest) = refl
of-twice u v (Look name ref) = refl
of-twice u v (NotePull name digest) = refl

put-same : (u : ℕ) (ask : Ask) → put_of (of_upload u ask) ≡ put_of ask
put-same u (Seal named digest size) = refl
put-same u (SealManifest named put) = refl
put-same u (Settle name named digest) = refl
put-same u (PutArtifact named put) = refl
put-same u (ShowProject name) = refl
put-same u (BeginUpload name) = refl
put-same u (EndUpload job upload) = refl
put-same u (TouchBlob name digest) = refl
put-same u (Look name ref) = refl
put-same u (NotePull name digest) = refl

pub parcel-same : (g : Given) (u : ℕ) (seal : Ask) → parcel_of g (of_upload u seal) ≡ parcel_of g seal
parcel-same g u seal = ap (λ put. record { name = g.name; digest = g.digest; bytes = g.bytes; put = put }) (put-same u seal)

-- an upload that is named leaves the push ready
pub ready-sealing : (g : Given) (begin seal settle : Ask) (u : ℕ) → IsReady g begin seal settle → IsReady g begin (of_upload u seal) settle
ready-sealing g begin seal settle u h = record {
  found_is = h.found_is;
  begins = h.begins;
  seals = λ v. of-twice v u seal ∙ h.seals v ∙ ap (seal_with v) (sym (parcel-same g u seal));
  settles = λ v. h.settles v ∙ ap (settle_with v) (sym (parcel-same g u seal));
  sealed = λ v. ap seal_of (of-twice v u seal) ∙ h.sealed v;
}

pub ready-settling : (g : Given) (begin seal settle : Ask) (u : ℕ) → IsReady g begin seal settle → IsReady g begin seal (of_upload u settle)
ready-settling g begin seal settle u h = record {
  found_is = h.found_is;
  begins = h.begins;
  seals = h.seals;
  settles = λ v. of-twice v u settle ∙ h.settles v;
  sealed = h.sealed;
}

-- what an ask seals is sealed where it is Ok
sealed-is : (a b : Sealed) → Some a ≡ Some b → a ≡ b
sealed-is a b e = cc

pub seals-at : (ask : Ask) (x : Sealed) (told : Told) (sealed : List Sealed) → seal_of ask ≡ Some x → Seals ask (Ok told) sealed → sealed_at x.upload sealed ≡ Some x
seals-at (Seal u d size) x told sealed is h = subst (λ x. sealed_at x.upload sealed ≡ Some x) (sealed-is (record { upload = u; digest = d; size = size }) x is) h
seals-at (SealManifest u put) x told sealed is h = subst (λ x. sealed_at x.upload sealed ≡ Some x) (sealed-is (record { upload = u; digest = put.digest; size = put.size }) x is) h
seals-at (ShowProject name) x told sealed is h = cc is
seals-at (BeginUpload name) x told sealed is h = cc is
seals-at (EndUpload job upload) x told sealed is h = cc is
seals-at (Settle name upload d) x told sealed is h = cc is
seals-at (PutArtifact upload put) x told sealed is h = cc is
seals-at (TouchBlob name d) x told sealed is h = cc is
seals-at (Look name ref) x told sealed is h = cc is
seals-at (NotePull name d) x told sealed is h = cc is
