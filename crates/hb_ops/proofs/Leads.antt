-- What an event makes of a get.
use Rattle.std.proofs.Common.{◌≡◌, ℕ, List, ◌∷◌, Option, Some, None, Err, inl, inr, refl, sym, subst, ap, ◌∙◌}
use Rattle.hb_text.specs.declared.digests.Digest.{Digest}
use Rattle.hb_store.specs.Causes.{SomeRose}
use Rattle.hb_store.specs.declared.store.StoreFault.{StoreFault}
use Rattle.hb_store.specs.declared.store.StoreFault.TheVariants as store
use Rattle.hb_desk.specs.Calls.{Asked}
use Rattle.hb_desk.specs.Points.{IsStreamFault, Point}
use Rattle.hb_desk.specs.declared.asks.Ask.{Ask}
use Rattle.hb_desk.specs.declared.asks.Ask.TheVariants.{NotePull}
use Rattle.hb_desk.specs.declared.refusals.Refusal.{Refusal}
use Rattle.hb_desk.specs.declared.refusals.Refusal.TheVariants.{Memory, Storage}
use Rattle.hb_ops.specs.Gets.{GetParts, IsNoted, IsOpened, IsReadFault, Went, asked_behind, note_of, of_pull, open_call, opened_as, read_of}
use Rattle.hb_ops.specs.declared.gets.Got.{Got}
use Rattle.hb_ops.specs.declared.gets.Phase.TheVariants as phase
use Rattle.hb_ops.specs.declared.gets.Sought.{Sought}
use Rattle.hb_ops.specs.declared.gets.Sought.TheVariants.{Blob, Manifest}

-- ---- what is noted
pub noted-at-end : (sought : Sought) (x : Got) → IsNoted sought (phase.Ended x)
noted-at-end (Blob name d) x = tt
noted-at-end (Manifest name r) x = tt

pub note-behind : (sought : Sought) (made : Option Ask) (ask named : Ask) (d : Digest) → IsNoted sought (phase.Open made) → made ≡ Some ask → named ≡ of_pull d ask → note_of sought d ≡ Some named
note-behind (Blob name e) made ask named d noted is names = cc
note-behind (Manifest name r) made ask named d noted is names = let same : NotePull name noted.0 ≡ ask = cc in ap Some (ap (λ ask. of_pull d ask) same ∙ sym names)

pub none-behind : (sought : Sought) (made : Option Ask) (d : Digest) → IsNoted sought (phase.Open made) → made ≡ None → note_of sought d ≡ None
none-behind (Blob name e) made d noted is = refl
none-behind (Manifest name r) made d noted is = cc

-- nothing is asked behind an open that was refused
pub nothing-behind : (sought : Sought) (refusal : Refusal) → asked_behind sought (Err refusal) ≡ None
nothing-behind sought refusal = refl

-- ---- faults of reads
pub read-fault : {Reader : Type 0} (faults : Reader → ℕ) (fault : StoreFault) (refusal : Refusal) → (fault ≡ store.Failed → refusal ≡ Storage) × (fault ≡ store.Memory → refusal ≡ Memory) → (fault ≡ store.Failed → SomeRose Reader faults) → IsReadFault Reader faults (Some refusal)
read-fault faults store.Failed refusal gives rose = inr (gives.0 refl, rose refl)
read-fault faults store.Memory refusal gives rose = inl (gives.1 refl)

pub stream-fault : {Stage Reader : Type 0} (stage_faults : Stage → ℕ) (faults : Reader → ℕ) (fault : Option Refusal) → IsReadFault Reader faults fault → IsStreamFault Stage Reader stage_faults faults fault
stream-fault stage_faults faults None h = tt
stream-fault stage_faults faults (Some refusal) (inl memory) = inl memory
stream-fault stage_faults faults (Some refusal) (inr failed) = inr (failed.0, inr failed.1)

-- ---- the points of a get go on
pub opened-by : (sought : Sought) (p : Point) (x : Got) (t : ℕ) → p.event.call ≡ open_call sought → t ≡ p.event.moment → x ≡ opened_as (read_of x) t p.event.outcome p.fault → IsOpened sought p x
opened-by sought p x t call at gives = record { call = call; gives = subst (λ t. x ≡ opened_as (read_of x) t p.event.outcome p.fault) at gives }

-- by the open, behind which a note is asked
pub went-to-note : (begun : GetParts) (sought : Sought) (made : Option Ask) (p : Point) (ask : Ask) (x : Got) (points : List Point) → IsOpened sought p x → asked_behind sought p.event.outcome ≡ Some ask → Went begun (record { sought = sought; phase = phase.Open made }) points → Went begun (record { sought = sought; phase = phase.Note ask x }) (p ∷ points)
went-to-note begun sought made p ask x points opened behind went = record {
  same = went.same;
  lead = (p, ap (λ points. p ∷ points) went.lead, opened, behind);
}

-- by the open alone
pub went-to-end : (begun : GetParts) (sought : Sought) (made : Option Ask) (p : Point) (x : Got) (points : List Point) → IsOpened sought p x → asked_behind sought p.event.outcome ≡ None → Went begun (record { sought = sought; phase = phase.Open made }) points → Went begun (record { sought = sought; phase = phase.Ended x }) (p ∷ points)
went-to-end begun sought made p x points opened behind went = record {
  same = went.same;
  lead = inl (p, ap (λ points. p ∷ points) went.lead, opened, behind);
}

-- by the note
pub went-by-note : (begun : GetParts) (sought : Sought) (p : Point) (ask : Ask) (x : Got) (points : List Point) → p.event.call ≡ Asked ask → Went begun (record { sought = sought; phase = phase.Note ask x }) points → Went begun (record { sought = sought; phase = phase.Ended x }) (p ∷ points)
went-by-note begun sought p ask x points call went = record {
  same = went.same;
  lead = inr (went.lead.0, p, ask, ap (λ points. p ∷ points) went.lead.1, went.lead.2, went.lead.3, call);
}
