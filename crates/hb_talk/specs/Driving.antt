-- What came of a task at a desk: the points of its events, and its answer.
use Rattle.std.specs.Prelude.{◌≡◌, ℕ, List, length, Option, Some, Result, IfErr, IfOk}
use Rattle.hb_http.specs.AnswerHeads.{HasPhrase}
use Rattle.hb_text.specs.Digests.{digest_of}
use Rattle.hb_records.specs.declared.puts.PutAsk.{PutAsk}
use Rattle.hb_desk.specs.Chains.{Chain}
use Rattle.hb_desk.specs.Points.{Point}
use Rattle.hb_desk.specs.ClockedDesks.{ClockedDesk}
use Rattle.hb_desk.specs.declared.answers.Answer.{Answer}
use Rattle.hb_desk.specs.declared.refusals.Refusal.{Refusal}
use Rattle.hb_upload.specs.Places.{Parcel}
use Rattle.hb_ops.specs.Errors.{ErrorForm, error_answer}
use Rattle.hb_talk.specs.Tasks.{Task}
use Rattle.hb_talk.specs.Tasks.Task.{Refuses}
use Rattle.hb_talk.specs.Turns.{IsDone, IsLeft}

-- A task was done at the desk; or, where memory was wanting, it has no answer.
pub record Worked {E : Type 0} (Streams : Option Refusal → Type 0) (task : Task) (start now : ClockedDesk) (result : Result Answer E) : Type 0 where
  pub points : List Point
  pub chain : Chain start points now
  pub done : IfOk result (λ a. (read : List ℕ) × IsDone Streams start.view.told_bytes task points read a)
  pub left : IfErr result (λ e. IsLeft Streams task points)

-- ---- a manifest that was read
-- it is put with the digest and the length of its bytes
pub record IsPut (body : List ℕ) (put : PutAsk) : Type 0 where
  pub digest : put.digest ≡ digest_of body
  pub size : put.size ≡ length body

abbrev pub parcel_of : PutAsk → List ℕ → Parcel
parcel_of put body = record { name = put.name; digest = put.digest; bytes = body; put = Some put }

-- the task is this error at once
pub record IsRefused (task : Task) (answer : Answer) : Type 0 where
  pub error : ErrorForm
  pub task_is : task ≡ Refuses error
  pub answer_is : answer ≡ error_answer error
  pub phrase : HasPhrase answer.status
