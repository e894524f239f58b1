-- The turns of a connection: each request with its answer, and with the events that decided it.
use Rattle.std.specs.Prelude.{◌≡◌, ◌⊎◌, ℕ, Bool, List, [], ◌∷◌, ◌++◌, map, Option, MatchBool}
use Rattle.std.specs.List.{AllByRecursion, flat_map}
use Rattle.httparse.specs.Grammar.{RequestHead}
use Rattle.hb_http.specs.Readings.{Given}
use Rattle.hb_desk.specs.Points.{Point}
use Rattle.hb_desk.specs.declared.answers.Answer.{Answer}
use Rattle.hb_desk.specs.declared.refusals.Refusal.{Refusal}
use Rattle.hb_talk.specs.Bodies.{IsLast, IsTooLong}
use Rattle.hb_talk.specs.Tasks.{Makes, ReadsTrue, Task, answer_of, task_of, too_long}
use Rattle.hb_talk.specs.Tasks.Task.{Refuses}
use Rattle.hb_talk.specs.Texts.{answer_text, as_asked}
use Rattle.hb_talk.specs.Wanting.{Asks, IsBare, media_of}
use Rattle.hb_talk.specs.declared.wanted.Wanted.{Wanted}

-- A request by its head and its data, the points of its events, the newest first, what was read of the content that it
-- opened, its answer, and whether the connection closed behind it.
pub record Turn : Type 0 where
  pub given : Given
  pub points : List Point
  pub read : List ℕ
  pub answer : Answer
  pub closes : Bool

-- A task that was done: its events, and its answer, which they decide. Streams says what a call on a stage or a reader may
-- be refused for, and told whether the desk's store tells its bytes.
pub record IsDone (Streams : Option Refusal → Type 0) (told : Bool) (task : Task) (points : List Point) (read : List ℕ) (answer : Answer) : Type 0 where
  pub makes : Makes task points
  pub answers : answer ≡ answer_of task points read
  pub reads : ReadsTrue told task points read
  pub streams : AllByRecursion (λ p. Streams p.fault) points

-- a HEAD is answered without a body (RFC 9110, section 9.3.2)
abbrev pub IsToldAs : RequestHead → Answer → Answer → Type 0
IsToldAs h full answer = (bare : Bool) × MatchBool bare (IsBare h) (¬ (IsBare h)) × (answer ≡ as_asked bare full)

-- A request that is too long is refused, whatever its route; else its task is that of what its method and its target want.
abbrev pub IsTaskOf : Given → Task → Type 0
IsTaskOf g task =
    (IsTooLong g.head g.content × (task ≡ Refuses too_long))
    ⊎ ((¬ (IsTooLong g.head g.content)) × (w : Wanted) × Asks g.head.method g.head.target w × (task ≡ task_of w (media_of g.head) g.content))

-- the task of the request was done
abbrev pub AnswersTo : (Option Refusal → Type 0) → Bool → Given → List Point → List ℕ → Answer → Type 0
AnswersTo Streams told g points read answer = (task : Task) × (full : Answer) × IsTaskOf g task × IsDone Streams told task points read full × IsToldAs g.head full answer

abbrev pub Answers : (Option Refusal → Type 0) → Bool → Turn → Type 0
Answers Streams told t = AnswersTo Streams told t.given t.points t.read t.answer

-- A task without an answer: nothing was done for it, or all of it.
abbrev pub IsLeft : (Option Refusal → Type 0) → Task → List Point → Type 0
IsLeft Streams task points = (points ≡ []) ⊎ (Makes task points × AllByRecursion (λ p. Streams p.fault) points)

-- the request is left without an answer
abbrev pub LeavesUnanswered : (Option Refusal → Type 0) → Given → List Point → Type 0
LeavesUnanswered Streams g points = (task : Task) × IsTaskOf g task × IsLeft Streams task points

-- it closed exactly where its request is the last
abbrev pub ClosesBy : Turn → Type 0
ClosesBy t = MatchBool t.closes (IsLast t.given.head t.given.content) (¬ (IsLast t.given.head t.given.content))

-- what was given of the requests
abbrev pub given_by : List Turn → List Given
given_by = map (λ t. t.given)

-- the texts of the answers, in order
abbrev pub turns_text : List Turn → List ℕ
turns_text = flat_map (λ t. answer_text t.closes t.answer)

-- all points, the newest first
abbrev pub points_of : List Turn → List Point
points_of [] = []
points_of (t ∷ turns) = points_of turns ++ t.points
