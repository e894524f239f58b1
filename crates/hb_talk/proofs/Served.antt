-- What was answered to a request that has come.
use Rattle.std.proofs.Common.{◌≡◌, ℕ, Bool, true, List, [], Option, Some, Result, Ok, Err, MatchBool, refl, sym, ap, subst, ◌∙◌, inl, inr}
use Rattle.hb_outside.specs.Streams.{WritesPart}
use Rattle.hb_http.specs.Readings.{Given}
use Rattle.hb_desk.specs.Chains.{Chain}
use Rattle.hb_desk.specs.Points.{Point}
use Rattle.hb_desk.specs.ClockedDesks.{ClockedDesk}
use Rattle.hb_desk.specs.declared.answers.Answer.{Answer}
use Rattle.hb_desk.specs.declared.refusals.Refusal.{Refusal}
use Rattle.hb_ops.specs.Errors.{error_answer}
use Rattle.hb_talk.specs.Bodies.{IsTooLong}
use Rattle.hb_talk.specs.Driving.{Worked}
use Rattle.hb_talk.specs.Progress.{Answered, Comes, Fails, NextTurn, Served}
use Rattle.hb_talk.specs.Tasks.{task_of, too_long}
use Rattle.hb_talk.specs.Tasks.Task.{Refuses}
use Rattle.hb_talk.specs.Texts.{answer_text, as_asked}
use Rattle.hb_talk.specs.Turns.{IsTaskOf, LeavesUnanswered, Turn}
use Rattle.hb_talk.specs.Wanting.{IsBare}
use Rattle.hb_talk.specs.declared.coming.Coming.{Coming}
use Rattle.hb_talk.specs.declared.ends.TalkEnd.{TalkEnd}
use Rattle.hb_talk.specs.declared.ends.TalkEnd.TheVariants as end
use Rattle.hb_talk.specs.declared.ends.Turned.TheVariants.{Ended}
use Rattle.hb_talk.proofs.Wants.{closes-by}

-- the task of what a request wants
task-is : (g : Given) (c : Coming) (body : List ℕ) → Comes (Some c) (Some g) → body ≡ c.body.items → IsTaskOf g (task_of c.wanted c.media body)
task-is g c body comes body_is = inr (comes.2, c.wanted, comes.0.asks, ap (task_of c.wanted c.media) (body_is ∙ comes.1) ∙ ap (λ media. task_of c.wanted media g.content) comes.0.media)

-- was done, and its answer told as the request asks
pub served-task : (E : Type 0) (Streams : Option Refusal → Type 0) (g : Given) (c : Coming) (body : List ℕ) (full : Answer) (old new : ClockedDesk) → Comes (Some c) (Some g) → body ≡ c.body.items → Worked {E = E} Streams (task_of c.wanted c.media body) old new (Ok full) → Served {E = E} Streams old new g (Ok (as_asked c.bare full))
served-task E Streams g c body full old new comes body_is worked = record {
  points = worked.points;
  chain = worked.chain;
  answers = (worked.done.0, (task_of c.wanted c.media body, full, task-is g c body comes body_is, worked.done.1, (c.bare, comes.0.bare, refl)));
  left = tt;
}

-- or has no answer
pub unserved-task : {E : Type 0} (Streams : Option Refusal → Type 0) (g : Given) (c : Coming) (body : List ℕ) (old new : ClockedDesk) (e : E) → Comes (Some c) (Some g) → body ≡ c.body.items → Worked Streams (task_of c.wanted c.media body) old new (Err e) → Served Streams old new g (Err e)
unserved-task Streams g c body old new e comes body_is worked = record { points = worked.points; chain = worked.chain; answers = tt; left = (task_of c.wanted c.media body, task-is g c body comes body_is, worked.left) }

-- the events of a request that is left without its answer, even where there was one to be written
pub left-unanswered : {E : Type 0} (Streams : Option Refusal → Type 0) (old new : ClockedDesk) (g : Given) (result : Result Answer E) → Served Streams old new g result → (points : List Point) × Chain old points new × LeavesUnanswered Streams g points
left-unanswered Streams old new g (Err e) served = (served.points, served.chain, served.left)
left-unanswered Streams old new g (Ok a) served =
    let to = served.answers.1 in
    (served.points, served.chain, (to.0, to.2, inr (to.3.makes, to.3.streams)))

-- the turn of a request that was answered
pub record TurnOf (Streams : Option Refusal → Type 0) (old new : ClockedDesk) (g : Given) (closes : Bool) (answer : Answer) : Type 0 where
  pub turn : Turn
  pub next : NextTurn Streams old new g turn
  pub closes_is : turn.closes ≡ closes
  pub answer_is : turn.answer ≡ answer

pub turn-of : (E : Type 0) (Streams : Option Refusal → Type 0) (old new : ClockedDesk) (g : Given) (c : Coming) (answer : Answer) → Comes (Some c) (Some g) → Served {E = E} Streams old new g (Ok answer) → TurnOf Streams old new g c.last answer
turn-of E Streams old new g c answer comes served = record {
  turn = record { given = g; points = served.points; read = served.answers.0; answer = answer; closes = c.last };
  next = record { given = refl; closes = closes-by g.head g.content c.last comes.0.closes comes.2; chain = served.chain; answers = served.answers.1 };
  closes_is = refl;
  answer_is = refl;
}

-- its text is what was written, or a part of that
pub turn-text : {Streams : Option Refusal → Type 0} {old new : ClockedDesk} {g : Given} {closes : Bool} {answer : Answer} (Wrote : List ℕ → Type 0) (t : TurnOf Streams old new g closes answer) → Wrote (answer_text closes answer) → Wrote (answer_text t.turn.closes t.turn.answer)
turn-text {closes = closes} {answer = answer} Wrote t wrote = subst Wrote (ap (λ b. answer_text b answer) (sym t.closes_is) ∙ ap (answer_text t.turn.closes) (sym t.answer_is)) wrote

-- why a text wasn't written
pub fails-by : (Ends : TalkEnd → Type 0) (text : List ℕ) (held held' : Option (List ℕ)) (e : TalkEnd) → Fails text held held' e → (WritesPart held held' text → Ends end.WriteFault) → (held' ≡ held → Ends end.Memory) → Ends e
fails-by Ends text held held' end.WriteFault fails part same = part fails
fails-by Ends text held held' end.Memory fails part same = same fails
fails-by Ends text held held' end.Closed fails part same = absurd fails
fails-by Ends text held held' end.Cut fails part same = absurd fails
fails-by Ends text held held' end.Bad fails part same = absurd fails
fails-by Ends text held held' end.Long fails part same = absurd fails
fails-by Ends text held held' end.ReadFault fails part same = absurd fails

-- what an answer that wasn't written makes of desk and sink
pub answered-fails : (Streams : Option Refusal → Type 0) (old new : ClockedDesk) (g : Given) (closes : Bool) (answer : Answer) (held held' : Option (List ℕ)) (e : TalkEnd) → TurnOf Streams old new g closes answer → (points : List Point) × Chain old points new × LeavesUnanswered Streams g points → Fails (answer_text closes answer) held held' e → Answered Streams old new held held' g (Ended e)
answered-fails Streams old new g closes answer held held' e t left fails =
    fails-by (λ e. Answered Streams old new held held' g (Ended e)) (answer_text closes answer) held held' e fails (λ part. (t.turn, t.next, turn-text (WritesPart held held') t part)) (λ same. (left, same))

-- a request that is too long is refused without an event
pub refused-turn : (Streams : Option Refusal → Type 0) (v : ClockedDesk) (g : Given) (bare : Bool) → IsTooLong g.head g.content → MatchBool bare (IsBare g.head) (¬ (IsBare g.head)) → NextTurn Streams v v g (record { given = g; points = []; read = []; answer = as_asked bare (error_answer too_long); closes = true })
refused-turn Streams v g bare long bare_is = record {
  given = refl;
  closes = inr long;
  chain = refl;
  answers = (Refuses too_long, error_answer too_long, inl (long, refl), record { makes = refl; answers = refl; reads = tt; streams = tt }, (bare, bare_is, refl));
}
