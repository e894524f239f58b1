use Rattle.std.proofs.Common.{Ok, ap, subst}
use Rattle.hb_desk.specs.ClockedDesks.{clocked}
use Rattle.hb_http.specs.Parts.{Gives}
use Rattle.hb_http.specs.Readings.{ReadsOn}
use Rattle.hb_talk.specs.Progress.{Begins, Gathers, Reads}
use Rattle.hb_talk.specs.Turns.{given_by}
use Rattle.hb_talk.proofs.Lessening.{less-body, less-head, less-input}
use Rattle.hb_talk.proofs.Turning.{body-turn, closed-turn, end-turn, fault-turn, head-turn, input-turn}
use Rattle.hb_talk.proofs.talks.Connection.turn.Goals as goal

pub returns-in-Ok-NeedInput-clause-talk : goal.returns-in-Ok-NeedInput-clause-talk
returns-in-Ok-NeedInput-clause-talk g c = rw (← c.self.view_is) (λ start so_far.
    let part = c.in-Ok-NeedInput.ensures in
    let is = c.in-Ok-NeedInput.field-0-is in
    input-turn _ start _ _ so_far c.self.invariant.1 c.part.new.self c.read_on.new.self c.read_on.result (g.I.Source.left c.read_on.new.input) (g.I.Source.ended c.read_on.new.input)
    (subst (λ p. Gives c.self.inside.session (Ok p) c.part.new.self) is part.gives) (part.still (ap (λ p. Ok p) is))
    (subst (λ p. ReadsOn (given_by so_far.turns) so_far.given so_far.gone c.self.inside.session (Ok p) c.part.new.self) is (part.reads (given_by so_far.turns) so_far.given so_far.gone so_far.reads))
    c.read_on.ensures.reads)

pub returns-in-Ok-NeedInput-clause-less : goal.returns-in-Ok-NeedInput-clause-less
returns-in-Ok-NeedInput-clause-less g c = rw (← c.self.view_is) (λ more.
    less-input _ c.part.new.self c.read_on.new.self (g.I.Source.left c.args.input.now) (g.I.Source.left c.read_on.new.input) (g.I.Source.ended c.args.input.now) (g.I.Source.ended c.read_on.new.input)
    (subst (λ p. Gives c.self.inside.session (Ok p) c.part.new.self) c.in-Ok-NeedInput.field-0-is c.in-Ok-NeedInput.ensures.gives)
    (subst (λ turned. Reads (record { standing = c.part.new.self; coming = c.self.inside.coming; taken = c.self.inside.taken }) c.read_on.new.self (g.I.Source.left c.args.input.now) (g.I.Source.left c.read_on.new.input) (g.I.Source.ended c.args.input.now) (g.I.Source.ended c.read_on.new.input) turned) more c.read_on.ensures.reads)
    c.read_on.ensures.few)

pub returns-in-Ok-Head-clause-talk : goal.returns-in-Ok-Head-clause-talk
returns-in-Ok-Head-clause-talk g c = rw (← c.self.view_is) (λ start so_far.
    let part = c.in-Ok-Head.ensures in
    let is = c.in-Ok-Head.field-0-is in
    head-turn _ start _ _ so_far c.self.invariant.1 c.in-Ok-Head.head c.part.new.self (g.O.Sink.held c.begin.new.out) c.begin.new.self c.begin.result
    (subst (λ p. Gives c.self.inside.session (Ok p) c.part.new.self) is part.gives)
    (subst (λ p. ReadsOn (given_by so_far.turns) so_far.given so_far.gone c.self.inside.session (Ok p) c.part.new.self) is (part.reads (given_by so_far.turns) so_far.given so_far.gone so_far.reads))
    c.begin.ensures.begins)

pub returns-in-Ok-Head-clause-less : goal.returns-in-Ok-Head-clause-less
returns-in-Ok-Head-clause-less g c = rw (← c.self.view_is) (λ more.
    less-head (record { standing = c.self.inside.session; coming = c.self.inside.coming; taken = c.self.inside.taken }) c.in-Ok-Head.head c.part.new.self (g.O.Sink.held c.args.out.now) (g.O.Sink.held c.begin.new.out) c.begin.new.self
    (subst (λ p. Gives c.self.inside.session (Ok p) c.part.new.self) c.in-Ok-Head.field-0-is c.in-Ok-Head.ensures.gives)
    (subst (λ turned. Begins (record { standing = c.part.new.self; coming = c.self.inside.coming; taken = c.self.inside.taken }) c.in-Ok-Head.head (g.O.Sink.held c.args.out.now) (g.O.Sink.held c.begin.new.out) c.begin.new.self turned) more c.begin.ensures.begins))

pub returns-in-Ok-Body-clause-talk : goal.returns-in-Ok-Body-clause-talk
returns-in-Ok-Body-clause-talk g c = rw (← c.self.view_is) (λ start so_far.
    let part = c.in-Ok-Body.ensures in
    let is = c.in-Ok-Body.field-0-is in
    body-turn _ start _ _ so_far c.self.invariant.1 c.part.new.self (g.O.Sink.held c.gather.new.out) c.gather.new.self c.gather.result
    (subst (λ p. Gives c.self.inside.session (Ok p) c.part.new.self) is part.gives)
    (subst (λ p. ReadsOn (given_by so_far.turns) so_far.given so_far.gone c.self.inside.session (Ok p) c.part.new.self) is (part.reads (given_by so_far.turns) so_far.given so_far.gone so_far.reads))
    c.gather.ensures.gathers)

pub returns-in-Ok-Body-clause-less : goal.returns-in-Ok-Body-clause-less
returns-in-Ok-Body-clause-less g c = rw (← c.self.view_is) (λ more.
    less-body (record { standing = c.self.inside.session; coming = c.self.inside.coming; taken = c.self.inside.taken }) c.part.new.self (g.O.Sink.held c.args.out.now) (g.O.Sink.held c.gather.new.out) c.gather.new.self
    (subst (λ p. Gives c.self.inside.session (Ok p) c.part.new.self) c.in-Ok-Body.field-0-is c.in-Ok-Body.ensures.gives)
    (subst (λ turned. Gathers (record { standing = c.part.new.self; coming = c.self.inside.coming; taken = c.self.inside.taken }) (g.O.Sink.held c.args.out.now) (g.O.Sink.held c.gather.new.out) c.gather.new.self turned) more c.gather.ensures.gathers))

pub returns-in-Ok-BodyEnd-clause-talk : goal.returns-in-Ok-BodyEnd-clause-talk
returns-in-Ok-BodyEnd-clause-talk g c = rw (← c.self.view_is) (λ start so_far.
    let part = c.in-Ok-BodyEnd.ensures in
    let is = c.in-Ok-BodyEnd.field-0-is in
    end-turn _ start _ _ so_far c.self.invariant.1 c.part.new.self c.answer.new.self c.answer.result (clocked (g.D.Desk.view c.answer.new.desk) (g.C.Clock.readings c.answer.new.clock)) (g.O.Sink.held c.answer.new.out)
    (subst (λ p. Gives c.self.inside.session (Ok p) c.part.new.self) is part.gives)
    (subst (λ p. ReadsOn (given_by so_far.turns) so_far.given so_far.gone c.self.inside.session (Ok p) c.part.new.self) is (part.reads (given_by so_far.turns) so_far.given so_far.gone so_far.reads))
    c.answer.ensures.next c.answer.ensures.answered)

pub returns-in-Ok-InputEnd-clause-talk : goal.returns-in-Ok-InputEnd-clause-talk
returns-in-Ok-InputEnd-clause-talk g c = rw (← c.self.view_is) (λ start so_far.
    closed-turn _ start _ _ so_far c.self.invariant.1 c.part.new.self (subst (λ p. Gives c.self.inside.session (Ok p) c.part.new.self) c.in-Ok-InputEnd.field-0-is c.in-Ok-InputEnd.ensures.gives))

pub returns-in-Err-clause-talk : goal.returns-in-Err-clause-talk
returns-in-Err-clause-talk g c = rw (← c.self.view_is) (λ start so_far.
    fault-turn _ start _ _ so_far c.self.invariant.1 c.in-Err.fault c.part.new.self (g.O.Sink.held c.end_by.new.out) c.end_by.result c.in-Err.ensures.gives c.end_by.ensures.ends)
