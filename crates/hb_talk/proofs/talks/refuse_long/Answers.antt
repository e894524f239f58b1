use Rattle.std.proofs.Common.{◌∙◌, ap, inl, inr, refl, subst, true}
use Rattle.hb_outside.specs.Streams.{Writes}
use Rattle.hb_talk.specs.Progress.{Fails}
use Rattle.hb_talk.specs.Texts.{answer_text, as_asked}
use Rattle.hb_talk.proofs.talks.refuse_long.Goals as goal

pub returns-in-Ok-write-clause-ends : goal.returns-in-Ok-write-clause-ends
returns-in-Ok-write-clause-ends g c =
    inl (refl, subst (Writes (g.O.Sink.held c.args.out.now) (g.O.Sink.held c.write.new.out)) (ap (answer_text true) (c.as_asked.ensures ∙ ap (as_asked c.args.bare) c.in-Ok.ensures)) c.in-Ok-write.ensures.wrote)

pub returns-in-Err-clause-ends : goal.returns-in-Err-clause-ends
returns-in-Err-clause-ends g c =
    inr (subst (λ text. Fails text (g.O.Sink.held c.args.out.now) (g.O.Sink.held c.write.new.out) c.in-Err.end) (ap (answer_text true) (c.as_asked.ensures ∙ ap (as_asked c.args.bare) c.in-Ok.ensures)) c.in-Err.ensures.fails)
