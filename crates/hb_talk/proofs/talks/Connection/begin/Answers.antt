use Rattle.std.proofs.Common.{◌∙◌, inl, inr, refl, sym}
use Rattle.hb_talk.proofs.talks.Connection.begin.Goals as goal

pub returns-in-Ok-clause-begins : goal.returns-in-Ok-clause-begins
returns-in-Ok-clause-begins g c = rw (← c.self.view_is) (inr (sym c.is_too_long.ensures ∙ c.if-is_too_long.false, refl, (c.in-Ok.coming, refl, c.in-Ok.ensures.0, c.in-Ok.ensures.1)))

pub returns-in-Err-clause-begins : goal.returns-in-Err-clause-begins
returns-in-Err-clause-begins g c = inr (sym c.is_too_long.ensures ∙ c.if-is_too_long.false, refl, tt)

pub returns-then-is_too_long-clause-begins : goal.returns-then-is_too_long-clause-begins
returns-then-is_too_long-clause-begins g c = inl (sym c.is_too_long.ensures ∙ c.if-is_too_long.true, c.is_bare.result, c.is_bare.ensures, c.refuse_long.ensures.ends)
