use Rattle.std.proofs.Common.{◌≡◌, ◌∙◌, ◌+◌, ◌++◌, Some, ap, inl, inr, length, refl, subst, sym}
use Rattle.std.specs.Prelude.{nat_le}
use Rattle.hb_talk.specs.Progress.{GrowsBy, TalkParts}
use Rattle.hb_talk.specs.declared.wanted.TheConstants.{MAX_BODY}
use Rattle.hb_talk.proofs.talks.Connection.gather.Goals.{in-Ok, in-Err}
use Rattle.hb_talk.proofs.talks.Connection.gather.Goals as goal

pub returns-in_default-clause-gathers : goal.returns-in_default-clause-gathers
returns-in_default-clause-gathers g c = rw (← c.self.view_is) (inl (c.in_default.is, refl))

pub returns-then-not-has_room-clause-gathers : goal.returns-then-not-has_room-clause-gathers
returns-then-not-has_room-clause-gathers g c = rw (← c.self.view_is) (
    inr (c.in-Some.coming, c.in-Some.is, inl (ap (λ n. nat_le (length c.in-Some.coming.body.items + length n) MAX_BODY) (sym c.body-piece.ensures) ∙ (sym c.has_room.ensures ∙ c.if-not-has_room.true), c.refuse_long.ensures.ends)))

pub returns-clause-gathers : goal.returns-clause-gathers
returns-clause-gathers g c = rw (← c.self.view_is) (
    let before : TalkParts = record { standing = c.self.inside.session; coming = c.self.inside.coming; taken = c.self.inside.taken } in
    let after : TalkParts = record { standing = c.self.inside.session; coming = Some c.add.new.self; taken = c.self.inside.taken } in
    inr (
      c.in-Some.coming,
      c.in-Some.is,
      inr (
        ap (λ n. nat_le (length c.in-Some.coming.body.items + length n) MAX_BODY) (sym c.body-piece.ensures) ∙ (sym c.has_room.ensures ∙ c.if-not-has_room.false),
        refl,
        elim c.match-add.branch [
          | in-Ok w ↦ subst (λ turned. GrowsBy before c.in-Some.coming after turned) (sym w.result-is) (
            c.add.new.self,
            refl,
            record {
              wanted = c.add.ensures.same.0;
              media = c.add.ensures.same.1;
              last = c.add.ensures.same.2;
              bare = c.add.ensures.same.3;
              body = subst (λ piece. c.add.new.self.body.items ≡ c.in-Some.coming.body.items ++ piece) c.body-piece.ensures w.in-Ok.ensures.body;
            },
          )
          | in-Err w ↦ subst (λ turned. GrowsBy before c.in-Some.coming after turned) (sym w.result-is) tt
        ],
      ),
    ))
