use Rattle.std.proofs.Common.{◌≡◌, ◌≢◌, ◌∷◌, ap, sym, subst, ◌∙◌, arith, rules}
use Rattle.std.specs.Prelude.{slice_set}
use Rattle.hb_desk.specs.Noting.{with_seal}
use Rattle.hb_desk.specs.Clause.{Seals}
use Rattle.hb_desk.proofs.Interleave.{alone-ask, alone-memory, seals-asked, sealed-kept}
use Rattle.hb_desk.proofs.alone.AloneDesk.ask.Goals as goal

pub returns-then-is_err-clause-event : goal.returns-then-is_err-clause-event
returns-then-is_err-clause-event g c =
    let own : c.reserve.new.own ≡ c.self.inside.own = search rules in
    let sealed : c.reserve.new.sealed ≡ c.self.inside.sealed = search rules in
    rw (← c.self.view_is, own, sealed) (alone-memory c.self.inside.own (g.D.Desk.view c.self.inside.desk) (g.D.Desk.view c.between.new.desk) c.self.inside.last c.self.inside.sealed c.args.ask.now c.between.ensures c.seen-seen.ensures.known)

pub returns-clause-event : goal.returns-clause-event
returns-clause-event g c =
    let own : c.reserve.new.own ≡ 0 ∷ c.self.inside.own = search rules in
    rw (← c.self.view_is) (alone-ask c.self.inside.own c.note_last.new.own (g.D.Desk.view c.self.inside.desk) (g.D.Desk.view c.between.new.desk) (g.D.Desk.view c.ask-result.new.self) c.self.inside.last c.note_last.new.last c.self.inside.sealed c.keep_seal.new.sealed c.args.ask.now _
    (record {
      same = λ e. let noted = c.note_last.ensures.same (c.last-after.ensures.is ∙ e ∙ sym c.last-before.ensures.is) in (noted.0 ∙ own, noted.1);
      other = λ apart. let noted = c.note_last.ensures.moved (λ e. apart (sym c.last-after.ensures.is ∙ e ∙ c.last-before.ensures.is)) in
          (noted.0 ∙ ap (λ l. slice_set l 0 c.last-after.result) own ∙ ap (λ n. n ∷ c.self.inside.own) c.last-after.ensures.is, noted.1 ∙ c.last-after.ensures.is);
    }) (omega (arith, c.last-before.ensures.is, c.last-before.ensures.low)) c.between.ensures c.ask-result.ensures.event)

pub returns-clause-seals : goal.returns-clause-seals
returns-clause-seals g c =
    let slot : c.reserve.new.sealed ≡ with_seal c.seal_of-seal.result c.self.inside.sealed = search rules in
    let kept = sealed-kept c.args.ask.now c.ask-result.result c.seal_of-seal.result c.reserve.new.sealed c.keep_seal.new.sealed c.self.inside.sealed c.is_err-2.result c.seal_of-seal.ensures slot c.is_err-2.ensures.value c.keep_seal.ensures.kept c.keep_seal.ensures.undone in
    subst (Seals c.args.ask.now c.ask-result.result) (sym kept) (seals-asked c.args.ask.now c.ask-result.result c.self.inside.sealed)

pub returns-clause-own : goal.returns-clause-own
returns-clause-own g c = rw (← c.self.view_is) (λ apart.
    let moved : c.last-after.result ≢ c.last-before.result = λ e. apart ((c.note_last.ensures.same e).1) in
    let own = c.ask-result.ensures.own (λ e. moved (c.last-after.ensures.is ∙ e ∙ sym c.last-before.ensures.is)) in
    let last = (c.note_last.ensures.moved moved).1 in
    (omega (arith, c.between.ensures.entries, own.0, last, c.last-after.ensures.is), omega (arith, own.1, last, c.last-after.ensures.is)))

pub returns-then-is_err-clause-store : goal.returns-then-is_err-clause-store
returns-then-is_err-clause-store g c = rw (← c.self.view_is) (λ alone. cc alone)

pub returns-clause-store : goal.returns-clause-store
returns-clause-store g c = rw (← c.self.view_is) (λ alone. cc alone)
