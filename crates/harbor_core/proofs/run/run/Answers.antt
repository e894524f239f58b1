use Rattle.std.proofs.Common.{◌≡◌, IfSome, Some, ap, inl, is_some, refl, subst, sym, ◌∙◌}
use Rattle.hb_records.specs.declared.notes.Notes.{Notes}
use Rattle.hb_desk.specs.Clause.{View}
use Rattle.hb_desk.specs.Keeping.{state_of}
use Rattle.hb_world.specs.Worlds.{shown, view_of}
use Rattle.hb_world.proofs.StartSteps.{rest-pullable}
use Rattle.harbor_core.proofs.Running.{left-rows, opened-on, refused-misfit, started-fits, talked-fits, talked-from}
use Rattle.harbor_core.proofs.run.run.Goals as goal

pub returns-in-Ok-clause-talked : goal.returns-in-Ok-clause-talked
returns-in-Ok-clause-talked g c = λ talk.
    let ran = c.converse.ensures.talked in
    let opened : View = view_of (shown g.K.Keeper.rows g.K.Keeper.faults g.S.Store.contents g.S.Store.faults c.in-Ok.world) in
    let closed : View = view_of (shown g.K.Keeper.rows g.K.Keeper.faults g.S.Store.contents g.S.Store.faults ran.1) in
    inl (record {
      end = ran.0;
      status_is = ran.2;
      opened = opened;
      closed = closed;
      talked = talked-from _ opened _ _ _ _ _ _ ran.0 c.now.ensures.goes_on ran.5;
      opens = record {
        rows = opened-on (g.C.Clock.readings c.args.clock.now) (g.K.Keeper.rows c.args.keeper) (g.K.Keeper.rows c.in-Ok.world.keeper) c.now.result c.in-Ok.world.moment c.in-Ok.world.notes opened c.now.ensures.reading c.in-Ok.ensures.started c.in-Ok.ensures.fresh.0 refl;
        keeper = c.in-Ok.ensures.later;
        store = ap (λ s. g.S.Store.faults s) c.in-Ok.ensures.store;
        told_bytes = ap (λ s. is_some (g.S.Store.contents s)) c.in-Ok.ensures.store;
        sole = refl;
      };
      leaves = record {
        rows = subst (λ k. IfSome (g.K.Keeper.rows k) (λ r. (n : Notes) × (closed.state ≡ Some (state_of r n)))) (sym ran.3) (left-rows (g.K.Keeper.rows ran.1.keeper) ran.1.notes closed.state refl);
        keeper = ap (λ k. g.K.Keeper.faults k) ran.3;
        store = ap (λ s. g.S.Store.faults s) ran.4;
        seat = refl;
      };
    })

pub returns-in-Ok-clause-misfit : goal.returns-in-Ok-clause-misfit
returns-in-Ok-clause-misfit g c = λ talk misfit. absurd (started-fits (g.K.Keeper.rows c.args.keeper) _ _ _ c.in-Ok.ensures.started misfit)

pub returns-in-Ok-clause-unfit : goal.returns-in-Ok-clause-unfit
returns-in-Ok-clause-unfit g c = λ is. absurd (talked-fits c.converse.ensures.talked.0 (sym c.converse.ensures.talked.2 ∙ is))

pub returns-in-Err-clause-unfit : goal.returns-in-Err-clause-unfit
returns-in-Err-clause-unfit g c = λ is. refused-misfit (g.K.Keeper.rows c.args.keeper) _ _ _ c.in-Err.refused.fault c.in-Err.ensures.refused (sym c.status_of_fault.ensures ∙ is)

pub returns-then-not-is_talk-clause-pullable : goal.returns-then-not-is_talk-clause-pullable
returns-then-not-is_talk-clause-pullable g c = rest-pullable (g.K.Keeper.rows c.args.keeper) (g.S.Store.contents c.args.store)

pub returns-in-Err-clause-pullable : goal.returns-in-Err-clause-pullable
returns-in-Err-clause-pullable g c = λ rest. rest-pullable (g.K.Keeper.rows c.in-Err.refused.keeper) (g.S.Store.contents c.in-Err.refused.store) (rw (c.in-Err.ensures.refused.same, c.in-Err.ensures.kept) rest)
