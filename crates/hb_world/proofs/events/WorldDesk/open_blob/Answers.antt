use Rattle.std.proofs.Common.{refl, arith}
use Rattle.hb_desk.specs.Calls.{BlobOpened}
use Rattle.hb_world.specs.Worlds.{shown}
use Rattle.hb_world.proofs.Opened.{blob-sized, opened-bytes, opened-length}
use Rattle.hb_world.proofs.StoreEvents.{event-store, same-done, whole-store}
use Rattle.hb_world.proofs.events.WorldDesk.open_blob.Goals as goal

pub invariant_of-self : goal.invariant_of-self
invariant_of-self g c = let e = c.open_blob-result.ensures in whole-store _ _ (BlobOpened c.args.name.now c.args.digest.now) _ refl (same-done _ _ (BlobOpened c.args.name.now c.args.digest.now) _ (record { rows = e.rows; stands = e.stands; entries = refl; start = refl; last = refl; later = omega (arith, c.moment_of-moment.ensures); past = omega (arith, c.moment_of-moment.ensures, c.self.invariant.past) }) (λ s. refl) refl (e.reply c.self.inside.notes)) c.self.invariant

pub returns-clause-event : goal.returns-clause-event
returns-clause-event g c = let e = c.open_blob-result.ensures in rw (← c.self.view_is) (event-store _ _ (BlobOpened c.args.name.now c.args.digest.now) _ refl (same-done _ _ (BlobOpened c.args.name.now c.args.digest.now) _ (record { rows = e.rows; stands = e.stands; entries = refl; start = refl; last = refl; later = omega (arith, c.moment_of-moment.ensures); past = omega (arith, c.moment_of-moment.ensures, c.self.invariant.past) }) (λ s. refl) refl (e.reply c.self.inside.notes)) c.self.invariant)

pub returns-clause-bytes : goal.returns-clause-bytes
returns-clause-bytes g c = let e = c.open_blob-result.ensures in rw (← c.self.view_is) (opened-bytes g.S.Reader.Reader.bytes g.S.Reader.Reader.left (shown g.K.Keeper.rows g.K.Keeper.faults g.S.Store.contents g.S.Store.faults (record { keeper = c.self.inside.keeper; store = c.self.inside.store; notes = c.self.inside.notes; entries = c.self.inside.entries; moment = c.self.inside.moment; start = c.self.inside.start; last = c.self.inside.last })) _ c.self.invariant e.stands c.open_blob-result.result e.told)

pub returns-clause-length : goal.returns-clause-length
returns-clause-length g c = let e = c.open_blob-result.ensures in opened-length g.S.Reader.Reader.bytes g.S.Reader.Reader.left (shown g.K.Keeper.rows g.K.Keeper.faults g.S.Store.contents g.S.Store.faults (record { keeper = c.self.inside.keeper; store = c.self.inside.store; notes = c.self.inside.notes; entries = c.self.inside.entries; moment = c.self.inside.moment; start = c.self.inside.start; last = c.self.inside.last })) _ c.self.invariant e.stands c.open_blob-result.result (BlobOpened c.args.name.now c.args.digest.now) _ e.rows (λ r stand. blob-sized r _ c.args.name.now c.args.digest.now stand) (e.reply c.self.inside.notes) e.told
