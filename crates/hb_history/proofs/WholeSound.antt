-- What every event keeps makes the promise about stored bytes.
use Rattle.std.proofs.Common.{ℕ, is_some, IsTrue, ap}
use Rattle.hb_records.specs.declared.notes.Notes.{Notes}
use Rattle.hb_records.proofs.KeyOrders.{named_digest_cmp-order}
use Rattle.hb_rows.specs.Tables.{Tables}
use Rattle.hb_store.specs.Contents.{Contents}
use Rattle.hb_model.specs.Registry.{pair_key}
use Rattle.hb_model.specs.Replay.{replay}
use Rattle.hb_model.specs.Presence.{present}
use Rattle.hb_model.specs.Sound.{IsHeld, HasLength, IsSound}
use Rattle.hb_model.specs.Whole.{IsWhole}
use Rattle.hb_model.proofs.EntrySteps.{All-weaker}
use Rattle.hb_history.proofs.FoundRows.{all_found}
use Rattle.hb_history.proofs.PairTables.{pairs-rise}
use Rattle.hb_history.proofs.Settled.{settled}
use Rattle.hb_history.proofs.Sizes.{sizes-stored}

pub sound-whole : (rows : Tables) (n : Notes) (c : Contents) (t : ℕ) → IsWhole rows n c t → IsSound (replay rows.audit) c
sound-whole rows n c t whole =
    let j = rows.audit in
    record {
      stored = All-weaker (λ pair. IsTrue (present j pair.digest)) (λ pair. IsHeld c pair.digest) (λ pair here. (whole.present_kept pair.digest here).held) (replay j).pairs whole.pairs_present;
      complete = whole.complete;
      lengths = λ one. all_found named_digest_cmp-order.total pair_key (λ pair. HasLength c pair.digest pair.size) (replay j).pairs (pairs-rise j) (λ pair found.
          (whole.lengths one).present pair.digest pair.size (settled j whole.stands.history pair.project pair.digest (ap is_some found)).here (sizes-stored j whole.stands.history pair.project pair.digest pair found));
    }
