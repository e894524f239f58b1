-- Calls at which no removal takes effect.
use Rattle.std.proofs.Common.{ℕ, [], refl}
use Rattle.hb_store.specs.Contents.{Contents, at_moment}
use Rattle.hb_store.specs.Calls.{Finds}

-- the clock may go on, and nothing else
pub Finds-at_moment : (c : Contents) (now : ℕ) → Finds c now (at_moment now c)
Finds-at_moment c now = record { digests = []; live = tt; is = refl }
