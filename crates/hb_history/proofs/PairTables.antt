-- The pairs that clients see are a table, and what a project uses is a sum over it.
use Rattle.std.proofs.Common.{◌≡◌, ℕ, cond, List, [], ◌∷◌, Option, Some, None, sum_by}
use Rattle.hb_base.specs.Tables.{Rises}
use Rattle.hb_base.proofs.TableLaws.{Rises-with, Rises-without, sum-filter}
use Rattle.hb_text.specs.declared.digests.Digest.{Digest}
use Rattle.hb_text.specs.Names.{project_of}
use Rattle.hb_records.specs.Entries.{AuditEntry}
use Rattle.hb_records.specs.declared.entries.EntryKind.{EntryKind}
use Rattle.hb_records.specs.declared.entries.EntryKind.TheVariants.{Associated, Unassociated, ArtifactPut}
use Rattle.hb_records.specs.Orders.{named_digest_cmp}
use Rattle.hb_records.proofs.KeyOrders.{named_digest_cmp-order}
use Rattle.hb_model.specs.Presence.{usage}
use Rattle.hb_model.specs.Registry.{Registry, PairItem, pair_key, pair_in}
use Rattle.hb_model.specs.Replay.{pairs_with, replay, step}
use Rattle.hb_model.specs.Words.{same_text}
use Rattle.hb_history.proofs.PairSteps.{pair_item}

rises-made : (project : List ℕ) (digest : Digest) (size : ℕ) (x : Option PairItem) (items : List PairItem) → Rises named_digest_cmp pair_key items → Rises named_digest_cmp pair_key (pairs_with project digest size x items)
rises-made project digest size None items h = Rises-with named_digest_cmp-order.total pair_key (pair_item project digest size) items h
rises-made project digest size (Some x) items h = h

rises-step : (m : Registry) (n moment : ℕ) (kind : EntryKind) → Rises named_digest_cmp pair_key m.pairs → Rises named_digest_cmp pair_key (step n moment kind m).pairs
rises-step m n moment (Associated project digest size) h = rises-made project digest size (pair_in m project digest) m.pairs h
rises-step m n moment (ArtifactPut name digest size media refs children tag) h = rises-made (project_of name) digest size (pair_in m (project_of name) digest) m.pairs h
rises-step m n moment (Unassociated job project digest) h = Rises-without named_digest_cmp-order.total pair_key (project, digest) m.pairs h
rises-step m n moment _ h = h

pub pairs-rise : (j : List AuditEntry) → Rises named_digest_cmp pair_key (replay j).pairs
pairs-rise [] = tt
pairs-rise (e ∷ j) = rises-step (replay j) e.number e.moment e.kind (pairs-rise j)

-- what a pair adds to what the project uses
abbrev pub weight : List ℕ → PairItem → ℕ
weight p x = cond (same_text p x.project) x.size 0

pub usage-weight : (m : Registry) (p : List ℕ) → usage m p ≡ sum_by (weight p) m.pairs
usage-weight m p = sum-filter (λ x. x.size) (λ x. same_text p x.project) m.pairs
