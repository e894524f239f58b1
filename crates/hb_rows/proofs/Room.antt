-- Room for more rows is room for fewer.
use Rattle.std.proofs.Common.{ℕ, ◌≤◌, arith}
use Rattle.hb_rows.specs.declared.lists.Lists.{Lists}
use Rattle.hb_rows.specs.Lists.{HasRoom}

pub HasRoom-fewer : (m n : ℕ) (a : Lists) → n ≤ m → HasRoom m a → HasRoom n a
HasRoom-fewer m n a h r = record {
  projects = omega (arith, r.projects);
  blobs = omega (arith, r.blobs);
  pairs = omega (arith, r.pairs);
  artifacts = omega (arith, r.artifacts);
  tags = omega (arith, r.tags);
  uploads = omega (arith, r.uploads);
  jobs = omega (arith, r.jobs);
  candidates = omega (arith, r.candidates);
  snaps = omega (arith, r.snaps);
  entries = omega (arith, r.entries);
}
