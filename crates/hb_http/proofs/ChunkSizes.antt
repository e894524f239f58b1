-- A size of at most 16 hexadecimal digits fits 64 bits.
use Rattle.std.proofs.Common.{◌<◌, ◌≤◌, ◌+◌, ◌*◌, ◌^◌, ℕ, arith, lit<}
use Rattle.std.proofs.Math.Nat.{pow-le-pow_right}

pub sizes_fit : (size digits value : ℕ) → size < 16 ^ digits → digits < 16 → value < 16 → size * 16 + value < 2 ^ 64
sizes_fit size digits value below few small =
    let less : digits ≤ 15 = omega arith in
    let most : 16 ^ digits ≤ 16 ^ 15 = pow-le-pow_right (lit< tt) less in
    omega arith
