-- What a clock goes on to read.
use Rattle.std.specs.Prelude.{◌+◌, ◌-◌, ◌*◌, ◌^◌, ℕ, min, suc, Option, option_map}

-- the readings behind the next one
abbrev pub behind : Option (ℕ → ℕ) → Option (ℕ → ℕ)
behind readings = option_map (λ reading k. reading (suc k)) readings

-- the readings of a clock that goes on by the same step, up to the end of its type
abbrev pub steps_of : ℕ → ℕ → ℕ → ℕ
steps_of next step k = min (next + k * step) (2 ^ 64 - 1)
