-- Common divisors.
use Rattle.std.specs.Prelude.{ℕ, zero, suc, ◌%◌, ◌==◌, ◌&&◌, Bool, max, if◌then◌else◌}

-- Whether a step divides a number. Only 0 is a multiple of 0.
abbrev pub divides : (step n : ℕ) → Bool
divides step n = n % step == 0

-- The greatest number up to a limit that divides both, and 0 where there is none.
abbrev pub common_divisor : (limit a b : ℕ) → ℕ
common_divisor zero a b = 0
common_divisor (suc limit) a b =
    if divides (suc limit) a && divides (suc limit) b then suc limit else common_divisor limit a b

-- The greatest common divisor; a number is that of itself and 0.
unfoldable pub gcd : ℕ → ℕ → ℕ
gcd a b = common_divisor (max a b) a b
