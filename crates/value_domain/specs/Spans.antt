-- Spans: numbers that rise by one step from a first to a last one, and what they hold.
use Rattle.std.specs.Prelude.{◌≡◌, ℕ, ◌<◌, ◌≤◌, ◌+◌, ◌-◌, ◌%◌, ◌^◌, ◌==◌, ◌&&◌, Bool, nat_le, nat_lt, if◌then◌else◌}

pub record Span : Type 0 where
  pub lo : ℕ
  pub hi : ℕ
  pub step : ℕ

-- A span of numbers of 32 bits, in the one form that its numbers have: the step is 0 exactly where the ends are one
-- number, else it divides their distance. (n % 0 is n.)
pub record IsStrided (s : Span) : Type 0 where
  pub order : s.lo ≤ s.hi
  pub top : s.hi < 2 ^ 32
  pub whole : (s.hi - s.lo) % s.step ≡ 0
  pub one : s.lo ≡ s.hi → s.step ≡ 0

-- Exact ends and their step before they are taken modulo 2 ^ 32.
pub record IsWhole (lo hi step : ℕ) : Type 0 where
  pub order : lo ≤ hi
  pub whole : (hi - lo) % step ≡ 0
  pub one : lo ≡ hi → step ≡ 0

-- A span holds lo, lo + step and so on, up to hi.
pub record Holds (s : Span) (n : ℕ) : Type 0 where
  pub low : s.lo ≤ n
  pub high : n ≤ s.hi
  pub on : (n - s.lo) % s.step ≡ 0

-- The least held number from another number on, in a span that goes that far: it differs from the greatest one by
-- a multiple of the step.
abbrev pub next_held : Span → ℕ → ℕ
next_held s from = if nat_le from s.lo then s.lo else from + (s.hi - from) % s.step

-- Whether a held number lies from one number on before another one.
unfoldable pub meets : Span → (from to : ℕ) → Bool
meets s from to = nat_le from s.hi && nat_lt (next_held s from) to

-- One number, and every number of 32 bits.
abbrev pub single : ℕ → Span
single n = record { lo = n; hi = n; step = 0 }

abbrev pub everything : Span
everything = record { lo = 0; hi = 4294967295; step = 1 }

-- Every number between two ends.
abbrev pub between : (lo hi : ℕ) → Span
between lo hi = record { lo = lo; hi = hi; step = if lo == hi then 0 else 1 }

-- Whether the ends are one number.
abbrev pub is_single : Span → Bool
is_single s = s.lo == s.hi
