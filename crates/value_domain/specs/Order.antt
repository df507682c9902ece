-- The order of spans, their joins, their widening and their ranks.
use Rattle.std.specs.Prelude.{ℕ, ◌+◌, ◌-◌, ◌*◌, ◌%◌, ◌^◌, ◌&&◌, nat_lt, nat_le, min, max, Bool, if◌then◌else◌}
use Rattle.value_domain.specs.Divisors.{divides, gcd}
use Rattle.value_domain.specs.Spans.{Span}

-- Whether each number of the first span is one of the second.
abbrev pub leq : Span → Span → Bool
leq a b = nat_le b.lo a.lo && nat_le a.hi b.hi && divides b.step (a.lo - b.lo) && divides b.step a.step

-- The least span with all numbers of both: its step divides both steps and the distance of the least numbers.
unfoldable pub joined : Span → Span → Span
joined a b = record {
  lo = min a.lo b.lo;
  hi = max a.hi b.hi;
  step = gcd (gcd a.step b.step) (max a.lo b.lo - min a.lo b.lo);
}

-- An end that the old span doesn't have goes as far as the step and 32 bits let it; the other ends stay.
abbrev pub least_on : (step lo : ℕ) → ℕ
least_on step lo = lo % step

abbrev pub greatest_on : (step hi : ℕ) → ℕ
greatest_on step hi = 2 ^ 32 - 1 - (2 ^ 32 - 1 - hi) % step

abbrev pub spread : (old both : Span) → Span
spread old both = record {
  lo = if nat_lt both.lo old.lo then least_on both.step both.lo else both.lo;
  hi = if nat_lt old.hi both.hi then greatest_on both.step both.hi else both.hi;
  step = both.step;
}

unfoldable pub widened : (old newer : Span) → Span
widened old newer = spread old (joined old newer)

-- A wider span has a lower rank, and of those between the same ends one with a smaller step.
abbrev pub rank : Span → ℕ
rank s = (2 ^ 32 - (s.hi - s.lo)) * 2 ^ 32 + s.step
