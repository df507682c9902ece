-- The order of spans, in terms of their ends and steps.
use Rattle.std.proofs.Common.{◌≡◌, ℕ, ◌<◌, ◌≤◌, ◌-◌, ◌%◌, ◌^◌, true, arith, inl, inr}
use Rattle.std.specs.Int.{◌∣◌}
use Rattle.std.proofs.lemmas.Bool.{cases_lt, leb-true, le-leb, and_parts, and_from}
use Rattle.std.proofs.lemmas.Nat.Gcd.{dvd_refl, dvd-zero, le_of_dvd, dvd_of_mod-eq-zero}
use Rattle.std.proofs.Math.Nat.{one-dvd}
use Rattle.value_domain.specs.Spans.{Span, IsStrided, Holds, everything}
use Rattle.value_domain.specs.Order.{leq}
use Rattle.value_domain.specs.DivisorLemmas.{divides_from, from_divides}

pub record Under (a b : Span) : Type 0 where
  pub low : b.lo ≤ a.lo
  pub high : a.hi ≤ b.hi
  pub start : b.step ∣ (a.lo - b.lo)
  pub step : b.step ∣ a.step

pub under : (a b : Span) → leq a b ≡ true → Under a b
under a b e =
    let p = and_parts _ _ e in
    let q = and_parts _ _ p.0 in
    let r = and_parts _ _ q.0 in
    record {
      low = leb-true _ _ r.0;
      high = leb-true _ _ r.1;
      start = from_divides _ _ q.1;
      step = from_divides _ _ p.1;
    }

pub from_under : (a b : Span) → Under a b → leq a b ≡ true
from_under a b u =
    and_from _ _ (and_from _ _ (and_from _ _ (le-leb _ _ u.low) (le-leb _ _ u.high)) (divides_from _ _ u.start)) (divides_from _ _ u.step)

pub under_same : (a : Span) → Under a a
under_same a =
    let e : a.lo - a.lo ≡ 0 = omega arith in
    record { low = omega arith; high = omega arith; start = rw e (dvd-zero _); step = dvd_refl _ }

-- Everything is above all.
pub under_everything : (a : Span) → a.hi < 2 ^ 32 → Under a everything
under_everything a top = record { low = omega arith; high = omega arith; start = one-dvd _; step = one-dvd _ }

-- ---- steps

pub on_step : (s : Span) (n : ℕ) → Holds s n → s.step ∣ (n - s.lo)
on_step s n h = dvd_of_mod-eq-zero s.step h.on

pub step_whole : (s : Span) → IsStrided s → s.step ∣ (s.hi - s.lo)
step_whole s p = dvd_of_mod-eq-zero s.step p.whole

-- A step is at most the distance of the ends.
pub step_fits : (lo hi step : ℕ) → lo ≤ hi → (hi - lo) % step ≡ 0 → (lo ≡ hi → step ≡ 0) → step ≤ hi - lo
step_fits lo hi step order whole one = elim (cases_lt lo hi) [
  | inl lt ↦ let p : 0 < hi - lo = omega arith in le_of_dvd p (dvd_of_mod-eq-zero step whole)
  | inr ge ↦ let e : lo ≡ hi = omega arith in omega (arith, one e)
]
