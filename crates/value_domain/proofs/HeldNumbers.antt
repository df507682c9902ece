-- A span is under another one exactly where the other one holds all its numbers; which numbers between two others
-- a span holds.
use Rattle.std.proofs.Common.{◌≡◌, ℕ, zero, suc, ◌<◌, ◌≤◌, ◌+◌, ◌-◌, ◌*◌, ◌/◌, ◌%◌, true, leb, sym, subst, arith, inl, inr}
use Rattle.std.specs.Int.{◌∣◌}
use Rattle.std.proofs.lemmas.Bool.{cases_lt, cond-true, cond-false, le-leb, lt-leb, leb-true, ltb-true, lt-ltb, and_parts, and_from}
use Rattle.std.proofs.lemmas.Nat.Gcd.{dvd_refl, dvd-zero, dvd_trans, mod-eq-zero_of_dvd}
use Rattle.std.proofs.Math.Nat.{dvd-add, dvd-sub, dvd-mul_right, div-add-mod, mul-div_cancel', add-mul-mod_self_left}
use Rattle.value_domain.specs.Spans.{Span, IsStrided, Holds, next_held, meets}
use Rattle.value_domain.specs.OrderLemmas.{Under, on_step, step_whole, step_fits}
use Rattle.value_domain.proofs.BitSpans.{holds_lo}

pub under_holds : (a b : Span) (n : ℕ) → Under a b → Holds a n → Holds b n
under_holds a b n u h =
    let e : n - b.lo ≡ (n - a.lo) + (a.lo - b.lo) = omega (arith, u.low, h.low) in
    record {
      low = omega (arith, u.low, h.low);
      high = omega (arith, u.high, h.high);
      on = rw e (mod-eq-zero_of_dvd b.step (dvd-add b.step (dvd_trans b.step u.step (on_step a n h)) u.start));
    }

holds_hi : (a : Span) → IsStrided a → Holds a a.hi
holds_hi a p = record { low = p.order; high = omega arith; on = p.whole }

-- The second number of a span.
holds_next : (a : Span) → IsStrided a → 0 < a.step → Holds a (a.lo + a.step)
holds_next a p pos =
    let f : a.step ≤ a.hi - a.lo = step_fits a.lo a.hi a.step p.order p.whole p.one in
    let e : a.lo + a.step - a.lo ≡ a.step = omega arith in
    record { low = omega arith; high = omega (arith, p.order); on = rw e (mod-eq-zero_of_dvd a.step (dvd_refl a.step)) }

steps_divide : (a b : Span) → IsStrided a → ((n : ℕ) → Holds a n → Holds b n) → b.step ∣ a.step
steps_divide a b p all = elim (cases_lt 0 a.step) [
  | inl pos ↦
      let first = all a.lo (holds_lo a p) in
      let next = all (a.lo + a.step) (holds_next a p pos) in
      let e : a.step ≡ (a.lo + a.step - b.lo) - (a.lo - b.lo) = omega (arith, first.low) in
      subst (λ (n : ℕ). b.step ∣ n) (sym e) (dvd-sub b.step (on_step b _ next) (on_step b _ first))
  | inr zero1 ↦
      let e : a.step ≡ 0 = omega arith in
      rw e (dvd-zero b.step)
]

pub holds_under : (a b : Span) → IsStrided a → ((n : ℕ) → Holds a n → Holds b n) → Under a b
holds_under a b p all =
    let first = all a.lo (holds_lo a p) in
    let last = all a.hi (holds_hi a p) in
    record { low = first.low; high = last.high; start = on_step b a.lo first; step = steps_divide a b p all }

-- ---- the least held number from another number on

next_low : (s : Span) (from : ℕ) → from ≤ s.lo → next_held s from ≡ s.lo
next_low s from le = cond-true (leb from s.lo) s.lo (from + (s.hi - from) % s.step) (le-leb _ _ le)

next_high : (s : Span) (from : ℕ) → s.lo < from → next_held s from ≡ from + (s.hi - from) % s.step
next_high s from lt = cond-false (leb from s.lo) s.lo (from + (s.hi - from) % s.step) (lt-leb _ _ lt)

rest_within : (n step : ℕ) → n % step ≤ n
rest_within n zero = omega arith
rest_within n (suc step) = omega arith

-- The rest is what is above a multiple.
rest_steps : (n step : ℕ) → step ∣ (n - n % step)
rest_steps n step =
    let e : n - n % step ≡ step * (n / step) = omega (arith, div-add-mod n step) in
    rw e (dvd-mul_right step (n / step))

-- The greatest number of a span differs from each held number by a multiple of the step.
steps_above : (s : Span) (n : ℕ) → IsStrided s → Holds s n → s.step ∣ (s.hi - n)
steps_above s n p h =
    let e : s.hi - n ≡ (s.hi - s.lo) - (n - s.lo) = omega (arith, h.low, h.high) in
    rw e (dvd-sub s.step (step_whole s p) (on_step s n h))

rest_least : (step above distance : ℕ) → step ∣ above → (above + distance) % step ≤ distance
rest_least step above distance d =
    let e : step * (above / step) ≡ above = mul-div_cancel' step d in
    let f : (distance + step * (above / step)) % step ≡ distance % step = add-mul-mod_self_left distance step (above / step) in
    let g : above + distance ≡ distance + step * (above / step) = omega (arith, e) in
    rw (g, f) (rest_within distance step)

next_holds : (s : Span) (from : ℕ) → IsStrided s → s.lo < from → from ≤ s.hi → Holds s (from + (s.hi - from) % s.step)
next_holds s from p lt le =
    let w = rest_within (s.hi - from) s.step in
    let n = from + (s.hi - from) % s.step in
    let e : n - s.lo ≡ (s.hi - s.lo) - ((s.hi - from) - (s.hi - from) % s.step) = omega (arith, w) in
    record {
      low = omega (arith, lt);
      high = omega (arith, w);
      on = rw e (mod-eq-zero_of_dvd s.step (dvd-sub s.step (step_whole s p) (rest_steps (s.hi - from) s.step)));
    }

abbrev pub Meets : Span → (from to : ℕ) → Type 0
Meets s from to = (n : ℕ) × Holds s n × (from ≤ n) × (n < to)

meets_low : (s : Span) (from to : ℕ) → IsStrided s → from ≤ s.lo → next_held s from < to → Meets s from to
meets_low s from to p le lt = (s.lo, holds_lo s p, le, omega (arith, lt, next_low s from le))

meets_high : (s : Span) (from to : ℕ) → IsStrided s → s.lo < from → from ≤ s.hi → next_held s from < to → Meets s from to
meets_high s from to p lt le below =
    (from + (s.hi - from) % s.step, next_holds s from p lt le, omega arith, omega (arith, below, next_high s from lt))

pub meets_number : (s : Span) (from to : ℕ) → IsStrided s → meets s from to ≡ true → Meets s from to
unfolding meets
meets_number s from to p e =
    let q = and_parts _ _ e in
    elim (cases_lt s.lo from) [
      | inl lt ↦ meets_high s from to p lt (leb-true _ _ q.0) (ltb-true _ _ q.1)
      | inr le ↦ meets_low s from to p le (ltb-true _ _ q.1)
    ]

-- No held number from there on is less than the next one.
next_least : (s : Span) (from n : ℕ) → IsStrided s → Holds s n → from ≤ n → next_held s from ≤ n
next_least s from n p h le = elim (cases_lt s.lo from) [
  | inl lt ↦
      let e : s.hi - from ≡ (s.hi - n) + (n - from) = omega (arith, h.high) in
      let r : (s.hi - from) % s.step ≤ n - from = rw e (rest_least s.step (s.hi - n) (n - from) (steps_above s n p h)) in
      omega (arith, next_high s from lt, r)
  | inr ge ↦ omega (arith, next_low s from ge, h.low)
]

pub number_meets : (s : Span) (from to : ℕ) → IsStrided s → Meets s from to → meets s from to ≡ true
unfolding meets
number_meets s from to p m =
    let a : from ≤ s.hi = omega (arith, m.1.high, m.2) in
    let b : next_held s from < to = omega (arith, next_least s from m.0 p m.1 m.2, m.3) in
    and_from _ _ (le-leb from s.hi a) (lt-ltb (next_held s from) to b)
