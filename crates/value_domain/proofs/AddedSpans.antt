-- Sums and differences of spans: what they hold, that they rise, and those of one number.
use Rattle.std.proofs.Common.{◌≡◌, ℕ, ◌+◌, ◌-◌, ◌%◌, ◌^◌, arith}
use Rattle.std.specs.Int.{◌∣◌}
use Rattle.std.proofs.lemmas.Nat.Gcd.{dvd_trans, dvd_of_mod-eq-zero, mod-eq-zero_of_dvd}
use Rattle.std.proofs.Math.Nat.{dvd-add, dvd-sub}
use Rattle.value_domain.specs.Spans.{Span, IsStrided, IsWhole, Holds, single}
use Rattle.value_domain.specs.Divisors.{gcd}
use Rattle.value_domain.specs.Results.{wrapped, added, taken_from, turned}
use Rattle.value_domain.specs.DivisorLemmas.{gcd-is, no_step}
use Rattle.value_domain.specs.OrderLemmas.{Under, under_same, on_step, step_whole}
use Rattle.value_domain.proofs.Wholes.{strided_single, holds_single, strided_wrapped, holds_wrapped, wrapped_rises, single_wrapped}

pub whole_of : (a : Span) → IsStrided a → IsWhole a.lo a.hi a.step
whole_of a p = record { order = p.order; whole = p.whole; one = p.one }

-- ---- sums of exact ends

-- The step of a sum divides both distances, and so their sum.
divides_both : (a b : Span) (x y : ℕ) → a.step ∣ x → b.step ∣ y → gcd a.step b.step ∣ (x + y)
divides_both a b x y p q =
    let g = gcd-is a.step b.step in
    dvd-add (gcd a.step b.step) (dvd_trans _ g.0 p) (dvd_trans _ g.1 q)

pub whole_sum : (a b : Span) → IsWhole a.lo a.hi a.step → IsWhole b.lo b.hi b.step
    → IsWhole (a.lo + b.lo) (a.hi + b.hi) (gcd a.step b.step)
whole_sum a b p q = record {
  order = omega (arith, p.order, q.order);
  whole =
      let e : (a.hi + b.hi) - (a.lo + b.lo) ≡ (a.hi - a.lo) + (b.hi - b.lo) = omega (arith, p.order, q.order) in
      mod-eq-zero_of_dvd _ (rw e (divides_both a b (a.hi - a.lo) (b.hi - b.lo) (dvd_of_mod-eq-zero a.step p.whole) (dvd_of_mod-eq-zero b.step q.whole)));
  one = λ e.
      let f : a.step ≡ 0 = p.one (omega (arith, e, p.order, q.order)) in
      let g : b.step ≡ 0 = q.one (omega (arith, e, p.order, q.order)) in
      rw (f, g) no_step;
}

holds_sum : (a b : Span) (x y : ℕ) → Holds a x → Holds b y
    → Holds (wrapped (a.lo + b.lo) (a.hi + b.hi) (gcd a.step b.step)) ((x + y) % 2 ^ 32)
holds_sum a b x y h k =
    let e : (x + y) - (a.lo + b.lo) ≡ (x - a.lo) + (y - b.lo) = omega (arith, h.low, k.low) in
    holds_wrapped (a.lo + b.lo) (a.hi + b.hi) (gcd a.step b.step) (x + y) (omega (arith, h.low, k.low)) (omega (arith, h.high, k.high))
    (rw e (divides_both a b (x - a.lo) (y - b.lo) (on_step a x h) (on_step b y k)))

sum_rises : (a b c d : Span) → IsWhole a.lo a.hi a.step → IsWhole b.lo b.hi b.step → Under a c → Under b d
    → Under (wrapped (a.lo + b.lo) (a.hi + b.hi) (gcd a.step b.step)) (wrapped (c.lo + d.lo) (c.hi + d.hi) (gcd c.step d.step))
sum_rises a b c d p q u v =
    let g = gcd-is c.step d.step in
    let e : (a.lo + b.lo) - (c.lo + d.lo) ≡ (a.lo - c.lo) + (b.lo - d.lo) = omega (arith, u.low, v.low) in
    wrapped_rises (a.lo + b.lo) (a.hi + b.hi) (gcd a.step b.step) (c.lo + d.lo) (c.hi + d.hi) (gcd c.step d.step)
    (whole_sum a b p q) (omega (arith, u.low, v.low)) (omega (arith, u.high, v.high))
    (rw e (divides_both c d (a.lo - c.lo) (b.lo - d.lo) u.start v.start))
    ((gcd-is a.step b.step).2 (gcd c.step d.step) (dvd_trans _ g.0 u.step) (dvd_trans _ g.1 v.step))

single_sum : (x y : ℕ) → wrapped (x + y) (x + y) (gcd 0 0) ≡ single ((x + y) % 2 ^ 32)
single_sum x y = rw no_step (single_wrapped (x + y))

-- ---- sums

pub strided_added : (a b : Span) → IsStrided a → IsStrided b → IsStrided (added a b)
unfolding added
strided_added a b p q = strided_wrapped _ _ _ (whole_sum a b (whole_of a p) (whole_of b q))

pub holds_added : (a b : Span) (x y : ℕ) → Holds a x → Holds b y → Holds (added a b) ((x + y) % 2 ^ 32)
unfolding added
holds_added a b x y h k = holds_sum a b x y h k

pub added_rises : (a b c d : Span) → IsStrided a → IsStrided b → Under a c → Under b d → Under (added a b) (added c d)
unfolding added
added_rises a b c d p q u v = sum_rises a b c d (whole_of a p) (whole_of b q) u v

pub single_added : (x y : ℕ) → added (single x) (single y) ≡ single ((x + y) % 2 ^ 32)
unfolding added
single_added x y = single_sum x y

-- ---- differences: sums with 2 ^ 32 less the second span

abbrev pub opposite : Span → Span
opposite b = record { lo = 2 ^ 32 - b.hi; hi = 2 ^ 32 - b.lo; step = b.step }

pub whole_opposite : (b : Span) → IsStrided b → IsWhole (2 ^ 32 - b.hi) (2 ^ 32 - b.lo) b.step
whole_opposite b q =
    let e : (2 ^ 32 - b.lo) - (2 ^ 32 - b.hi) ≡ b.hi - b.lo = omega (arith, q.top, q.order) in
    record {
      order = omega (arith, q.order);
      whole = rw e q.whole;
      one = λ f. q.one (omega (arith, f, q.top, q.order));
    }

holds_opposite : (b : Span) (y : ℕ) → IsStrided b → Holds b y → Holds (opposite b) (2 ^ 32 - y)
holds_opposite b y q k =
    let e : (2 ^ 32 - y) - (2 ^ 32 - b.hi) ≡ (b.hi - b.lo) - (y - b.lo) = omega (arith, q.top, k.low, k.high) in
    record {
      low = omega (arith, k.high);
      high = omega (arith, k.low);
      on = rw e (mod-eq-zero_of_dvd b.step (dvd-sub b.step (step_whole b q) (on_step b y k)));
    }

opposite_rises : (b d : Span) → IsStrided b → IsStrided d → Under b d → Under (opposite b) (opposite d)
opposite_rises b d q s v =
    let e : (2 ^ 32 - b.hi) - (2 ^ 32 - d.hi) ≡ ((d.hi - d.lo) - (b.hi - b.lo)) - (b.lo - d.lo) = omega (arith, q.top, s.top, q.order, s.order, v.low, v.high) in
    record {
      low = omega (arith, v.high);
      high = omega (arith, v.low);
      start = rw e (dvd-sub d.step (dvd-sub d.step (step_whole d s) (dvd_trans _ v.step (step_whole b q))) v.start);
      step = v.step;
    }

pub strided_taken : (a b : Span) → IsStrided a → IsStrided b → IsStrided (taken_from a b)
unfolding taken_from
strided_taken a b p q = strided_wrapped _ _ _ (whole_sum a (opposite b) (whole_of a p) (whole_opposite b q))

pub holds_taken : (a b : Span) (x y : ℕ) → IsStrided b → Holds a x → Holds b y → Holds (taken_from a b) ((x + (2 ^ 32 - y)) % 2 ^ 32)
unfolding taken_from
holds_taken a b x y q h k = holds_sum a (opposite b) x (2 ^ 32 - y) h (holds_opposite b y q k)

pub taken_rises : (a b c d : Span) → IsStrided a → IsStrided b → IsStrided d → Under a c → Under b d → Under (taken_from a b) (taken_from c d)
unfolding taken_from
taken_rises a b c d p q s u v =
    sum_rises a (opposite b) c (opposite d) (whole_of a p) (whole_opposite b q) u (opposite_rises b d q s v)

pub single_taken : (x y : ℕ) → taken_from (single x) (single y) ≡ single ((x + (2 ^ 32 - y)) % 2 ^ 32)
unfolding taken_from
single_taken x y = single_sum x (2 ^ 32 - y)

-- ---- the numbers moved by 2 ^ 31

pub strided_turned : (a : Span) → IsStrided a → IsStrided (turned a)
unfolding turned
strided_turned a p = strided_added a (single (2 ^ 31)) p (strided_single (2 ^ 31) (omega arith))

pub holds_turned : (a : Span) (x : ℕ) → Holds a x → Holds (turned a) ((x + 2 ^ 31) % 2 ^ 32)
unfolding turned
holds_turned a x h = holds_added a (single (2 ^ 31)) x (2 ^ 31) h (holds_single (2 ^ 31))

pub turned_rises : (a c : Span) → IsStrided a → Under a c → Under (turned a) (turned c)
unfolding turned
turned_rises a c p u =
    added_rises a (single (2 ^ 31)) c (single (2 ^ 31)) p (strided_single (2 ^ 31) (omega arith)) u (under_same (single (2 ^ 31)))

pub single_turned : (x : ℕ) → turned (single x) ≡ single ((x + 2 ^ 31) % 2 ^ 32)
unfolding turned
single_turned x = single_added x (2 ^ 31)
