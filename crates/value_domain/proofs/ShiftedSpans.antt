-- Shifts of spans: what they hold, and that they rise.
use Rattle.std.proofs.Common.{◌≡◌, ℕ, zero, suc, ◌<◌, ◌≤◌, ◌+◌, ◌-◌, ◌*◌, ◌/◌, ◌%◌, ◌^◌, refl, sym, ap, subst, ◌∙◌, arith}
use Rattle.std.specs.Int.{◌∣◌}
use Rattle.std.proofs.lemmas.Bool.{cond_both, cond-true}
use Rattle.std.proofs.lemmas.Nat.{pow_pos, pow-add, shl-shr, le-div}
use Rattle.std.proofs.lemmas.Nat.Gcd.{dvd-zero, dvd_trans, dvd_of_mod-eq-zero, mod-eq-zero_of_dvd}
use Rattle.std.proofs.Math.Nat.{mul-dvd-mul_right, dvd_of_mul-dvd-mul_left, add-mul-div_left, mul-div_cancel', div-mul-le_self, div-le_self}
use Rattle.value_domain.specs.Spans.{Span, IsStrided, IsWhole, Holds, single, between}
use Rattle.value_domain.specs.Divisors.{divides}
use Rattle.value_domain.specs.Results.{shifted_left, shifted_right, shifted_signed, added, turned}
use Rattle.value_domain.specs.DivisorLemmas.{divides_from, from_divides}
use Rattle.value_domain.specs.OrderLemmas.{Under, under_same, on_step, step_whole}
use Rattle.value_domain.proofs.Wholes.{strided_single, holds_single, strided_between, holds_between, between_above, strided_wrapped, holds_wrapped, wrapped_rises, single_wrapped}
use Rattle.value_domain.proofs.AddedSpans.{strided_added, holds_added, added_rises, single_added, strided_turned, holds_turned, turned_rises, single_turned}

-- ---- products of distances

scaled_distance : (a b m : ℕ) → b ≤ a → a * m - b * m ≡ (a - b) * m
scaled_distance a b m le =
    let e : a ≡ b + (a - b) = omega arith in
    subst (λ (n : ℕ). n * m - b * m ≡ (a - b) * m) (sym e) (omega arith)

scaled_order : (a b m : ℕ) → a ≤ b → a * m ≤ b * m
scaled_order a b m le =
    let e : b ≡ a + (b - a) = omega arith in
    subst (λ (n : ℕ). a * m ≤ n * m) (sym e) (omega arith)

scaled_divides : (step n m : ℕ) → step ∣ n → step * m ∣ n * m
scaled_divides step n m d = mul-dvd-mul_right step d m

no_product : (d m a b : ℕ) → 0 < m → a ≤ b → b - a ≡ d → d * m ≡ 0 → a ≡ b
no_product zero m a b p le e f = omega arith
no_product (suc d) m a b p le e f = absurd (omega (arith, f))

same_scaled : (a b m : ℕ) → 0 < m → a ≤ b → a * m ≡ b * m → a ≡ b
same_scaled a b m p le e =
    let d : (b - a) * m ≡ 0 = sym (scaled_distance b a m le) ∙ omega (arith, e) in
    no_product (b - a) m a b p le refl d

pub whole_scaled : (a : Span) (m : ℕ) → 0 < m → IsStrided a → IsWhole (a.lo * m) (a.hi * m) (a.step * m)
whole_scaled a m p s = record {
  order = scaled_order a.lo a.hi m s.order;
  whole = rw (scaled_distance a.hi a.lo m s.order) (mod-eq-zero_of_dvd _ (scaled_divides a.step (a.hi - a.lo) m (step_whole a s)));
  one = λ e. rw (s.one (same_scaled a.lo a.hi m p s.order e)) (omega arith);
}

-- ---- shifts to the left

pub strided_left : (a : Span) (by : ℕ) → IsStrided a → IsStrided (shifted_left a by)
unfolding shifted_left
strided_left a by s = strided_wrapped _ _ _ (whole_scaled a (2 ^ by) (pow_pos by) s)

pub holds_left : (a : Span) (by x : ℕ) → Holds a x → Holds (shifted_left a by) (x * 2 ^ by % 2 ^ 32)
unfolding shifted_left
holds_left a by x h =
    holds_wrapped (a.lo * 2 ^ by) (a.hi * 2 ^ by) (a.step * 2 ^ by) (x * 2 ^ by)
    (scaled_order a.lo x (2 ^ by) h.low) (scaled_order x a.hi (2 ^ by) h.high)
    (rw (scaled_distance x a.lo (2 ^ by) h.low) (scaled_divides a.step (x - a.lo) (2 ^ by) (on_step a x h)))

pub left_rises : (a c : Span) (by : ℕ) → IsStrided a → Under a c → Under (shifted_left a by) (shifted_left c by)
unfolding shifted_left
left_rises a c by s u =
    wrapped_rises (a.lo * 2 ^ by) (a.hi * 2 ^ by) (a.step * 2 ^ by) (c.lo * 2 ^ by) (c.hi * 2 ^ by) (c.step * 2 ^ by)
    (whole_scaled a (2 ^ by) (pow_pos by) s)
    (scaled_order c.lo a.lo (2 ^ by) u.low) (scaled_order a.hi c.hi (2 ^ by) u.high)
    (rw (scaled_distance a.lo c.lo (2 ^ by) u.low) (scaled_divides c.step (a.lo - c.lo) (2 ^ by) u.start))
    (scaled_divides c.step a.step (2 ^ by) u.step)

pub single_left : (x by : ℕ) → shifted_left (single x) by ≡ single (x * 2 ^ by % 2 ^ 32)
unfolding shifted_left
single_left x by = rw (zero_product (2 ^ by)) (single_wrapped (x * 2 ^ by))
  where
    zero_product : (m : ℕ) → 0 * m ≡ 0
    zero_product m = omega arith

-- ---- quotients of distances

quotient_order : (a b m : ℕ) → 0 < m → a ≤ b → a / m ≤ b / m
quotient_order a b m p le = le-div (a / m) b m p (omega (arith, div-mul-le_self a m))

quotient_distance : (a b m : ℕ) → 0 < m → b ≤ a → m ∣ (a - b) → a / m - b / m ≡ (a - b) / m
quotient_distance a b m p le d =
    let k = (a - b) / m in
    let e : m * k ≡ a - b = mul-div_cancel' m d in
    let f : a ≡ b + m * k = omega (arith, e) in
    let g : a / m ≡ b / m + k = ap (λ (n : ℕ). n / m) f ∙ add-mul-div_left b k p in
    omega (arith, g)

quotient_divides : (a b m : ℕ) → 0 < m → m ∣ a → a ∣ b → a / m ∣ b / m
quotient_divides a b m p d e =
    let f : m * (a / m) ≡ a = mul-div_cancel' m d in
    let g : m * (b / m) ≡ b = mul-div_cancel' m (dvd_trans m d e) in
    dvd_of_mul-dvd-mul_left (a / m) p (subst (λ (n : ℕ). n ∣ m * (b / m)) (sym f) (subst (λ (n : ℕ). a ∣ n) (sym g) e))

-- ---- shifts to the right

abbrev down : Span → ℕ → Span
down a m = record { lo = a.lo / m; hi = a.hi / m; step = a.step / m }

strided_quotient : (a : Span) (m : ℕ) → 0 < m → m ∣ a.step → IsStrided a → IsStrided (down a m)
strided_quotient a m p d s =
    let e = quotient_distance a.hi a.lo m p s.order (dvd_trans m d (step_whole a s)) in
    record {
      order = quotient_order a.lo a.hi m p s.order;
      top = omega (arith, div-le_self a.hi m, s.top);
      whole = rw e (mod-eq-zero_of_dvd _ (quotient_divides a.step (a.hi - a.lo) m p d (step_whole a s)));
      one = λ f.
          let g : (a.hi - a.lo) / m ≡ 0 = sym e ∙ omega (arith, f) in
          let h : m * ((a.hi - a.lo) / m) ≡ a.hi - a.lo = mul-div_cancel' m (dvd_trans m d (step_whole a s)) in
          let z : a.hi - a.lo ≡ 0 = sym h ∙ ap (λ (n : ℕ). m * n) g ∙ omega arith in
          rw (s.one (omega (arith, z, s.order))) (zero_quotient m);
    }
  where
    zero_quotient : (m : ℕ) → 0 / m ≡ 0
    zero_quotient m = omega (arith, div-le_self 0 m)

pub strided_down : (a : Span) (by : ℕ) → IsStrided a → a.step % 2 ^ by ≡ 0 → IsStrided (down a (2 ^ by))
strided_down a by s e = strided_quotient a (2 ^ by) (pow_pos by) (dvd_of_mod-eq-zero (2 ^ by) e) s

pub strided_right : (a : Span) (by : ℕ) → IsStrided a → IsStrided (shifted_right a by)
unfolding shifted_right
strided_right a by s =
    cond_both (divides (2 ^ by) a.step) (down a (2 ^ by)) (between (a.lo / 2 ^ by) (a.hi / 2 ^ by)) IsStrided
    (λ e. strided_quotient a (2 ^ by) (pow_pos by) (from_divides _ _ e) s)
    (λ _. strided_between (a.lo / 2 ^ by) (a.hi / 2 ^ by) (quotient_order a.lo a.hi (2 ^ by) (pow_pos by) s.order) (omega (arith, div-le_self a.hi (2 ^ by), s.top)))

pub holds_right : (a : Span) (by x : ℕ) → Holds a x → Holds (shifted_right a by) (x / 2 ^ by)
unfolding shifted_right
holds_right a by x h =
    cond_both (divides (2 ^ by) a.step) (down a (2 ^ by)) (between (a.lo / 2 ^ by) (a.hi / 2 ^ by)) (λ (s : Span). Holds s (x / 2 ^ by))
    (λ e.
    let m = 2 ^ by in
    let d = from_divides m a.step e in
    let q = quotient_distance x a.lo m (pow_pos by) h.low (dvd_trans m d (on_step a x h)) in
    record {
      low = quotient_order a.lo x m (pow_pos by) h.low;
      high = quotient_order x a.hi m (pow_pos by) h.high;
      on = rw q (mod-eq-zero_of_dvd _ (quotient_divides a.step (x - a.lo) m (pow_pos by) d (on_step a x h)));
    })
    (λ _. holds_between (a.lo / 2 ^ by) (a.hi / 2 ^ by) (x / 2 ^ by) (quotient_order a.lo x (2 ^ by) (pow_pos by) h.low) (quotient_order x a.hi (2 ^ by) (pow_pos by) h.high))

right_lo : (a : Span) (by : ℕ) → (shifted_right a by).lo ≡ a.lo / 2 ^ by
unfolding shifted_right
right_lo a by =
    cond_both (divides (2 ^ by) a.step) (down a (2 ^ by)) (between (a.lo / 2 ^ by) (a.hi / 2 ^ by)) (λ (s : Span). s.lo ≡ a.lo / 2 ^ by) (λ _. refl) (λ _. refl)

right_hi : (a : Span) (by : ℕ) → (shifted_right a by).hi ≡ a.hi / 2 ^ by
unfolding shifted_right
right_hi a by =
    cond_both (divides (2 ^ by) a.step) (down a (2 ^ by)) (between (a.lo / 2 ^ by) (a.hi / 2 ^ by)) (λ (s : Span). s.hi ≡ a.hi / 2 ^ by) (λ _. refl) (λ _. refl)

exactly_right : (a : Span) (by : ℕ) → 2 ^ by ∣ a.step → shifted_right a by ≡ down a (2 ^ by)
unfolding shifted_right
exactly_right a by d = cond-true (divides (2 ^ by) a.step) (down a (2 ^ by)) (between (a.lo / 2 ^ by) (a.hi / 2 ^ by)) (divides_from _ _ d)

pub right_rises : (a c : Span) (by : ℕ) → IsStrided a → Under a c → Under (shifted_right a by) (shifted_right c by)
unfolding shifted_right
right_rises a c by s u =
    cond_both (divides (2 ^ by) c.step) (down c (2 ^ by)) (between (c.lo / 2 ^ by) (c.hi / 2 ^ by)) (λ (t : Span). Under (shifted_right a by) t)
    (λ e.
    let m = 2 ^ by in
    let d = from_divides m c.step e in
    let q = quotient_distance a.lo c.lo m (pow_pos by) u.low (dvd_trans m d u.start) in
    subst (λ (t : Span). Under t (down c m)) (sym (exactly_right a by (dvd_trans m d u.step))) (record {
      low = quotient_order c.lo a.lo m (pow_pos by) u.low;
      high = quotient_order a.hi c.hi m (pow_pos by) u.high;
      start = rw q (quotient_divides c.step (a.lo - c.lo) m (pow_pos by) d u.start);
      step = quotient_divides c.step a.step m (pow_pos by) d u.step;
    }))
    (λ _.
    between_above (shifted_right a by) (c.lo / 2 ^ by) (c.hi / 2 ^ by) (strided_right a by s)
    (omega (arith, right_lo a by, quotient_order c.lo a.lo (2 ^ by) (pow_pos by) u.low))
    (omega (arith, right_hi a by, quotient_order a.hi c.hi (2 ^ by) (pow_pos by) u.high)))

pub single_right : (x by : ℕ) → shifted_right (single x) by ≡ single (x / 2 ^ by)
single_right x by = exactly_right (single x) by (dvd-zero (2 ^ by)) ∙ step_zero (2 ^ by) (x / 2 ^ by)
  where
    step_zero : (m n : ℕ) → record { lo = n; hi = n; step = 0 / m } ≡ single n
    step_zero m n =
        let e : 0 / m ≡ 0 = omega (arith, div-le_self 0 m) in
        rw e refl

-- ---- shifts that repeat the sign

pub strided_signed : (a : Span) (by : ℕ) → IsStrided a → IsStrided (shifted_signed a by)
unfolding shifted_signed
strided_signed a by s =
    strided_added (shifted_right (turned a) by) (single (2 ^ 32 - 2 ^ (31 - by)))
    (strided_right (turned a) by (strided_turned a s)) (strided_single _ (omega (arith, pow_pos (31 - by))))

pub holds_signed : (a : Span) (by x : ℕ) → Holds a x
    → Holds (shifted_signed a by) (((x + 2 ^ 31) % 2 ^ 32 / 2 ^ by + (2 ^ 32 - 2 ^ (31 - by))) % 2 ^ 32)
unfolding shifted_signed
holds_signed a by x h =
    holds_added (shifted_right (turned a) by) (single (2 ^ 32 - 2 ^ (31 - by))) _ _
    (holds_right (turned a) by _ (holds_turned a x h)) (holds_single _)

pub signed_rises : (a c : Span) (by : ℕ) → IsStrided a → Under a c → Under (shifted_signed a by) (shifted_signed c by)
unfolding shifted_signed
signed_rises a c by s u =
    added_rises (shifted_right (turned a) by) (single (2 ^ 32 - 2 ^ (31 - by))) (shifted_right (turned c) by) (single (2 ^ 32 - 2 ^ (31 - by)))
    (strided_right (turned a) by (strided_turned a s)) (strided_single _ (omega (arith, pow_pos (31 - by))))
    (right_rises (turned a) (turned c) by (strided_turned a s) (turned_rises a c s u)) (under_same _)

pub single_signed : (x by : ℕ)
    → shifted_signed (single x) by ≡ single (((x + 2 ^ 31) % 2 ^ 32 / 2 ^ by + (2 ^ 32 - 2 ^ (31 - by))) % 2 ^ 32)
unfolding shifted_signed
single_signed x by =
    ap (λ (s : Span). added (shifted_right s by) (single (2 ^ 32 - 2 ^ (31 - by)))) (single_turned x)
    ∙ ap (λ (s : Span). added s (single (2 ^ 32 - 2 ^ (31 - by)))) (single_right ((x + 2 ^ 31) % 2 ^ 32) by)
    ∙ single_added ((x + 2 ^ 31) % 2 ^ 32 / 2 ^ by) (2 ^ 32 - 2 ^ (31 - by))

-- The highest bit after a shift to the right.
pub top_shifted : (by : ℕ) → by < 32 → 2 ^ 31 / 2 ^ by ≡ 2 ^ (31 - by)
top_shifted by lt =
    let e : 31 ≡ (31 - by) + by = omega arith in
    subst (λ (n : ℕ). 2 ^ n / 2 ^ by ≡ 2 ^ (31 - by)) (sym e)
    (ap (λ (n : ℕ). n / 2 ^ by) (pow-add 2 (31 - by) by) ∙ shl-shr (2 ^ (31 - by)) by)
