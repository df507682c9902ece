-- Exact ends modulo 2 ^ 32: what they hold, and that they rise.
use Rattle.std.proofs.Common.{◌≡◌, ℕ, ◌<◌, ◌≤◌, ◌-◌, ◌/◌, ◌%◌, ◌^◌, true, eqb, refl, arith}
use Rattle.std.specs.Int.{◌∣◌}
use Rattle.std.proofs.lemmas.Bool.{eqb-true, eqb-false, eq-eqb, cond_both}
use Rattle.std.proofs.lemmas.Nat.Gcd.{dvd-zero, mod-eq-zero_of_dvd}
use Rattle.std.proofs.Math.Nat.{one-dvd}
use Rattle.value_domain.specs.Spans.{Span, IsStrided, IsWhole, Holds, everything, single, between}
use Rattle.value_domain.specs.Results.{wrapped}
use Rattle.value_domain.specs.OrderLemmas.{Under, under_everything}

-- ---- above every number between two ends

-- Every number between two ends is above what lies there.
pub between_above : (a : Span) (lo hi : ℕ) → IsStrided a → lo ≤ a.lo → a.hi ≤ hi → Under a (between lo hi)
between_above a lo hi p low high =
    cond_both (eqb lo hi) 0 1 (λ (step : ℕ). Under a (record { lo = lo; hi = hi; step = step }))
    (λ e.
    let same = eqb-true lo hi e in
    let l : a.lo - lo ≡ 0 = omega (arith, same, p.order) in
    let s : a.step ≡ 0 = p.one (omega (arith, same, p.order)) in
    record { low = low; high = high; start = rw l (dvd-zero 0); step = rw s (dvd-zero 0) })
    (λ _. record { low = low; high = high; start = one-dvd _; step = one-dvd _ })

-- ---- what spans hold

pub holds_everything : (n : ℕ) → n < 2 ^ 32 → Holds everything n
holds_everything n lt = record { low = omega arith; high = omega arith; on = mod-eq-zero_of_dvd 1 (one-dvd _) }

pub holds_single : (n : ℕ) → Holds (single n) n
holds_single n = record { low = omega arith; high = omega arith; on = omega arith }

pub same_single : (m n : ℕ) → Holds (single m) n → n ≡ m
same_single m n h = omega (arith, h.low, h.high)

pub holds_between : (lo hi n : ℕ) → lo ≤ n → n ≤ hi → Holds (between lo hi) n
holds_between lo hi n low high =
    cond_both (eqb lo hi) 0 1 (λ (step : ℕ). Holds (record { lo = lo; hi = hi; step = step }) n)
    (λ e.
    let same = eqb-true lo hi e in
    let l : n - lo ≡ 0 = omega (arith, same) in
    record { low = low; high = high; on = rw l refl })
    (λ _. record { low = low; high = high; on = mod-eq-zero_of_dvd 1 (one-dvd _) })

-- ---- spans in their one form

pub strided_single : (n : ℕ) → n < 2 ^ 32 → IsStrided (single n)
strided_single n lt = record { order = omega arith; top = lt; whole = omega arith; one = λ _. refl }

pub strided_everything : IsStrided everything
strided_everything = record { order = omega arith; top = omega arith; whole = refl; one = λ e. absurd (omega (arith, e)) }

pub strided_between : (lo hi : ℕ) → lo ≤ hi → hi < 2 ^ 32 → IsStrided (between lo hi)
strided_between lo hi le lt =
    cond_both (eqb lo hi) 0 1 (λ (step : ℕ). IsStrided (record { lo = lo; hi = hi; step = step }))
    (λ e.
    let same = eqb-true lo hi e in
    let l : hi - lo ≡ 0 = omega (arith, same) in
    record { order = le; top = lt; whole = rw l refl; one = λ _. refl })
    (λ e. record { order = le; top = lt; whole = mod-eq-zero_of_dvd 1 (one-dvd _); one = λ same. absurd (eqb-false lo hi e same) })

-- ---- exact ends modulo 2 ^ 32

pub strided_wrapped : (lo hi step : ℕ) → IsWhole lo hi step → IsStrided (wrapped lo hi step)
unfolding wrapped
strided_wrapped lo hi step p =
    cond_both (eqb (lo / 2 ^ 32) (hi / 2 ^ 32)) (record { lo = lo % 2 ^ 32; hi = hi % 2 ^ 32; step = step }) everything IsStrided
    (λ e.
    let same = eqb-true _ _ e in
    let d : hi % 2 ^ 32 - lo % 2 ^ 32 ≡ hi - lo = omega (arith, same, p.order) in
    record {
      order = omega (arith, same, p.order);
      top = omega arith;
      whole = rw d p.whole;
      one = λ f. p.one (omega (arith, same, f, p.order));
    })
    (λ _. strided_everything)

pub holds_wrapped : (lo hi step n : ℕ) → lo ≤ n → n ≤ hi → step ∣ (n - lo) → Holds (wrapped lo hi step) (n % 2 ^ 32)
unfolding wrapped
holds_wrapped lo hi step n low high on =
    cond_both (eqb (lo / 2 ^ 32) (hi / 2 ^ 32)) (record { lo = lo % 2 ^ 32; hi = hi % 2 ^ 32; step = step }) everything
    (λ (s : Span). Holds s (n % 2 ^ 32))
    (λ e.
    let same = eqb-true _ _ e in
    let d : n % 2 ^ 32 - lo % 2 ^ 32 ≡ n - lo = omega (arith, same) in
    record { low = omega (arith, same); high = omega (arith, same); on = rw d (mod-eq-zero_of_dvd step on) })
    (λ _. holds_everything _ (omega arith))

-- Exact ends within others are so modulo 2 ^ 32.
inner : (lo hi step low high stride : ℕ) → IsWhole lo hi step → low ≤ lo → hi ≤ high
    → stride ∣ (lo - low) → stride ∣ step → low / 2 ^ 32 ≡ high / 2 ^ 32
    → Under (wrapped lo hi step) (record { lo = low % 2 ^ 32; hi = high % 2 ^ 32; step = stride })
unfolding wrapped
inner lo hi step low high stride p le ge start divs same =
    let e : eqb (lo / 2 ^ 32) (hi / 2 ^ 32) ≡ true = eq-eqb _ _ (omega (arith, p.order)) in
    let d : lo % 2 ^ 32 - low % 2 ^ 32 ≡ lo - low = omega (arith, p.order) in
    rw e (record { low = omega (arith, p.order); high = omega (arith, p.order); start = rw d start; step = divs })

pub wrapped_rises : (lo hi step low high stride : ℕ) → IsWhole lo hi step → low ≤ lo → hi ≤ high
    → stride ∣ (lo - low) → stride ∣ step → Under (wrapped lo hi step) (wrapped low high stride)
unfolding wrapped
wrapped_rises lo hi step low high stride p le ge start divs =
    cond_both (eqb (low / 2 ^ 32) (high / 2 ^ 32)) (record { lo = low % 2 ^ 32; hi = high % 2 ^ 32; step = stride }) everything
    (λ (s : Span). Under (wrapped lo hi step) s)
    (λ e. inner lo hi step low high stride p le ge start divs (eqb-true _ _ e))
    (λ _. let s = strided_wrapped lo hi step p in under_everything _ s.top)

pub single_wrapped : (n : ℕ) → wrapped n n 0 ≡ single (n % 2 ^ 32)
unfolding wrapped
single_wrapped n =
    let e : eqb (n / 2 ^ 32) (n / 2 ^ 32) ≡ true = eq-eqb _ _ refl in
    rw e refl
