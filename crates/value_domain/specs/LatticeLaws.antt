-- Spans are a lattice with ranks and a widening.
use Rattle.std.proofs.Common.{◌≡◌, ℕ, zero, suc, ◌<◌, ◌≤◌, ◌+◌, ◌-◌, ◌*◌, ◌/◌, ◌%◌, ◌^◌, true, false, cond, ltb, min, max, refl, sym, ap, subst, ◌∙◌, arith, inl, inr}
use Rattle.std.specs.Int.{◌∣◌}
use Rattle.std.proofs.lemmas.Bool.{cases_lt, cond_both, le-ltb, true≢false}
use Rattle.std.proofs.lemmas.Nat.Gcd.{dvd_refl, dvd-zero, dvd_trans, dvd_antisymm, le_of_dvd, mod-eq-zero_of_dvd}
use Rattle.std.proofs.Math.Nat.{dvd-add, dvd-sub, dvd-mul_right, div-add-mod}
use Rattle.domain_laws.specs.Laws.{IsLatticeOn, IsRankedOn, IsWideningOn, IsCeiling}
use Rattle.value_domain.specs.Spans.{Span, IsStrided, everything, single}
use Rattle.value_domain.specs.Divisors.{gcd}
use Rattle.value_domain.specs.Order.{leq, joined, widened, spread, least_on, greatest_on, rank}
use Rattle.value_domain.specs.DivisorLemmas.{gcd-is, no_step}
use Rattle.value_domain.specs.OrderLemmas.{Under, under, from_under, under_same, under_everything, step_whole, step_fits}

-- ---- the order

under_chain : (a b c : Span) → Under a b → Under b c → Under a c
under_chain a b c u v =
    let e : a.lo - c.lo ≡ (a.lo - b.lo) + (b.lo - c.lo) = omega (arith, u.low, v.low) in
    record {
      low = omega (arith, u.low, v.low);
      high = omega (arith, u.high, v.high);
      start = rw e (dvd-add c.step (dvd_trans c.step v.step u.start) v.start);
      step = dvd_trans c.step v.step u.step;
    }

same_span : (a b : Span) → a.lo ≡ b.lo → a.hi ≡ b.hi → a.step ≡ b.step → a ≡ b
same_span a b p q r = rw (p, q, r) refl

under_both : (a b : Span) → Under a b → Under b a → a ≡ b
under_both a b u v = same_span a b (omega (arith, u.low, v.low)) (omega (arith, u.high, v.high)) (dvd_antisymm v.step u.step)

-- ---- joins

-- The step of a join divides both steps, and the distance of the least numbers.
record Steps (a b : Span) : Type 0 where
  left : (joined a b).step ∣ a.step
  right : (joined a b).step ∣ b.step
  apart : (joined a b).step ∣ (max a.lo b.lo - min a.lo b.lo)

steps : (a b : Span) → Steps a b
unfolding joined
steps a b =
    let g = gcd-is a.step b.step in
    let h = gcd-is (gcd a.step b.step) (max a.lo b.lo - min a.lo b.lo) in
    record { left = dvd_trans _ h.0 g.0; right = dvd_trans _ h.0 g.1; apart = h.1 }

join_lo : (a b : Span) → (joined a b).lo ≡ min a.lo b.lo
unfolding joined
join_lo a b = refl

join_hi : (a b : Span) → (joined a b).hi ≡ max a.hi b.hi
unfolding joined
join_hi a b = refl

-- Each least number is on the step.
start_left : (a b : Span) → (joined a b).step ∣ (a.lo - min a.lo b.lo)
start_left a b = elim (cases_lt b.lo a.lo) [
  | inl lt ↦
      let e : a.lo - min a.lo b.lo ≡ max a.lo b.lo - min a.lo b.lo = omega arith in
      rw e (steps a b).apart
  | inr ge ↦
      let e : a.lo - min a.lo b.lo ≡ 0 = omega arith in
      rw e (dvd-zero _)
]

start_right : (a b : Span) → (joined a b).step ∣ (b.lo - min a.lo b.lo)
start_right a b = elim (cases_lt a.lo b.lo) [
  | inl lt ↦
      let e : b.lo - min a.lo b.lo ≡ max a.lo b.lo - min a.lo b.lo = omega arith in
      rw e (steps a b).apart
  | inr ge ↦
      let e : b.lo - min a.lo b.lo ≡ 0 = omega arith in
      rw e (dvd-zero _)
]

under_left : (a b : Span) → Under a (joined a b)
under_left a b = record {
  low = omega (arith, join_lo a b);
  high = omega (arith, join_hi a b);
  start = subst (λ (n : ℕ). (joined a b).step ∣ (a.lo - n)) (sym (join_lo a b)) (start_left a b);
  step = (steps a b).left;
}

under_right : (a b : Span) → Under b (joined a b)
under_right a b = record {
  low = omega (arith, join_lo a b);
  high = omega (arith, join_hi a b);
  start = subst (λ (n : ℕ). (joined a b).step ∣ (b.lo - n)) (sym (join_lo a b)) (start_right a b);
  step = (steps a b).right;
}

-- The greatest number is on the step.
end_on : (a s : Span) → IsStrided a → Under a s → s.step ∣ (a.hi - s.lo)
end_on a s p u =
    let e : a.hi - s.lo ≡ (a.hi - a.lo) + (a.lo - s.lo) = omega (arith, p.order, u.low) in
    rw e (dvd-add s.step (dvd_trans s.step u.step (step_whole a p)) u.start)

join_whole : (a b : Span) → IsStrided a → IsStrided b → (joined a b).step ∣ ((joined a b).hi - (joined a b).lo)
join_whole a b p q = elim (cases_lt b.hi a.hi) [
  | inl lt ↦
      let e : (joined a b).hi ≡ a.hi = omega (arith, join_hi a b) in
      rw e (end_on a (joined a b) p (under_left a b))
  | inr ge ↦
      let e : (joined a b).hi ≡ b.hi = omega (arith, join_hi a b) in
      rw e (end_on b (joined a b) q (under_right a b))
]

join_one : (a b : Span) → IsStrided a → IsStrided b → min a.lo b.lo ≡ max a.hi b.hi → (joined a b).step ≡ 0
unfolding joined
join_one a b p q e =
    let f : a.step ≡ 0 = p.one (omega (arith, e, p.order, q.order)) in
    let g : b.step ≡ 0 = q.one (omega (arith, e, p.order, q.order)) in
    let h : max a.lo b.lo - min a.lo b.lo ≡ 0 = omega (arith, e, p.order, q.order) in
    rw (f, g, h) (ap (λ (n : ℕ). gcd n 0) no_step ∙ no_step)

pub strided_joined : (a b : Span) → IsStrided a → IsStrided b → IsStrided (joined a b)
strided_joined a b p q = record {
  order = omega (arith, join_lo a b, join_hi a b, p.order);
  top = omega (arith, join_hi a b, p.top, q.top);
  whole = mod-eq-zero_of_dvd _ (join_whole a b p q);
  one = λ e. join_one a b p q (sym (join_lo a b) ∙ e ∙ join_hi a b);
}

step_least : (a b c : Span) → Under a c → Under b c → c.step ∣ (joined a b).step
unfolding joined
step_least a b c u v =
    let g = (gcd-is a.step b.step).2 c.step u.step v.step in
    (gcd-is (gcd a.step b.step) (max a.lo b.lo - min a.lo b.lo)).2 c.step g (apart a.lo b.lo c.lo u.low v.low u.start v.start)
  where
    apart : (x y z : ℕ) → z ≤ x → z ≤ y → c.step ∣ (x - z) → c.step ∣ (y - z) → c.step ∣ (max x y - min x y)
    apart x y z p q d e = elim (cases_lt x y) [
      | inl lt ↦
          let f : max x y - min x y ≡ (y - z) - (x - z) = omega arith in
          rw f (dvd-sub c.step e d)
      | inr ge ↦
          let f : max x y - min x y ≡ (x - z) - (y - z) = omega arith in
          rw f (dvd-sub c.step d e)
    ]

start_least : (a b c : Span) → Under a c → Under b c → c.step ∣ (min a.lo b.lo - c.lo)
start_least a b c u v = elim (cases_lt a.lo b.lo) [
  | inl lt ↦
      let e : min a.lo b.lo ≡ a.lo = omega arith in
      rw e u.start
  | inr ge ↦
      let e : min a.lo b.lo ≡ b.lo = omega arith in
      rw e v.start
]

under_least : (a b c : Span) → Under a c → Under b c → Under (joined a b) c
under_least a b c u v = record {
  low = omega (arith, join_lo a b, u.low, v.low);
  high = omega (arith, join_hi a b, u.high, v.high);
  start = subst (λ (n : ℕ). c.step ∣ (n - c.lo)) (sym (join_lo a b)) (start_least a b c u v);
  step = step_least a b c u v;
}

pub strided_laws : IsLatticeOn IsStrided leq joined
strided_laws = record {
  same = λ x p. from_under x x (under_same x);
  chain = λ x y z p q r h k. from_under x z (under_chain x y z (under x y h) (under y z k));
  both = λ x y p q h k. under_both x y (under x y h) (under y x k);
  kept = strided_joined;
  left = λ x y p q. from_under x (joined x y) (under_left x y);
  right = λ x y p q. from_under y (joined x y) (under_right x y);
  least = λ x y z p q r h k. from_under (joined x y) z (under_least x y z (under x z h) (under y z k));
}

-- ---- ranks

fits : (s : Span) → IsStrided s → s.step ≤ s.hi - s.lo
fits s p = step_fits s.lo s.hi s.step p.order p.whole p.one

wider_falls : (x y : Span) → IsStrided x → IsStrided y → x.hi - x.lo < y.hi - y.lo → rank y < rank x
wider_falls x y p q lt = omega (arith, p.top, q.top, fits y q)

-- Between the same ends the step is smaller, or the spans are one.
finer : (x y : Span) → IsStrided x → IsStrided y → Under x y → x.hi - x.lo ≡ y.hi - y.lo → (leq y x ≡ false) → y.step < x.step
finer x y p q u e f =
    let l : x.lo ≡ y.lo = omega (arith, e, u.low, u.high, p.order, q.order) in
    let h : x.hi ≡ y.hi = omega (arith, e, u.low, u.high, p.order, q.order) in
    elim (cases_lt 0 x.step) [
      | inl pos ↦
          let le : y.step ≤ x.step = le_of_dvd pos u.step in
          elim (cases_lt y.step x.step) [
            | inl lt ↦ lt
            | inr ge ↦
                let s : x.step ≡ y.step = omega arith in
                let same : x ≡ y = same_span x y l h s in
                absurd (true≢false (sym (subst (λ (z : Span). leq y z ≡ true) (sym same) (from_under y y (under_same y))) ∙ f))
          ]
      | inr zero1 ↦
          let z : x.step ≡ 0 = omega arith in
          let w : x.lo ≡ x.hi = ends x p z in
          let y0 : y.step ≡ 0 = q.one (omega (arith, w, l, h)) in
          let same : x ≡ y = same_span x y l h (z ∙ sym y0) in
          absurd (true≢false (sym (subst (λ (z : Span). leq y z ≡ true) (sym same) (from_under y y (under_same y))) ∙ f))
    ]
  where
    ends : (s : Span) → IsStrided s → s.step ≡ 0 → s.lo ≡ s.hi
    ends s p z =
        let e : (s.hi - s.lo) % 0 ≡ 0 = subst (λ (n : ℕ). (s.hi - s.lo) % n ≡ 0) z p.whole in
        omega (arith, e, p.order)

rank_falls : (x y : Span) → IsStrided x → IsStrided y → leq x y ≡ true → leq y x ≡ false → rank y < rank x
rank_falls x y p q h f =
    let u = under x y h in
    elim (cases_lt (x.hi - x.lo) (y.hi - y.lo)) [
      | inl lt ↦ wider_falls x y p q lt
      | inr ge ↦
          let e : x.hi - x.lo ≡ y.hi - y.lo = omega (arith, u.low, u.high, p.order, q.order) in
          omega (arith, e, finer x y p q u e f)
    ]

pub strided_ranks : IsRankedOn IsStrided leq rank (2 ^ 65)
strided_ranks = record {
  within = λ x p. omega (arith, p.top, fits x p);
  falls = rank_falls;
}

-- ---- widening

-- Ends that are spread on the step.
record IsSpread (s both : Span) : Type 0 where
  strided : IsStrided s
  above : Under both s

least_below : (step lo : ℕ) → least_on step lo ≤ lo
least_below zero lo = omega arith
least_below (suc step) lo = omega arith

least_steps : (step lo : ℕ) → step ∣ (lo - least_on step lo)
least_steps step lo =
    let e : lo - lo % step ≡ step * (lo / step) = omega (arith, div-add-mod lo step) in
    rw e (dvd-mul_right step (lo / step))

greatest_above : (step hi : ℕ) → hi < 2 ^ 32 → hi ≤ greatest_on step hi
greatest_above step hi lt = omega (arith, least_below step (2 ^ 32 - 1 - hi))

greatest_steps : (step hi : ℕ) → hi < 2 ^ 32 → step ∣ (greatest_on step hi - hi)
greatest_steps step hi lt =
    let e : greatest_on step hi - hi ≡ (2 ^ 32 - 1 - hi) - (2 ^ 32 - 1 - hi) % step = omega (arith, least_below step (2 ^ 32 - 1 - hi)) in
    rw e (least_steps step (2 ^ 32 - 1 - hi))

-- Ends that lie on the step, outside those of a span of at least two numbers.
spread_on : (s : Span) (lo hi : ℕ) → IsStrided s → lo ≤ s.lo → s.hi ≤ hi → hi < 2 ^ 32 → s.step ∣ (s.lo - lo) → s.step ∣ (hi - s.hi)
    → IsSpread (record { lo = lo; hi = hi; step = s.step }) s
spread_on s lo hi p le ge lt d e =
    let f : hi - lo ≡ (hi - s.hi) + ((s.hi - s.lo) + (s.lo - lo)) = omega (arith, p.order) in
    record {
      strided = record {
        order = omega (arith, p.order);
        top = lt;
        whole = rw f (mod-eq-zero_of_dvd _ (dvd-add s.step e (dvd-add s.step (step_whole s p) d)));
        one = λ g. p.one (omega (arith, g, p.order));
      };
      above = record { low = le; high = ge; start = d; step = dvd_refl s.step };
    }

spread_is : (old both : Span) → IsStrided both → IsSpread (spread old both) both
spread_is old both p =
    let d : both.lo - both.lo ≡ 0 = omega arith in
    let e : both.hi - both.hi ≡ 0 = omega arith in
    cond_both (ltb both.lo old.lo) (least_on both.step both.lo) both.lo
    (λ (lo : ℕ). IsSpread (record { lo = lo; hi = cond (ltb old.hi both.hi) (greatest_on both.step both.hi) both.hi; step = both.step }) both)
    (λ _. cond_both (ltb old.hi both.hi) (greatest_on both.step both.hi) both.hi
    (λ (hi : ℕ). IsSpread (record { lo = least_on both.step both.lo; hi = hi; step = both.step }) both)
    (λ _. spread_on both (least_on both.step both.lo) (greatest_on both.step both.hi) p (least_below both.step both.lo) (greatest_above both.step both.hi p.top) (omega arith) (least_steps both.step both.lo) (greatest_steps both.step both.hi p.top))
    (λ _. spread_on both (least_on both.step both.lo) both.hi p (least_below both.step both.lo) (omega arith) p.top (least_steps both.step both.lo) (rw e (dvd-zero _))))
    (λ _. cond_both (ltb old.hi both.hi) (greatest_on both.step both.hi) both.hi
    (λ (hi : ℕ). IsSpread (record { lo = both.lo; hi = hi; step = both.step }) both)
    (λ _. spread_on both both.lo (greatest_on both.step both.hi) p (omega arith) (greatest_above both.step both.hi p.top) (omega arith) (rw d (dvd-zero _)) (greatest_steps both.step both.hi p.top))
    (λ _. spread_on both both.lo both.hi p (omega arith) (omega arith) p.top (rw d (dvd-zero _)) (rw e (dvd-zero _))))

pub strided_spread : (a b : Span) → IsStrided a → IsStrided b → IsStrided (spread a (joined a b))
strided_spread a b p q = (spread_is a (joined a b) (strided_joined a b p q)).strided

pub strided_widened : (a b : Span) → IsStrided a → IsStrided b → IsStrided (widened a b)
unfolding widened
strided_widened a b p q = strided_spread a b p q

widened_above : (a b : Span) → IsStrided a → IsStrided b → Under (joined a b) (widened a b)
unfolding widened
widened_above a b p q = (spread_is a (joined a b) (strided_joined a b p q)).above

pub strided_widening : IsWideningOn IsStrided leq widened
strided_widening = record {
  kept = strided_widened;
  left = λ x y p q. from_under x (widened x y) (under_chain x (joined x y) (widened x y) (under_left x y) (widened_above x y p q));
  right = λ x y p q. from_under y (widened x y) (under_chain y (joined x y) (widened x y) (under_right x y) (widened_above x y p q));
}

-- ---- ceilings

pub everything_ceiling : IsCeiling IsStrided leq widened everything
everything_ceiling = record {
  above = λ x y p q h k. let s = strided_widened x y p q in from_under (widened x y) everything (under_everything (widened x y) s.top);
}

under_single : (n : ℕ) (x : Span) → IsStrided x → leq x (single n) ≡ true → x ≡ single n
under_single n x p h =
    let u = under x (single n) h in
    let l : x.lo ≡ n = omega (arith, u.low, u.high, p.order) in
    let e : x.hi ≡ n = omega (arith, u.low, u.high, p.order) in
    same_span x (single n) l e (p.one (l ∙ sym e))

single_joined : (n : ℕ) → joined (single n) (single n) ≡ single n
unfolding joined
single_joined n =
    let h : max n n - min n n ≡ 0 = omega arith in
    same_span (joined (single n) (single n)) (single n) (omega arith) (omega arith) (rw h (ap (λ (m : ℕ). gcd m 0) no_step ∙ no_step))

single_spread : (n : ℕ) → spread (single n) (single n) ≡ single n
single_spread n = rw (lt_self n) refl
  where
    lt_self : (n : ℕ) → ltb n n ≡ false
    lt_self n = le-ltb n n (omega arith)

single_widened : (n : ℕ) → widened (single n) (single n) ≡ single n
unfolding widened
single_widened n = ap (spread (single n)) (single_joined n) ∙ single_spread n

pub single_ceiling : (n : ℕ) → IsCeiling IsStrided leq widened (single n)
single_ceiling n = record {
  above = λ x y p q h k.
      let e = under_single n x p h in
      let f = under_single n y q k in
      let same : widened x y ≡ single n = ap (λ (s : Span). widened s y) e ∙ ap (widened (single n)) f ∙ single_widened n in
      subst (λ (s : Span). leq s (single n) ≡ true) (sym same) (from_under (single n) (single n) (under_same (single n)));
}
