-- Levels are solved the deepest first, and what is solved stays so.
use Rattle.std.proofs.Common.{◌≡◌, ◌⊎◌, ℕ, suc, ◌+◌, ◌-◌, ◌*◌, ◌<◌, ◌==◌, cond, Bool, true, false, refl, sym, ap, ◌∙◌, subst, inl, inr, arith, true≢false}
use Rattle.std.proofs.lemmas.Bool.{cases_eq, cases_Bool, cond-false, cond-true}
use Rattle.std.proofs.lemmas.Bool.Decides.{nat_tests}
use Rattle.nest_solver.specs.Shape.{Shape, IsNest, IsUpTo, target, is_entering}
use Rattle.nest_solver.specs.Ways.{IsRound, IsSwept, closes, goes_on, reach}
use Rattle.nest_solver.specs.Solved.{paid, weight_of, IsSolved, AreSolved, AreTurns}
use Rattle.nest_solver.proofs.Arcs.{closes-out, goes_on-out, deeper, not_entering-0, back_not_entering, entering-of, back-of}

reach_by : (c g : Bool) (b : ℕ) → 0 < cond c 1 (cond g b 0) →
    (c ≡ true) ⊎ ((g ≡ true) × (cond c 1 (cond g b 0) ≡ b))
reach_by true g b h = inl refl
reach_by false true b h = inr (refl, refl)
reach_by false false b h = absurd (omega (arith, h))

-- An arc behind which something is known ends a way, or a way goes on by it.
pub reach-cases : (s : Shape) (depth : ℕ) (round best : ℕ → ℕ) (i : ℕ) → 0 < reach s depth round best i →
    (closes s depth i ≡ true)
    ⊎ ((goes_on s depth round i ≡ true) × (reach s depth round best i ≡ best (s.to i)))
reach-cases s depth round best i h =
    reach_by (closes s depth i) (goes_on s depth round i) (best (s.to i)) h

pub reach-closes : (s : Shape) (depth : ℕ) (round best : ℕ → ℕ) (i : ℕ) → closes s depth i ≡ true →
    reach s depth round best i ≡ 1
reach-closes s depth round best i e =
    cond-true (closes s depth i) 1 (cond (goes_on s depth round i) (best (s.to i)) 0) e

goes_not_closes : (s : Shape) (depth : ℕ) (round : ℕ → ℕ) (i : ℕ) → goes_on s depth round i ≡ true →
    closes s depth i ≡ false
goes_not_closes s depth round i e =
    let on = goes_on-out s depth round i e in
    elim (cases_Bool (closes s depth i)) as (λ _. closes s depth i ≡ false) [
      | inl c ↦ elim (closes-out s depth i c) as (λ _. closes s depth i ≡ false) [
        | inl z ↦ absurd (omega (arith, z, on.to))
        | inr back ↦ absurd (true≢false (sym back.1 ∙ on.forward))
      ]
      | inr no_end ↦ no_end
    ]

pub reach-goes : (s : Shape) (depth : ℕ) (round best : ℕ → ℕ) (i : ℕ) → goes_on s depth round i ≡ true →
    reach s depth round best i ≡ best (s.to i)
reach-goes s depth round best i e =
    cond-false (closes s depth i) 1 (cond (goes_on s depth round i) (best (s.to i)) 0)
    (goes_not_closes s depth round i e)
    ∙ cond-true (goes_on s depth round i) (best (s.to i)) 0 e

-- A sweep stays one where no arc changes its weight that ends a way or by which a way goes on.
pub swept-agree : (s : Shape) (depth : ℕ) (round weight other best choice : ℕ → ℕ) →
    ((i : ℕ) → IsUpTo s.arcs i → closes s depth i ≡ true → weight i ≡ other i) →
    ((i : ℕ) → IsUpTo s.arcs i → goes_on s depth round i ≡ true → weight i ≡ other i) →
    IsSwept s depth round weight best choice → IsSwept s depth round other best choice
swept-agree s depth round weight other best choice ends goes swept =
    record {
      closed = λ i u h. omega (arith, same i u h, swept.closed i u h);
      up = swept.up;
      leaves = swept.leaves;
      leads = swept.leads;
      tight = λ p h. omega (arith, same (choice p) (swept.up p h) (swept.leads p h), swept.tight p h);
    }
  where
    same : (i : ℕ) → IsUpTo s.arcs i → 0 < reach s depth round best i → weight i ≡ other i
    same i u h = elim (reach-cases s depth round best i h) as (λ _. weight i ≡ other i) [
      | inl c ↦ ends i u c
      | inr g ↦ goes i u g.0
    ]

pub paid-none : (s : Shape) (turns : ℕ → ℕ) (i : ℕ) → is_entering s i ≡ false → paid s turns i ≡ 0
paid-none s turns i e =
    cond-false (is_entering s i) ((s.bound (target s i) - 1) * turns (target s i)) 0 e

pub paid-some : (s : Shape) (turns : ℕ → ℕ) (i : ℕ) → is_entering s i ≡ true →
    paid s turns i ≡ (s.bound (target s i) - 1) * turns (target s i)
paid-some s turns i e =
    cond-true (is_entering s i) ((s.bound (target s i) - 1) * turns (target s i)) 0 e

-- The arc that ends a way enters no loop.
pub closes_not_entering : (s : Shape) → IsNest s → (depth i : ℕ) → closes s depth i ≡ true →
    is_entering s i ≡ false
closes_not_entering s nest depth i e =
    elim (closes-out s depth i e) as (λ _. is_entering s i ≡ false) [
      | inl z ↦ not_entering-0 s nest i z.0
      | inr back ↦ back_not_entering s i back.1
    ]

-- Where the turns of all deeper loops agree, so do the weights along the ways of a depth.
paid-agree : (s : Shape) → IsNest s → (depth : ℕ) (round one other : ℕ → ℕ) → IsRound s depth round →
    ((l : ℕ) → IsUpTo s.loops l → depth < s.depth l → one l ≡ other l) → (i : ℕ) →
    goes_on s depth round i ≡ true → paid s one i ≡ paid s other i
paid-agree s nest depth round one other rounds agree i on =
    elim (cases_Bool (is_entering s i)) as (λ _. paid s one i ≡ paid s other i) [
      | inl enters ↦ paid-some s one i enters
          ∙ ap (λ t. (s.bound (target s i) - 1) * t)
          (agree (target s i) (entering-of s nest i enters).up (deeper s nest depth round i rounds on enters))
          ∙ sym (paid-some s other i enters)
      | inr not ↦ paid-none s one i not ∙ sym (paid-none s other i not)
    ]

pub swept-turns : (s : Shape) → IsNest s → (value : ℕ → ℕ) (depth : ℕ) (round one other best choice : ℕ → ℕ) →
    IsRound s depth round → ((l : ℕ) → IsUpTo s.loops l → depth < s.depth l → one l ≡ other l) →
    IsSwept s depth round (weight_of s value one) best choice →
    IsSwept s depth round (weight_of s value other) best choice
swept-turns s nest value depth round one other best choice rounds agree swept =
    swept-agree s depth round (weight_of s value one) (weight_of s value other) best choice
    (λ i u c. let no = closes_not_entering s nest depth i c in
    ap (λ t. value i + t) (paid-none s one i no ∙ sym (paid-none s other i no)))
    (λ i u g. ap (λ t. value i + t) (paid-agree s nest depth round one other rounds agree i g))
    swept

turn_by : (deep depth r b : ℕ) → deep ≡ depth → cond (deep == depth) r b ≡ r
turn_by deep depth r b e = grind (arith, nat_tests)

turn_other : (deep depth r b : ℕ) → (deep ≡ depth → ⊥) → cond (deep == depth) r b ≡ b
turn_other deep depth r b e = grind (arith, nat_tests)

-- With the turns of one depth more, the loops of that depth are solved too.
pub solved-level : (s : Shape) (value : ℕ → ℕ) (depth : ℕ) (round best choice before after : ℕ → ℕ) → IsNest s →
    AreSolved s value before (suc depth) → IsRound s depth round →
    IsSwept s depth round (weight_of s value before) best choice →
    AreTurns s depth best before after → AreSolved s value after depth
solved-level s value depth round best choice before after nest solved rounds swept turns deep high =
    elim (cases_eq deep depth) as (λ _. IsSolved s value after deep) [
      | inl e ↦ subst (IsSolved s value after) (sym e) this
      | inr differ ↦ earlier deep (omega (arith, high, differ)) (solved deep (omega (arith, high, differ)))
    ]
  where
    same : (l : ℕ) → IsUpTo s.loops l → depth < s.depth l → before l ≡ after l
    same l u h = sym (turns l u
        ∙ turn_other (s.depth l) depth (best (s.header l) - 1) (before l) (λ e. omega (arith, e, h)))

    this : IsSolved s value after depth
    this = record {
      round = round;
      best = best;
      choice = choice;
      rounds = rounds;
      swept = swept-turns s nest value depth round before after best choice rounds same swept;
      turned = λ l u e. turns l u ∙ turn_by (s.depth l) depth (best (s.header l) - 1) (before l) e;
    }

    earlier : (e : ℕ) → depth < e → IsSolved s value before e → IsSolved s value after e
    earlier e less was = record {
      round = was.round;
      best = was.best;
      choice = was.choice;
      rounds = was.rounds;
      swept = swept-turns s nest value e was.round before after was.best was.choice was.rounds
          (λ l u h. same l u (omega (arith, h, less))) was.swept;
      turned = λ l u h. sym (same l u (omega (arith, h, less))) ∙ was.turned l u h;
    }

-- Below the deepest loops there is nothing to solve.
pub solved-none : (s : Shape) (value turns : ℕ → ℕ) (depth : ℕ) → IsNest s → 0 < depth →
    ((l : ℕ) → IsUpTo s.loops l → s.depth l < depth) → AreSolved s value turns depth
solved-none s value turns depth nest some small deep high =
    record {
      round = λ p. 0;
      best = λ p. 0;
      choice = λ p. 0;
      rounds = record {
        here = λ p h. absurd (omega (arith, h));
        all = λ l p u e h. absurd (omega (arith, e, small l u, high));
      };
      swept = record {
        closed = λ i u h. absurd (nothing i u (reach-cases s deep (λ p. 0) (λ p. 0) i h));
        up = λ p h. absurd (omega (arith, h));
        leaves = λ p h. absurd (omega (arith, h));
        leads = λ p h. absurd (omega (arith, h));
        tight = λ p h. absurd (omega (arith, h));
      };
      turned = λ l u e. absurd (omega (arith, e, small l u, high));
    }
  where
    nothing : (i : ℕ) → IsUpTo s.arcs i →
        ((closes s deep i ≡ true)
        ⊎ ((goes_on s deep (λ p. 0) i ≡ true) × (reach s deep (λ p. 0) (λ p. 0) i ≡ 0))) → ⊥
    nothing i u (inl c) = elim (closes-out s deep i c) as (λ _. ⊥) [
      | inl z ↦ omega (arith, z, high, some)
      | inr back ↦ omega (arith, back.2, high, small (target s i) (back-of s nest i back.1).up)
    ]
    nothing i u (inr g) = elim (goes_on-out s deep (λ p. 0) i g.0).inside as (λ _. ⊥) [
      | inl z ↦ omega (arith, z, high, some)
      | inr in_loop ↦ omega (arith, in_loop)
    ]
