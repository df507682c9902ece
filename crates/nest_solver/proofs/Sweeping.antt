-- One arc more is looked at in a sweep.
use Rattle.std.proofs.Common.{◌≡◌, ℕ, ◌+◌, ◌<◌, ◌≤◌, cond, Bool, true, false, refl, sym, ap, ◌∙◌, subst, inl, inr, arith}
use Rattle.std.proofs.lemmas.Bool.{cases_eq}
use Rattle.nest_solver.specs.Shape.{Shape, IsUpTo, is_back}
use Rattle.nest_solver.specs.Sweeps.{IsSoFar}
use Rattle.nest_solver.specs.Ways.{HasRoom, IsSwept, closes, goes_on, reach}
use Rattle.nest_solver.proofs.Arcs.{goes_on-out}
use Rattle.nest_solver.proofs.Puts.{Puts}
use Rattle.nest_solver.proofs.Solving.{reach-cases, reach-closes}

-- Each arc that isn't a back arc stands behind those from where it goes to.
pub record AreBehind (s : Shape) (position : ℕ → ℕ) : Type 0 where
  pub behind : (i j : ℕ) → IsUpTo s.arcs i → IsUpTo s.arcs j → is_back s i ≡ false → 0 < s.to i →
      s.from j ≡ s.to i → position j < position i
  pub one : (i j : ℕ) → IsUpTo s.arcs i → IsUpTo s.arcs j → position i ≡ position j → i ≡ j
  pub some : (i : ℕ) → IsUpTo s.arcs i → 0 < position i

same_by : (c g : Bool) (x y : ℕ) → (g ≡ true → y ≡ x) → cond c 1 (cond g y 0) ≡ cond c 1 (cond g x 0)
same_by true g x y h = refl
same_by false true x y h = h refl
same_by false false x y h = refl

-- What is behind an arc is as before where the place that changes lies before it.
reach_same : (s : Shape) (depth : ℕ) (round best best2 position : ℕ → ℕ) (n value i : ℕ) → AreBehind s position →
    IsUpTo s.arcs n → IsUpTo s.arcs i → position i ≤ position n → Puts best best2 (s.from n) value →
    reach s depth round best2 i ≡ reach s depth round best i
reach_same s depth round best best2 position n value i order up u early puts =
    same_by (closes s depth i) (goes_on s depth round i) (best (s.to i)) (best2 (s.to i)) (λ on.
    let goes = goes_on-out s depth round i on in
    puts.others (s.to i) (λ same. omega (arith, early, order.behind i n u up goes.forward goes.to (sym same))))

-- Behind an arc there is room for its weight.
pub room-behind : (s : Shape) (depth : ℕ) (round weight best choice position : ℕ → ℕ) (limit k i : ℕ) →
    (far : IsSoFar s depth round weight best choice position limit k) → IsUpTo s.arcs i →
    0 < reach s depth round best i → weight i + reach s depth round best i ≤ far.room.most (s.from i) + 1
room-behind s depth round weight best choice position limit k i far u some =
    elim (reach-cases s depth round best i some)
    as (λ _. weight i + reach s depth round best i ≤ far.room.most (s.from i) + 1) [
      | inl ends ↦ omega (arith, reach-closes s depth round best i ends, far.room.ends i u ends)
      | inr goes ↦ omega (arith, goes.1, far.room.goes i u goes.0, far.low (s.to i))
    ]

pub so_far-none : (s : Shape) (depth : ℕ) (round weight best choice position : ℕ → ℕ) (limit : ℕ) →
    HasRoom s depth round weight limit → ((p : ℕ) → best p ≡ 0) → AreBehind s position →
    IsSoFar s depth round weight best choice position limit 0
so_far-none s depth round weight best choice position limit room fresh order = record {
  room = room;
  low = λ p. omega (arith, fresh p);
  closed = λ i u early some. absurd (omega (arith, early, order.some i u));
  up = λ p some. absurd (omega (arith, fresh p, some));
  known = λ p some. absurd (omega (arith, fresh p, some));
  leaves = λ p some. absurd (omega (arith, fresh p, some));
  leads = λ p some. absurd (omega (arith, fresh p, some));
  tight = λ p some. absurd (omega (arith, fresh p, some));
}

-- An arc that no longer way takes changes nothing.
pub so_far-pass : (s : Shape) (depth : ℕ) (round weight best choice position : ℕ → ℕ) (limit k n : ℕ) →
    AreBehind s position → IsUpTo s.arcs n → position n ≡ k + 1 →
    (0 < reach s depth round best n → weight n + reach s depth round best n ≤ best (s.from n)) →
    IsSoFar s depth round weight best choice position limit k →
    IsSoFar s depth round weight best choice position limit (k + 1)
so_far-pass s depth round weight best choice position limit k n order up at less far = record {
  room = far.room;
  low = far.low;
  closed = λ i u early some. elim (cases_eq (position i) (k + 1))
      as (λ _. weight i + reach s depth round best i ≤ best (s.from i)) [
        | inl e ↦ subst (λ (j : ℕ). 0 < reach s depth round best j → weight j + reach s depth round best j ≤ best (s.from j))
            (order.one n i up u (at ∙ sym e)) less some
        | inr differ ↦ far.closed i u (omega (arith, early, differ)) some
      ];
  up = far.up;
  known = λ p some. omega (arith, far.known p some);
  leaves = far.leaves;
  leads = far.leads;
  tight = far.tight;
}

-- An arc of a longer way is chosen.
pub so_far-better : (s : Shape) (depth : ℕ) (round weight best best2 choice choice2 position : ℕ → ℕ)
    (limit k n : ℕ) → AreBehind s position → IsUpTo s.arcs n → position n ≡ k + 1 →
    0 < reach s depth round best n → best (s.from n) < weight n + reach s depth round best n →
    Puts best best2 (s.from n) (weight n + reach s depth round best n) → Puts choice choice2 (s.from n) n →
    IsSoFar s depth round weight best choice position limit k →
    IsSoFar s depth round weight best2 choice2 position limit (k + 1)
so_far-better s depth round weight best best2 choice choice2 position limit k n order up at leads more bests choices far =
    record {
      room = far.room;
      low = low;
      closed = closed;
      up = λ p some. at_each (λ (q : ℕ). 0 < best2 q → IsUpTo s.arcs (choice2 q))
          (λ h. subst (λ (j : ℕ). IsUpTo s.arcs j) (sym choices.here) up)
          (λ q differ h. subst (λ (j : ℕ). IsUpTo s.arcs j) (sym (choices.others q differ)) (far.up q (was q differ h)))
          p some;
      known = λ p some. at_each (λ (q : ℕ). 0 < best2 q → position (choice2 q) ≤ k + 1)
          (λ h. omega (arith, ap position choices.here, at))
          (λ q differ h. omega (arith, ap position (choices.others q differ), far.known q (was q differ h)))
          p some;
      leaves = λ p some. at_each (λ (q : ℕ). 0 < best2 q → s.from (choice2 q) ≡ q)
          (λ h. ap s.from choices.here)
          (λ q differ h. ap s.from (choices.others q differ) ∙ far.leaves q (was q differ h))
          p some;
      leads = λ p some. at_each (λ (q : ℕ). 0 < best2 q → 0 < reach s depth round best2 (choice2 q))
          (λ h. omega (arith, ap (reach s depth round best2) choices.here, same n up (omega arith), leads))
          (λ q differ h. omega (
            arith,
            ap (reach s depth round best2) (choices.others q differ),
            same (choice q) (far.up q (was q differ h)) (omega (arith, far.known q (was q differ h), at)),
            far.leads q (was q differ h),
          ))
          p some;
      tight = λ p some. at_each
          (λ (q : ℕ). 0 < best2 q → best2 q ≡ weight (choice2 q) + reach s depth round best2 (choice2 q))
          (λ h. omega (
            arith,
            bests.here,
            ap (reach s depth round best2) choices.here,
            ap weight choices.here,
            same n up (omega arith),
          ))
          (λ q differ h. omega (
            arith,
            bests.others q differ,
            ap (reach s depth round best2) (choices.others q differ),
            ap weight (choices.others q differ),
            same (choice q) (far.up q (was q differ h)) (omega (arith, far.known q (was q differ h), at)),
            far.tight q (was q differ h),
          ))
          p some;
    }
  where
    same : (i : ℕ) → IsUpTo s.arcs i → position i ≤ position n →
        reach s depth round best2 i ≡ reach s depth round best i
    same i u early = reach_same s depth round best best2 position n (weight n + reach s depth round best n) i order up u
        early bests

    was : (q : ℕ) → (q ≡ s.from n → ⊥) → 0 < best2 q → 0 < best q
    was q differ h = omega (arith, h, bests.others q differ)

    at_each : (P : ℕ → Type 0) → P (s.from n) → ((q : ℕ) → (q ≡ s.from n → ⊥) → P q) → (p : ℕ) → P p
    at_each P here others p = elim (cases_eq p (s.from n)) as (λ _. P p) [
      | inl e ↦ subst P (sym e) here
      | inr differ ↦ others p differ
    ]

    low : (p : ℕ) → best2 p ≤ far.room.most p + 1
    low p = at_each (λ (q : ℕ). best2 q ≤ far.room.most q + 1)
        (omega (
          arith,
          bests.here,
          room-behind s depth round weight best choice position limit k n far up leads,
        ))
        (λ q differ. omega (arith, bests.others q differ, far.low q)) p

    closed : (i : ℕ) → IsUpTo s.arcs i → position i ≤ k + 1 → 0 < reach s depth round best2 i →
        weight i + reach s depth round best2 i ≤ best2 (s.from i)
    closed i u early some = elim (cases_eq (position i) (k + 1))
        as (λ _. weight i + reach s depth round best2 i ≤ best2 (s.from i)) [
          | inl e ↦ subst (λ (j : ℕ). weight j + reach s depth round best2 j ≤ best2 (s.from j))
              (order.one n i up u (at ∙ sym e)) (omega (arith, bests.here, same n up (omega arith)))
          | inr differ ↦ grown i u (omega (arith, early, differ)) some
        ]
      where
        grown : (i : ℕ) → IsUpTo s.arcs i → position i ≤ k → 0 < reach s depth round best2 i →
            weight i + reach s depth round best2 i ≤ best2 (s.from i)
        grown i u early some =
            let old = same i u (omega (arith, early, at)) in
            let before = far.closed i u early (omega (arith, old, some)) in
            elim (cases_eq (s.from i) (s.from n)) as (λ _. weight i + reach s depth round best2 i ≤ best2 (s.from i)) [
              | inl e ↦ omega (arith, before, old, ap best2 e, ap best e, bests.here, more)
              | inr differ ↦ omega (arith, before, old, bests.others (s.from i) differ)
            ]

pub so_far-all : (s : Shape) (depth : ℕ) (round weight best choice position : ℕ → ℕ) (limit k : ℕ) →
    ((i : ℕ) → IsUpTo s.arcs i → position i ≤ k) →
    IsSoFar s depth round weight best choice position limit k → IsSwept s depth round weight best choice
so_far-all s depth round weight best choice position limit k all far = record {
  closed = λ i u some. far.closed i u (all i u) some;
  up = far.up;
  leaves = far.leaves;
  leads = far.leads;
  tight = far.tight;
}

pub so_far-small : (s : Shape) (depth : ℕ) (round weight best choice position : ℕ → ℕ) (limit k p : ℕ) →
    IsSoFar s depth round weight best choice position limit k → best p ≤ limit + 1
so_far-small s depth round weight best choice position limit k p far = omega (arith, far.low p, far.room.small p)
